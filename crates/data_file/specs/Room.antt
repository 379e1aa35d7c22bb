-- What there is of a file, or the first fault, and what is left of the two limits of a table version.
use Rattle.std.specs.Prelude.{ℕ, ◌-◌, nat_le, Option, Some, None, Result, Ok, Err, if◌then◌else◌}
use Rattle.dm_types.specs.declared.refusal.Counted.{Counted}
use Rattle.data_file.specs.declared.fault.PartFault.{PartFault}
use Rattle.data_file.specs.declared.fault.PartFault.TheVariants as fault

-- what there is, or the first fault, which is never Memory
abbrev pub Answer : Type 0 → Type 0
Answer A = Result A PartFault

-- what there is, or else the fault
abbrev pub or_else : {A : Type 0} → PartFault → Option A → Answer A
or_else fault None = Err fault
or_else fault (Some found) = Ok found

-- what is left where so much is taken
abbrev pub less : Counted → ℕ → ℕ → Answer ℕ
less counted size left = if nat_le size left then Ok (left - size) else Err (fault.TooLarge counted)
