-- What a reader of a text returned, beside the value that the text is of.
use Rattle.std.specs.Prelude.{◌≡◌, ⊤, Option, Some, None, Result, Ok, Err}
use Rattle.dm_types.specs.declared.value.Value.{Value}
use Rattle.dm_text.specs.declared.fault.TextFault.{TextFault}
use Rattle.dm_text.specs.declared.fault.TextFault.TheVariants as fault

-- the value, or that the text is of none
abbrev pub ReadsText : Option Value → Result Value TextFault → Type 0
ReadsText known (Ok v) = known ≡ Some v
ReadsText known (Err fault.BadText) = known ≡ None
ReadsText known (Err fault.Memory) = ⊤
