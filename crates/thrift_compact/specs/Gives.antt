-- What reading a struct answers, beside what the bytes say.
use Rattle.std.specs.Prelude.{◌≡◌, ⊤, ℕ, List, Result, Ok, Err}
use Rattle.thrift_compact.specs.declared.tree.Field.{Field}
use Rattle.thrift_compact.specs.declared.fault.ThriftFault.{ThriftFault}
use Rattle.thrift_compact.specs.declared.fault.ThriftFault.TheVariants.{BadThrift, Memory}

-- the struct and its length, or the place of the fault; want of memory is free
abbrev pub Gives : Result (List Field × ℕ) ℕ → Result (List Field × ℕ) ThriftFault → Type 0
Gives known (Ok found) = known ≡ Ok found
Gives known (Err (BadThrift at)) = known ≡ Err at
Gives known (Err Memory) = ⊤
