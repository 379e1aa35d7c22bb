-- What a reader returned, beside what its input says.
use Rattle.std.specs.Prelude.{◌≡◌, ⊤, Option, Some, None, Result, Ok, Err}
use Rattle.parquet_meta.specs.declared.fault.MetaFault.{MetaFault}
use Rattle.parquet_meta.specs.declared.fault.MetaFault.TheVariants.{BadFooter, Memory}

-- the value that there is, or BadFooter where there is none
abbrev pub Gives : {A : Type 0} → Option A → Result A MetaFault → Type 0
Gives known (Ok a) = known ≡ Some a
Gives known (Err BadFooter) = known ≡ None
Gives known (Err Memory) = ⊤
