-- What a reader returned, beside what its input says.
use Rattle.std.specs.Prelude.{◌≡◌, ⊤, Option, Some, None, Result, Ok, Err}
use Rattle.level_runs.specs.declared.fault.RunFault.{RunFault}
use Rattle.level_runs.specs.declared.fault.RunFault.TheVariants as runs
use Rattle.parquet_meta.specs.declared.fault.MetaFault.{MetaFault}
use Rattle.parquet_meta.specs.declared.fault.MetaFault.TheVariants as meta
use Rattle.plain_values.specs.declared.fault.PlainFault.{PlainFault}
use Rattle.plain_values.specs.declared.fault.PlainFault.TheVariants as plain
use Rattle.parquet_pages.specs.Pages.{Answer}
use Rattle.parquet_pages.specs.declared.fault.FileFault.{FileFault}
use Rattle.parquet_pages.specs.declared.fault.FileFault.TheVariants as fault

-- what there is, seen by `view`, or the first fault; want of memory is free
abbrev pub Gives : {X A : Type 0} → (X → A) → Answer A → Result X FileFault → Type 0
Gives view known (Ok found) = known ≡ Ok (view found)
Gives view known (Err fault.Memory) = ⊤
Gives view known (Err other) = known ≡ Err other

-- what there is, or BadParquet where there is nothing
abbrev pub GivesBody : {X A : Type 0} → (X → A) → Option A → Result X FileFault → Type 0
GivesBody view known (Ok found) = known ≡ Some (view found)
GivesBody view known (Err fault.BadParquet) = known ≡ None
GivesBody view known (Err fault.Memory) = ⊤
GivesBody view known (Err other) = ⊥

abbrev pub of_plain : PlainFault → FileFault
of_plain plain.Short = fault.BadParquet
of_plain plain.Extra = fault.BadParquet
of_plain plain.Memory = fault.Memory

abbrev pub of_runs : RunFault → FileFault
of_runs runs.BadRuns = fault.BadParquet
of_runs runs.Memory = fault.Memory

abbrev pub of_meta : MetaFault → FileFault
of_meta meta.BadFooter = fault.BadParquet
of_meta meta.Memory = fault.Memory
