use Rattle.std.proofs.Common.{take}
use Rattle.parquet_pages.specs.Storing.{IsStored}
use Rattle.parquet_pages.proofs.stored.stored_column.Given as goal

abbrev pub invariant-loop-row : goal.invariant-loop-row
invariant-loop-row l = IsStored l.column.kind (take l.row l.column.values) l.stored
