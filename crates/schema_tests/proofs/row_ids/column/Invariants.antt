use Rattle.std.proofs.Common.{◌≡◌, length}
use Rattle.dm_types.specs.declared.value.DataType.TheVariants.{Long}
use Rattle.schema_tests.proofs.row_ids.column.Given as goal

abbrev pub invariant-loop-number : goal.invariant-loop-number
invariant-loop-number l = (l.column.kind ≡ Long) × (length l.column.values ≡ l.number-index)
