use Rattle.std.proofs.Common.{◌≡◌, length}
use Rattle.dm_types.specs.declared.value.DataType.TheVariants as kind
use Rattle.evaluation_tests.proofs.speed.digits.Given as goal

abbrev pub invariant-loop-row : goal.invariant-loop-row
invariant-loop-row l = record { kind : l.column.kind ≡ kind.Integer; rows : length l.column.values ≡ l.row }
