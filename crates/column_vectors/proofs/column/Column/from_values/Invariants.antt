use Rattle.std.proofs.Common.{◌≡◌, take}
use Rattle.column_vectors.proofs.column.Column.from_values.Given as goal

abbrev pub invariant-loop-value : goal.invariant-loop-value
invariant-loop-value g l = record { kind : l.column.kind ≡ l.kind; values : l.column.values ≡ take l.value-index l.values }
