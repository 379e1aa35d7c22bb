use Rattle.std.proofs.Common.{◌≡◌, ◌++◌, take}
use Rattle.column_vectors.proofs.column.Column.append.Given as goal

abbrev pub invariant-loop-row : goal.invariant-loop-row
invariant-loop-row g l = record { kind : l.self.kind ≡ l.initial.self.kind; values : l.self.values ≡ l.initial.self.values ++ take l.row l.more.values }
