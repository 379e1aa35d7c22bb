use Rattle.std.proofs.Common.{◌≡◌, take}
use Rattle.column_vectors.specs.Cells.{gathered}
use Rattle.column_vectors.proofs.column.Column.gather.Given as goal

abbrev pub invariant-loop-place : goal.invariant-loop-place
invariant-loop-place g l = record { kind : l.column.kind ≡ l.self.kind; values : l.column.values ≡ gathered l.self.values (take l.place-index l.places) }
