use Rattle.std.proofs.Common.{◌≡◌, ℕ, ◌<◌}
use Rattle.std.specs.Prelude.{slice_get, Some, All}
use Rattle.column_vectors.specs.Cells.{Cells}
use Rattle.dm_types.specs.Lanes.{IsNullOrOf}
use Rattle.vector_eval.proofs.batches.are_typed.Given as goal

abbrev pub invariant-loop-column : goal.invariant-loop-column
invariant-loop-column l = (place : ℕ) (c : Cells) → place < l.column-index → slice_get l.columns place ≡ Some c → All (IsNullOrOf c.kind) c.values
