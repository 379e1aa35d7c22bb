-- Rows one after another.
use Rattle.std.specs.Prelude.{◌≡◌, ℕ, ◌<◌, List, length, slice_get, Some}
use Rattle.row_tracking.specs.declared.row_id.RowId.{RowId}

-- so many rows, each the one that its position says
pub record AreRows (row : ℕ → RowId) (count : ℕ) (rows : List RowId) : Type 0 where
  pub counted : length rows ≡ count
  pub each : (k : ℕ) → k < count → slice_get rows k ≡ Some (row k)
