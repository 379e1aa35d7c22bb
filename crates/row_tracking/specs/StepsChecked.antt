-- How the least id that fails is found: row by row, and among the ids in order.
use Rattle.std.specs.Prelude.{◌≡◌, ℕ, ◌<◌, ℤ, pos, Bool, true, false, ◌||◌, List, length, Option, Some, None, slice_index_or}
use Rattle.std.specs.Int.{int_min}
use Rattle.row_tracking.specs.Checked.{no_row, is_some_outside}
use Rattle.row_tracking.specs.declared.row_id.RowId.{RowId}

abbrev pub id_if : Bool → Option ℤ → Option ℤ
id_if true id = id
id_if false id = None

-- the id of a row that fails by this row alone
abbrev pub failing_id : ℤ → ℕ → RowId → Option ℤ
failing_id mark version row =
    id_if (is_some_outside mark row.id || is_some_outside (pos version) row.version) row.id

-- a row below a place has this id, which fails by that row alone
pub record FailsBelow (rows : List RowId) (mark : ℤ) (version high : ℕ) (id : ℤ) : Type 0 where
  pub place : ℕ
  pub below : place < high
  pub fails : failing_id mark version (slice_index_or rows place no_row) ≡ Some id

-- two elements of a list have this number
pub record IsRepeated {X : Type 0} (number : X → Option ℤ) (xs : List X) (n : ℤ) : Type 0 where
  pub first : ℕ
  pub second : ℕ
  pub apart : first < second
  pub within : second < length xs
  pub at_first : (d : X) → number (slice_index_or xs first d) ≡ Some n
  pub at_second : (d : X) → number (slice_index_or xs second d) ≡ Some n

-- the lesser of two that are there
abbrev pub lesser : Option ℤ → Option ℤ → Option ℤ
lesser None b = b
lesser (Some a) None = Some a
lesser (Some a) (Some b) = Some (int_min a b)
