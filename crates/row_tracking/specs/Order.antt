-- The order of rows by their ids.
use Rattle.std.specs.Prelude.{◌≡◌, ℕ, ◌<◌, List, [], ◌∷◌, length, map, slice_index_or, if◌then◌else◌}
use Rattle.std.specs.List.{range_with_len}
use Rattle.std.specs.Option.{option_cmp}
use Rattle.std.specs.Ordering.{int_cmp, nat_cmp, is_lt, ordering_then}
use Rattle.std.specs.declared.cmp.Ordering.{Ordering}
use Rattle.row_tracking.specs.Checked.{id_at, no_row}
use Rattle.row_tracking.specs.declared.row_id.RowId.{RowId}

-- two places of rows by the ids there, a row without an id before each that has one; by the places themselves where the
-- ids are the same
abbrev pub by_id : List RowId → ℕ → ℕ → Ordering
by_id rows a b = ordering_then (option_cmp int_cmp (id_at rows a) (id_at rows b)) (nat_cmp a b)

-- a place at its position among places in order
unfoldable pub placed : List RowId → ℕ → List ℕ → List ℕ
placed rows place [] = place ∷ []
placed rows place (first ∷ rest) =
    if is_lt (by_id rows first place) then first ∷ placed rows place rest else place ∷ first ∷ rest

unfoldable pub ordered : List RowId → List ℕ → List ℕ
ordered rows [] = []
ordered rows (place ∷ places) = placed rows place (ordered rows places)

-- the places of the rows, counted from 0, in ascending order of the ids there
unfoldable pub in_id_order : List RowId → List ℕ
in_id_order rows = ordered rows (range_with_len 0 (length rows))

-- the rows in this order
abbrev pub rows_by_id : List RowId → List RowId
rows_by_id rows = map (λ place. slice_index_or rows place no_row) (in_id_order rows)

-- no two rows have the same id, and at most one has none
abbrev pub HasDistinctIds : List RowId → Type 0
HasDistinctIds rows = (j k : ℕ) → j < k → k < length rows → ¬ (id_at rows j ≡ id_at rows k)
