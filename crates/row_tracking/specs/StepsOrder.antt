-- How rows are put in order: their ids with their places are sorted.
use Rattle.std.specs.Prelude.{ℕ, ℤ, List, length, map, Option}
use Rattle.std.specs.List.{range_with_len}
use Rattle.row_tracking.specs.Checked.{id_at}
use Rattle.row_tracking.specs.declared.row_id.RowId.{RowId}

-- the id at a place, and the place
abbrev pub keyed : List RowId → ℕ → Option ℤ × ℕ
keyed rows place = (id_at rows place, place)

abbrev pub all_keyed : List RowId → List (Option ℤ × ℕ)
all_keyed rows = map (keyed rows) (range_with_len 0 (length rows))
