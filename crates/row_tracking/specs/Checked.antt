-- Which ids of rows are unsound (PROTOCOL.md, "Row Tracking": row ids are unique in a version of a table, and none is
-- above the row id high water mark).
use Rattle.std.specs.Prelude.{◌≡◌, ℕ, ◌<◌, ℤ, pos, int_lt, ◌<ℤ◌, ◌≤ℤ◌, Bool, false, nat_lt, ◌||◌, List, ◌⊎◌, Option, Some, None, slice_index_or}
use Rattle.std.specs.Int.{int_min}
use Rattle.std.specs.List.{count_by, filter, filter_map, reduce}
use Rattle.std.specs.Ordering.{int_eq}
use Rattle.row_tracking.specs.declared.row_id.RowId.{RowId}

-- what is read past the last row
abbrev pub no_row : RowId
no_row = record { id = None; version = None }

-- the id of the row at a place, counted from 0
abbrev pub id_at : List RowId → ℕ → Option ℤ
id_at rows k = (slice_index_or rows k no_row).id

-- the commit version of the row at a place
abbrev pub version_at : List RowId → ℕ → Option ℤ
version_at rows k = (slice_index_or rows k no_row).version

-- a number is below 0 or above the greatest
abbrev pub IsOutside : ℤ → ℤ → Type 0
IsOutside greatest n = (n <ℤ pos 0) ⊎ (greatest <ℤ n)

-- an id fails: some row holds it, and one of three things is wrong
pub data Fails (rows : List RowId) (mark : ℤ) (version : ℕ) (id : ℤ) : Type 0 where
  -- it is below 0 or above the mark
  outside : (k : ℕ) → id_at rows k ≡ Some id → IsOutside mark id → Fails rows mark version id
  -- two rows hold it
  held_twice : (j k : ℕ) → j < k → id_at rows j ≡ Some id → id_at rows k ≡ Some id → Fails rows mark version id
  -- a row that holds it has a commit version that is below 0 or above the table's
  misdated : (k : ℕ) (v : ℤ) → id_at rows k ≡ Some id → version_at rows k ≡ Some v → IsOutside (pos version) v
      → Fails rows mark version id

-- the least number of a kind, and None exactly where there is none
abbrev pub IsLeast : (ℤ → Type 0) → Option ℤ → Type 0
IsLeast Kind None = (n : ℤ) → ¬ Kind n
IsLeast Kind (Some least) = Kind least × ((n : ℤ) → Kind n → least ≤ℤ n)

-- ---- the least id that fails, as a function of the rows

-- a test of `IsOutside`
abbrev pub is_outside : ℤ → ℤ → Bool
is_outside greatest n = int_lt n (pos 0) || int_lt greatest n

-- a number is there and outside
abbrev pub is_some_outside : ℤ → Option ℤ → Bool
is_some_outside greatest None = false
is_some_outside greatest (Some n) = is_outside greatest n

-- this number is there
abbrev pub is_number : ℤ → Option ℤ → Bool
is_number n None = false
is_number n (Some m) = int_eq m n

-- an id is there, and more than one of the rows hold it
abbrev pub is_shared : List RowId → Option ℤ → Bool
is_shared rows None = false
is_shared rows (Some id) = nat_lt 1 (count_by (λ row. is_number id row.id) rows)

-- one of three things is wrong with a row: its id is outside, or another row holds it too, or its commit version is
-- outside
abbrev pub is_unsound : List RowId → ℤ → ℕ → RowId → Bool
is_unsound rows mark version row =
    is_some_outside mark row.id || is_shared rows row.id || is_some_outside (pos version) row.version

-- the least of the ids that unsound rows have
abbrev pub least_failing : List RowId → ℤ → ℕ → Option ℤ
least_failing rows mark version =
    reduce int_min (filter_map (λ row. row.id) (filter (is_unsound rows mark version) rows))
