-- What a page holds (Encodings.md; parquet.thrift, DataPageHeader): levels, and the values of those that are full.
use Rattle.std.specs.Prelude.{ℕ, ◌==◌, not, List, [], ◌∷◌, length, take, map, slice_get, slice_index, if◌then◌else◌, Option, Some, None, option_map}
use Rattle.std.specs.List.{filter, range_with_len}

pub record Page (A : Type 0) : Type 0 where
  -- 0 for a null and 1 for a value, entry after entry
  pub levels : List ℕ
  pub values : List A

-- how many of the levels are full
abbrev pub full : List ℕ → ℕ
full levels = length (filter (λ level. not (level == 0)) levels)

-- the k-th entry: null where its level is 0, and else the value whose place is the count of full levels before it
abbrev pub entry_at : {A : Type 0} → Page A → ℕ → Option A
entry_at page k = if slice_index page.levels k == 0 then None else slice_get page.values (full (take k page.levels))

abbrev pub entries : {A : Type 0} → Page A → List (Option A)
entries page = map (entry_at page) (range_with_len 0 (length page.levels))

-- all of them, where none is missing
unfoldable pub all_told : {A : Type 0} → List (Option A) → Option (List A)
all_told [] = Some []
all_told (None ∷ rest) = None
all_told (Some first ∷ rest) = option_map (λ more. first ∷ more) (all_told rest)

-- the values of a dictionary at these places; a place at its end or past it has none
abbrev pub looked_up : {A : Type 0} → List A → List ℕ → Option (List A)
looked_up dictionary places = all_told (map (slice_get dictionary) places)
