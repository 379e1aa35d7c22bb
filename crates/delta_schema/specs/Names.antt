-- The names of columns.
use Rattle.std.specs.Prelude.{ℕ, List, [], ◌∷◌, Bool, true, false, not, ◌&&◌, ◌||◌}
use Rattle.std.specs.List.{list_all, list_any}
use Rattle.std.specs.Str.{bytes_eq, str_eq_ignore_ascii_case}

-- the name is among these, byte for byte
abbrev pub is_among : List (List ℕ) → List ℕ → Bool
is_among names name = list_any (bytes_eq name) names

abbrev pub is_empty : List ℕ → Bool
is_empty [] = true
is_empty (b ∷ bs) = false

-- two of the names are equal up to the case of ASCII letters (PROTOCOL.md, "Schema Serialization Format": names of
-- columns are case insensitive)
abbrev pub has_twins : List (List ℕ) → Bool
has_twins [] = false
has_twins (name ∷ names) = list_any (str_eq_ignore_ascii_case name) names || has_twins names

-- the names of the columns and those of the partition columns stand together: no name is empty or there twice, each
-- partition column is a column, and some column isn't a partition column
abbrev pub are_good_names : List (List ℕ) → List (List ℕ) → Bool
are_good_names names partitions =
    not (list_any is_empty names)
    && not (has_twins names)
    && list_all (is_among names) partitions
    && not (list_all (is_among partitions) names)
