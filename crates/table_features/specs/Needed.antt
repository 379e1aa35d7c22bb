-- The features that a table needs of its writers (PROTOCOL.md, "Table Features").
use Rattle.std.specs.Prelude.{ℕ, List, [], ◌∷◌, map, Bool, true, false, ◌||◌, Option, Some, None, is_some, codes, nat_eq}
use Rattle.std.specs.List.{filter, list_any, starts_with}
use Rattle.std.specs.Str.{bytes_eq}
use Rattle.delta_schema.specs.declared.schema.ColumnDef.{ColumnDef}
use Rattle.table_features.specs.Properties.{is_true_in, text_under}

-- a property of this name is a constraint that rows are to meet (PROTOCOL.md, "CHECK Constraints")
abbrev pub is_check : List ℕ → Bool
is_check name = starts_with nat_eq name (codes "delta.constraints.")

abbrev pub has_checks : List (List ℕ × List ℕ) → Bool
has_checks pairs = list_any (λ pair. is_check pair.0) pairs

-- data files hold the columns by physical names or by ids (PROTOCOL.md, "Column Mapping")
abbrev pub maps : Option (List ℕ) → Bool
maps None = false
maps (Some mode) = bytes_eq mode (codes "name") || bytes_eq mode (codes "id")

abbrev pub is_mapped : List (List ℕ × List ℕ) → Bool
is_mapped pairs = maps (text_under pairs (codes "delta.columnMapping.mode"))

-- the features that a new table may need, in byte order of their names, each with whether it is used
abbrev pub features : List ColumnDef → List (List ℕ × List ℕ) → List (List ℕ × Bool)
features schema configuration =
    (codes "appendOnly", true)
    ∷ (codes "changeDataFeed", is_true_in configuration (codes "delta.enableChangeDataFeed"))
    ∷ (codes "checkConstraints", has_checks configuration)
    ∷ (codes "columnMapping", is_mapped configuration)
    ∷ (codes "domainMetadata", true)
    ∷ (codes "generatedColumns", list_any (λ column. is_some column.generation) schema)
    ∷ (codes "identityColumns", list_any (λ column. is_some column.identity) schema)
    ∷ (codes "invariants", true)
    ∷ (codes "rowTracking", true)
    ∷ []

-- the names of those that are used
abbrev pub names_used : List (List ℕ × Bool) → List (List ℕ)
names_used list = map (λ feature. feature.0) (filter (λ feature. feature.1) list)

-- the writer features of a new table
unfoldable pub needed : List ColumnDef → List (List ℕ × List ℕ) → List (List ℕ)
needed schema configuration = names_used (features schema configuration)
