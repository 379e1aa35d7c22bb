-- What is wrong with the definition of a new table, by its places.
use Rattle.std.specs.Prelude.{ℕ, min, nat_eq, List, [], ◌∷◌, ◌++◌, map, take, drop, Bool, true, false, not, ◌&&◌, ◌||◌, Option, Some, None, is_none, codes, if◌then◌else◌}
use Rattle.std.specs.List.{filter_map, find, list_all, list_any, reduce, starts_with}
use Rattle.std.specs.Option.{option_map_or}
use Rattle.std.specs.Str.{bytes_eq}
use Rattle.data_file.specs.declared.columns.TheConstants.{CHANGE_TYPE}
use Rattle.delta_schema.specs.Metadata.{is_zero}
use Rattle.delta_schema.specs.declared.columns.TheConstants.{MAX_COLUMNS}
use Rattle.dm_types.specs.declared.value.DataType.TheVariants as kind
use Rattle.row_rules.specs.Texts.{check_of, generation_of}
use Rattle.sql_statements.specs.declared.CheckElement.{CheckElement}
use Rattle.sql_statements.specs.declared.ColumnElement.{ColumnElement}
use Rattle.sql_statements.specs.declared.CreateStmt.{CreateStmt}
use Rattle.sql_statements.specs.declared.Element.{Element}
use Rattle.sql_statements.specs.declared.Made.{Made}
use Rattle.sql_statements.specs.declared.Made.TheVariants as made
use Rattle.sql_statements.specs.declared.Property.{Property}
use Rattle.sql_tree.specs.Spans.{span_of}
use Rattle.sql_tree.specs.declared.tree.Name.{Name}
use Rattle.sql_tree.specs.declared.tree.WrittenKind.{WrittenKind}
use Rattle.sql_tree.specs.declared.tree.WrittenKind.TheVariants as written
use Rattle.table_make.specs.Elements.{check_name, checks, column_name, columns, is_among, is_same, place_of, with_before}
use Rattle.table_make.specs.Seen.{is_bad_decimal, seen_by_checks, seen_by_generations, type_of}
use Rattle.typed_expr.specs.declared.scope.ScopeColumn.{ScopeColumn}

-- a place where something is at fault
abbrev pub at_if : Bool → ℕ → Option ℕ
at_if wrong place = if wrong then Some place else None

-- ---- the mapping mode

abbrev pub mode_key : List ℕ
mode_key = codes "delta.columnMapping.mode"

abbrev pub is_one_of : List (List ℕ) → List ℕ → Bool
is_one_of texts text = list_any (bytes_eq text) texts

abbrev pub is_mode : Property → Bool
is_mode property = bytes_eq property.key mode_key

-- data files hold columns by their ids or physical names (PROTOCOL.md, "Column Mapping")
abbrev pub maps_columns : Property → Bool
maps_columns property = is_one_of (codes "name" ∷ codes "id" ∷ []) property.value

-- by the first property with the key
abbrev pub is_mapped : List Property → Bool
is_mapped properties = option_map_or maps_columns (find is_mode properties) false

-- ---- columns

-- a name that an earlier column or constraint has
abbrev pub double : {A : Type 0} → (A → Name) → A × Bool → Option ℕ
double name_of (a, doubled) = at_if doubled (name_of a).span.start

-- what no name has where data files hold columns by their names: a space, `,`, `;`, `{`, `}`, `(`, `)`, a line feed, a
-- tab, `=`
abbrev pub special : List ℕ
special = 32 ∷ 44 ∷ 59 ∷ 123 ∷ 125 ∷ 40 ∷ 41 ∷ 10 ∷ 9 ∷ 61 ∷ []

unfoldable pub is_special : ℕ → Bool
is_special b = list_any (λ other. nat_eq other b) special

-- what change files and rows have beside the columns (PROTOCOL.md, "Change Data Files", "Row Tracking")
unfoldable pub is_reserved : List ℕ → Bool
is_reserved name =
    is_one_of (CHANGE_TYPE.now ∷ codes "_commit_version" ∷ codes "_commit_timestamp" ∷ []) name
    || starts_with nat_eq name (codes "_row-id-col-") || starts_with nat_eq name (codes "_row-commit-version-col-")

-- a name that no column may have
abbrev pub is_forbidden : Bool → List ℕ → Bool
is_forbidden mapped name = not mapped && list_any is_special name || is_reserved name

abbrev pub misnamed : Bool → ColumnElement × Bool → Option ℕ
misnamed mapped (column, doubled) = at_if (is_forbidden mapped column.name.text) column.name.span.start

-- a table has so many columns and no more
abbrev pub name_place : ColumnElement × Bool → ℕ
name_place (column, doubled) = column.name.span.start

abbrev pub beyond : List (ColumnElement × Bool) → List ℕ
beyond columns = map name_place (drop MAX_COLUMNS columns)

-- a bad DECIMAL
abbrev pub untyped : ColumnElement × Bool → Option ℕ
untyped (column, doubled) = at_if (is_bad_decimal column.kind.kind) column.kind.span.start

-- a table that has no column, at its first element
abbrev pub columnless : List (ColumnElement × Bool) → List Element → List ℕ
columnless [] elements = map place_of (take 1 elements)
columnless (column ∷ more) elements = []

-- ---- how values are made

abbrev pub is_long : WrittenKind → Bool
is_long (written.Type kind.Long) = true
is_long _ = false

abbrev pub is_binary : WrittenKind → Bool
is_binary (written.Type kind.Binary) = true
is_binary _ = false

-- an identity that isn't BIGINT or has step 0 (PROTOCOL.md, "Identity Columns")
abbrev pub bad_identity : WrittenKind → Option Made → Option ℕ
bad_identity type None = None
bad_identity type (Some (made.Generated rule)) = None
bad_identity type (Some (made.Identity identity)) =
    at_if (not (is_long type) || is_zero identity.step) identity.place.start

abbrev pub unidentified : ColumnElement × Bool → Option ℕ
unidentified (column, doubled) = bad_identity column.kind.kind column.made

-- a generation expression that has no type over what it sees, or can't be assigned to its column's
abbrev pub bad_generation : List ScopeColumn → WrittenKind → Option Made → Option ℕ
bad_generation scope type None = None
bad_generation scope type (Some (made.Generated rule)) =
    at_if (is_none (generation_of scope (type_of type) rule.text)) (span_of rule.expr).start
bad_generation scope type (Some (made.Identity identity)) = None

abbrev pub ungenerated : List ScopeColumn → ColumnElement × Bool → Option ℕ
ungenerated scope (column, doubled) = bad_generation scope column.kind.kind column.made

-- ---- constraints

-- a CHECK that isn't BOOLEAN over what it sees
abbrev pub unchecked : List ScopeColumn → CheckElement × Bool → Option ℕ
unchecked scope (check, doubled) = at_if (is_none (check_of scope check.rule.text)) (span_of check.rule.expr).start

-- ---- partition columns

-- the column has this name
abbrev pub has_name : Name → ColumnElement × Bool → Bool
has_name name (column, doubled) = is_same name column.name

-- no table is partitioned by bytes
abbrev pub is_binary_column : Name → ColumnElement × Bool → Bool
is_binary_column name (column, doubled) = is_same name column.name && is_binary column.kind.kind

-- the column has one of these names
abbrev pub is_named_by : List Name → ColumnElement × Bool → Bool
is_named_by names (column, doubled) = is_among names column.name

-- a name of no column, one that is named before, one of a BINARY column, or the one with which no column is left
abbrev pub is_bad_partition : List (ColumnElement × Bool) → List Name → Name → Bool
is_bad_partition columns before name =
    not (list_any (has_name name) columns) || is_among before name || list_any (is_binary_column name) columns
    || list_all (is_named_by (before ++ name ∷ [])) columns

abbrev pub unparted : List (ColumnElement × Bool) → List Name × Name → Option ℕ
unparted columns (before, name) = at_if (is_bad_partition columns before name) name.span.start

-- ---- properties

-- what a new table may be told
abbrev pub is_allowed : Property → Bool
is_allowed property =
    is_one_of (codes "delta.enableChangeDataFeed" ∷ codes "delta.appendOnly" ∷ []) property.key
    && is_one_of (codes "true" ∷ codes "false" ∷ []) property.value
    || is_mode property && is_one_of (codes "none" ∷ codes "name" ∷ codes "id" ∷ []) property.value

abbrev pub has_key : List ℕ → Property → Bool
has_key key property = bytes_eq key property.key

-- one that isn't allowed, or whose key is given before
abbrev pub is_bad_property : List Property → Property → Bool
is_bad_property before property = not (is_allowed property) || list_any (has_key property.key) before

abbrev pub improper : List Property × Property → Option ℕ
improper (before, property) = at_if (is_bad_property before property) property.place.start

-- ---- all of them

-- the faults of columns
abbrev pub column_faults : Bool → List (ColumnElement × Bool) → List ℕ
column_faults mapped columns =
    filter_map (double column_name) columns ++ filter_map (misnamed mapped) columns ++ beyond columns
    ++ filter_map untyped columns ++ filter_map unidentified columns

-- those of rules
abbrev pub rule_faults : List (ColumnElement × Bool) → List (CheckElement × Bool) → List ℕ
rule_faults columns checks =
    filter_map (ungenerated (seen_by_generations columns)) columns
    ++ filter_map (unchecked (seen_by_checks columns)) checks

-- the places of all faults, kind by kind
unfoldable pub faults : CreateStmt → List ℕ
faults stmt =
    let all = columns stmt.elements in
    let rules = checks stmt.elements in
    column_faults (is_mapped stmt.properties) all
    ++ columnless all stmt.elements
    ++ filter_map (double check_name) rules
    ++ rule_faults all rules
    ++ filter_map (unparted all) (with_before stmt.partitions)
    ++ filter_map improper (with_before stmt.properties)

-- the least of them, and none exactly where there is none
unfoldable pub first_fault : CreateStmt → Option ℕ
first_fault stmt = reduce min (faults stmt)
