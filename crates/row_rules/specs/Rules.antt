-- The rules of a table's rows, or the first that can't be kept.
use Rattle.std.specs.Prelude.{ℕ, List, [], ◌∷◌, ◌++◌, length, Bool, false, true, not, ◌&&◌, ◌||◌, Option, Some, None, is_none, option_map, unwrap_or, codes, nat_lt, Result, Ok, Err, if◌then◌else◌}
use Rattle.std.specs.List.{filter_map, list_any}
use Rattle.std.specs.Option.{ok_or}
use Rattle.std.specs.Str.{bytes_eq}
use Rattle.column_mapping.specs.declared.mode.Mode.{Mode}
use Rattle.column_mapping.specs.declared.mode.Mode.TheVariants as mode
use Rattle.data_file.specs.declared.columns.TheConstants.{CHANGE_TYPE}
use Rattle.delta_schema.specs.Metadata.{identity_names}
use Rattle.delta_schema.specs.Types.{behind}
use Rattle.delta_schema.specs.declared.schema.ColumnDef.{ColumnDef}
use Rattle.dm_types.specs.Then.{go}
use Rattle.dm_types.specs.declared.refusal.TableRefusal.{TableRefusal}
use Rattle.dm_types.specs.declared.refusal.TableRefusal.TheVariants as table
use Rattle.row_rules.specs.Texts.{check_of, generation_of, seen_by_checks, seen_by_generations}
use Rattle.row_rules.specs.declared.columns.TheConstants.{MAX_NAME}
use Rattle.row_rules.specs.declared.rules.CheckRule.{CheckRule}
use Rattle.row_rules.specs.declared.rules.ColumnRule.{ColumnRule}
use Rattle.row_rules.specs.declared.rules.Rules.{Rules}
use Rattle.table_load.specs.Files.{columns_of}
use Rattle.table_load.specs.Properties.{is_on, tracks_rows}
use Rattle.table_load.specs.declared.head.Head.{Head}
use Rattle.typed_expr.specs.declared.scope.ScopeColumn.{ScopeColumn}
use Rattle.typed_expr.specs.declared.tree.TypedExpr.{TypedExpr}

-- each of these comes to something, behind what was found; else the first that doesn't
unfoldable pub each : {A B E : Type 0} → (A → Result B E) → List B → List A → Result (List B) E
each rule found [] = Ok found
each rule found (a ∷ more) = go (rule a) (λ b. each rule (found ++ b ∷ []) more)

-- ---- columns

-- some members of an identity, and no identity (PROTOCOL.md, "Identity Columns")
abbrev pub has_broken_identity : ColumnDef → Bool
has_broken_identity column =
    is_none column.identity && list_any (λ pair. list_any (bytes_eq pair.0) identity_names) column.other

-- the name under which data files hold a column (PROTOCOL.md, "Column Mapping")
abbrev pub name_in_files : Mode → ColumnDef → List ℕ
name_in_files mode.Plain column = column.name
name_in_files mode.ByName column = unwrap_or column.physical []
name_in_files mode.ById column = unwrap_or column.physical []

-- a name that no data file may have, nor, with the change feed on, a change file beside its own `_change_type`
abbrev pub is_forbidden : Bool → List ℕ → Bool
is_forbidden feed name = nat_lt MAX_NAME (length name) || feed && bytes_eq name CHANGE_TYPE.now

-- partition columns aren't in files
abbrev pub has_forbidden_name : Bool → Mode → ColumnDef → Bool
has_forbidden_name feed mode column = not column.partition && is_forbidden feed (name_in_files mode column)

-- a column that can't be written, whatever its generation expression: no invariant can be kept (PROTOCOL.md, "Column
-- Invariants")
abbrev pub is_unkept : Bool → Mode → ColumnDef → Bool
is_unkept feed mode column =
    column.invariant || has_broken_identity column || has_forbidden_name feed mode column

-- the tree of a generation expression, where there is one; None is one that has no tree
abbrev pub generation_in : List ScopeColumn → ColumnDef → Option (List ℕ) → Option (Option TypedExpr)
generation_in scope column None = Some None
generation_in scope column (Some text) = option_map Some (generation_of scope column.kind text)

abbrev pub rule_with : ColumnDef → Option TypedExpr → ColumnRule
rule_with column generation = record {
  kind = column.kind;
  nullable = column.nullable;
  partition = column.partition;
  identity = column.identity;
  generation = generation;
}

-- the rule of a column, or its name
abbrev pub column_rule : Bool → Mode → List ScopeColumn → ColumnDef → Result ColumnRule (List ℕ)
column_rule feed mode scope column =
    if is_unkept feed mode column then Err column.name
    else ok_or (option_map (rule_with column) (generation_in scope column column.generation)) column.name

-- ---- constraints

abbrev pub constraint_prefix : List ℕ
constraint_prefix = codes "delta.constraints."

-- the constraint that a property is, by its name and its text (PROTOCOL.md, "CHECK Constraints")
abbrev pub constraint_of : List ℕ × List ℕ → Option (List ℕ × List ℕ)
constraint_of pair = option_map (λ name. (name, pair.1)) (behind constraint_prefix pair.0)

abbrev pub check_with : List ℕ → TypedExpr → CheckRule
check_with name condition = record { name = name; condition = condition }

-- the rule of a constraint, or its name
abbrev pub check_rule : List ScopeColumn → List ℕ × List ℕ → Result CheckRule (List ℕ)
check_rule scope check = ok_or (option_map (check_with check.0) (check_of scope check.1)) check.0

-- ---- a table

abbrev pub rules_with : List ColumnRule → List CheckRule → Rules
rules_with columns checks = record { columns = columns; checks = checks }

-- the rules of the columns, in the order of the schema
abbrev pub column_rules : Head → Result (List ColumnRule) (List ℕ)
column_rules head =
    let feed = is_on head.snapshot (codes "delta.enableChangeDataFeed") in
    each (column_rule feed head.mode (seen_by_generations head.schema)) [] head.schema

-- those of the constraints, in the order of the configuration, which is the byte order of their names
abbrev pub check_rules : Head → Result (List CheckRule) (List ℕ)
check_rules head =
    each (check_rule (seen_by_checks head.schema)) []
    (filter_map constraint_of (unwrap_or head.snapshot.metadata.configuration []))

-- ---- materialized columns (PROTOCOL.md, "Row Tracking")

-- a column that data files hold under this name
abbrev pub is_named : Mode → List ℕ → ColumnDef → Bool
is_named mode name column = not column.partition && bytes_eq (name_in_files mode column) name

-- a name that data files can have beside the columns, and change files too
abbrev pub is_free : Head → List ℕ → Bool
is_free head name = not (is_forbidden true name || list_any (is_named head.mode name) head.schema)

-- both are there, differ, and are free
abbrev pub are_free : Head → Option (List ℕ) → Option (List ℕ) → Bool
are_free head None versions = false
are_free head (Some ids) None = false
are_free head (Some ids) (Some versions) =
    not (bytes_eq ids versions) && is_free head ids && is_free head versions

-- rows that are tracked have columns for their ids and commit versions
abbrev pub keeps_ids : Head → Bool
keeps_ids head =
    let read = columns_of false head in
    not (tracks_rows head.snapshot) || are_free head read.ids read.versions

-- ---- all rules

abbrev pub tracking : Head → Result (Unit {0}) (List ℕ)
tracking head = if keeps_ids head then Ok tt else Err (codes "delta.rowTracking")

-- columns come before constraints, and row tracking comes last
unfoldable pub rules_of : Head → Result Rules (List ℕ)
rules_of head =
    go (column_rules head) (λ columns.
    go (check_rules head) (λ checks.
    go (tracking head) (λ _. Ok (rules_with columns checks))))

-- what a statement that writes is refused for, where a rule can't be kept
abbrev pub unless_unkept : {A : Type 0} → Result A (List ℕ) → Result A TableRefusal
unless_unkept (Ok a) = Ok a
unless_unkept (Err name) = Err (table.UnsupportedRule name)

-- the rules of a table that is written
abbrev pub kept_rules : Head → Result Rules TableRefusal
kept_rules head = unless_unkept (rules_of head)
