-- The answer of SELECT: the items on the rows on which the condition holds, or the first refusal.
use Rattle.std.specs.Prelude.{◌≡◌, ⊤, Bool, false, ℕ, List, [], ◌∷◌, map, filter, Option, Some, None, Result, Ok, Err}
use Rattle.std.specs.List.{flat_map, join_with_byte}
use Rattle.delta_schema.specs.declared.schema.ColumnDef.{ColumnDef}
use Rattle.dm_store.specs.Files.{Files, WhereTold}
use Rattle.dm_text.specs.Printing.{field, value_field}
use Rattle.dm_types.specs.Then.{go}
use Rattle.dm_types.specs.declared.refusal.Refused.{Refused}
use Rattle.dm_types.specs.declared.refusal.Refused.TheVariants as refused
use Rattle.dm_types.specs.declared.refusal.StatementRefusal.{StatementRefusal}
use Rattle.dm_types.specs.declared.refusal.Stop.{Stop}
use Rattle.dm_types.specs.declared.refusal.Stop.TheVariants as stop
use Rattle.dm_types.specs.declared.refusal.TableRefusal.{TableRefusal}
use Rattle.dm_types.specs.declared.value.Value.{Value}
use Rattle.dm_types.specs.declared.value.Value.TheVariants.{Null}
use Rattle.script_run.specs.RowLines.{lines_text}
use Rattle.script_run.specs.ShownRows.{in_line_order}
use Rattle.select_rows.specs.Queries.{typed_query, unless_broken}
use Rattle.select_rows.specs.Rows.{errors_in, holds_on, unless_error}
use Rattle.select_rows.specs.declared.query.QueryItem.{QueryItem}
use Rattle.sql_statements.specs.declared.SelectItems.{SelectItems}
use Rattle.sql_tree.specs.declared.tree.Expr.{Expr}
use Rattle.table_load.specs.Held.{TableRow, TableState, held_at}
use Rattle.table_load.specs.Properties.{are_tracked}
use Rattle.table_write.specs.Writing.{of_statement, of_table}
use Rattle.typed_expr.specs.declared.scope.ScopeColumn.{ScopeColumn}
use Rattle.typed_expr.specs.declared.tree.TypedExpr.{TypedExpr}
use Rattle.vector_eval.specs.Batches.{found_or}
use Rattle.vector_eval.specs.Values.{value_of}
use Rattle.vector_eval.specs.declared.fault.ErrorKind.{ErrorKind}

-- the columns that the expressions see, under the table's name
abbrev pub scope_of : List ℕ → List ColumnDef → List ScopeColumn
scope_of table columns = map (λ column. record {
  qualifier = table;
  name = column.name;
  kind = column.kind;
  nullable = column.nullable;
}) columns

-- ---- rows

abbrev pub holds_in : List TypedExpr → TableRow → Result Bool ErrorKind
holds_in conjuncts row = holds_on conjuncts row.values

-- the rows on which the condition holds, unless it has an error on one
abbrev pub rows_where : List TypedExpr → List TableRow → Result (List TableRow) StatementRefusal
rows_where conjuncts rows =
    unless_error (errors_in (map (holds_in conjuncts) rows))
    (filter (λ row. found_or false (holds_in conjuncts row)) rows)

-- the errors of the items on rows; `*` has none
abbrev pub item_errors : Option (List QueryItem) → List TableRow → List ErrorKind
item_errors None rows = []
item_errors (Some items) rows = flat_map (λ item. errors_in (map (λ row. value_of item.value row.values) rows)) items

-- the values of the items on a row; `*` has those of every column
abbrev pub item_values : Option (List QueryItem) → TableRow → List Value
item_values None row = row.values
item_values (Some items) row = map (λ item. found_or Null (value_of item.value row.values)) items

-- ---- text

abbrev pub item_names : List ColumnDef → Option (List QueryItem) → List (List ℕ)
item_names columns None = map (λ column. column.name) columns
item_names columns (Some items) = map (λ item. item.name) items

-- the names of the items, with tabs between
abbrev pub names_line : List (List ℕ) → List ℕ
names_line names = join_with_byte 9 (map field names)

-- values as fields, with tabs between
abbrev pub values_line : List Value → List ℕ
values_line values = join_with_byte 9 (map value_field values)

-- the names, and then a line for each row
abbrev pub query_text : TableState → Option (List QueryItem) → List TableRow → List ℕ
query_text state items rows = lines_text (names_line (item_names state.columns items)
    ∷ in_line_order (are_tracked state.protocol state.metadata) (map (λ row. values_line (item_values items row)) rows))

-- what a SELECT says of the state of its table: the statement must type, then the condition and at last the items must
-- have values
unfoldable pub selected : List ℕ → SelectItems → Option Expr → TableState → Result (List ℕ) StatementRefusal
selected table items x state =
    go (unless_broken (typed_query (scope_of table state.columns) items x)) (λ query.
    go (rows_where query.conjuncts state.rows) (λ rows.
    unless_error (item_errors query.items rows) (query_text state query.items rows)))

-- ---- the answer

-- the answer over the table in a folder, of this name, at the version that is asked for, or else the newest
unfoldable pub select : List ℕ → List ℕ → Option ℕ → SelectItems → Option Expr → Files → Result (List ℕ) Refused
select folder table asked items x files =
    go (of_table (held_at folder asked files)) (λ state. of_statement (selected table items x state))

-- the value, or the refusal, that the definition gives of the files, where the store tells them
abbrev pub TellsAnswer : {A : Type 0} → Option Files → (Files → Result A Refused) → Result A Stop → Type 0
TellsAnswer told meaning (Ok value) = WhereTold told (λ files. meaning files ≡ Ok value)
TellsAnswer told meaning (Err (stop.Refused refusal)) = WhereTold told (λ files. meaning files ≡ Err refusal)
TellsAnswer told meaning (Err stop.Store) = ⊤
TellsAnswer told meaning (Err stop.Names) = ⊥
TellsAnswer told meaning (Err stop.Memory) = ⊤
