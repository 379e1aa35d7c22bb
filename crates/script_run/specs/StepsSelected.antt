-- What the steps of a SELECT answer.
use Rattle.std.specs.Prelude.{ℕ, Bool, false, if◌then◌else◌, List, [], ◌∷◌, map, filter, slice_index_or, Option, Result}
use Rattle.column_vectors.specs.Cells.{Cells}
use Rattle.dm_types.specs.declared.refusal.StatementRefusal.{StatementRefusal}
use Rattle.row_tracking.specs.Order.{in_id_order}
use Rattle.script_run.specs.RowLines.{lines_text}
use Rattle.script_run.specs.Selected.{item_errors, names_line, query_text, values_line}
use Rattle.script_run.specs.ShownRows.{in_line_order}
use Rattle.script_run.specs.StepsRows.{value_at}
use Rattle.select_rows.specs.Rows.{unless_error}
use Rattle.select_rows.specs.declared.query.QueryItem.{QueryItem}
use Rattle.table_load.specs.Held.{TableRow, row_at, state_of}
use Rattle.table_load.specs.Loaded.{seen}
use Rattle.table_load.specs.Properties.{tracks_rows}
use Rattle.table_load.specs.declared.loaded.Loaded.{Loaded}

-- the row at a place is kept
abbrev pub is_kept : List Bool → ℕ → Bool
is_kept kept place = slice_index_or kept place false

-- the place alone, if it is kept
abbrev pub one_if : Bool → ℕ → List ℕ
one_if kept place = if kept then place ∷ [] else []

-- the line of the values of columns at a place
abbrev pub values_at : List Cells → ℕ → List ℕ
values_at columns place = values_line (map (value_at place) columns)

-- the rows that are kept, by their ids
abbrev pub kept_rows : Loaded → List Bool → List TableRow
kept_rows loaded kept =
    map (row_at loaded.batch.columns loaded.ids) (filter (is_kept kept) (in_id_order loaded.ids))

abbrev pub answer_of : Loaded → Option (List QueryItem) → List Bool → Result (List ℕ) StatementRefusal
answer_of loaded items kept =
    let rows = kept_rows loaded kept in
    unless_error (item_errors items rows) (query_text (state_of (seen loaded)) items rows)

-- the text of columns on the rows that are kept
abbrev pub text_of : Loaded → List (List ℕ) → List Cells → List Bool → List ℕ
text_of loaded names columns kept = lines_text (names_line names
    ∷ in_line_order (tracks_rows loaded.head.snapshot)
    (map (values_at columns) (filter (is_kept kept) (in_id_order loaded.ids))))
