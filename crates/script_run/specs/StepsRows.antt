-- The lines of the rows at places of columns.
use Rattle.std.specs.Prelude.{◌≡◌, ℕ, ◌<◌, List, ◌∷◌, length, map, All, slice_index_or}
use Rattle.std.specs.List.{flat_map}
use Rattle.column_vectors.specs.Cells.{Cells}
use Rattle.dm_text.specs.Printing.{value_field}
use Rattle.dm_types.specs.Ranges.{IsNullOrInRange}
use Rattle.dm_types.specs.declared.value.Value.{Value}
use Rattle.dm_types.specs.declared.value.Value.TheVariants.{Null}
use Rattle.row_tracking.specs.Checked.{no_row}
use Rattle.row_tracking.specs.declared.row_id.RowId.{RowId}
use Rattle.script_run.specs.RowLines.{row_line}

-- the value of a column in a row
abbrev pub value_at : ℕ → Cells → Value
value_at place column = slice_index_or column.values place Null

-- the values of a row as fields, each behind a tab
abbrev pub cells_text : List Cells → ℕ → List ℕ
cells_text columns place = flat_map (λ column. 9 ∷ value_field (value_at place column)) columns

-- the line of the row at a place
abbrev pub line_at : List Cells → List RowId → ℕ → List ℕ
line_at columns ids place = row_line (slice_index_or ids place no_row) (map (value_at place) columns)

-- a column that can be printed has a value for each of so many rows, null or in the range of its type
pub record IsPrintable (count : ℕ) (column : Cells) : Type 0 where
  pub rows : length column.values ≡ count
  pub ranges : All (IsNullOrInRange column.kind) column.values

-- a column has a value at a place, and each is null or in the range of its type
pub record HasCell (place : ℕ) (column : Cells) : Type 0 where
  pub within : place < length column.values
  pub ranges : All (IsNullOrInRange column.kind) column.values
