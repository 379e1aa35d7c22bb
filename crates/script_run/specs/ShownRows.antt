-- The answer of SHOW ROWS: the rows of a table at a version, or the first refusal.
use Rattle.std.specs.Prelude.{ℕ, List, ◌∷◌, Bool, map, codes, Option, Result, Ok, if◌then◌else◌}
use Rattle.std.specs.List.{join_with_byte}
use Rattle.delta_schema.specs.declared.schema.ColumnDef.{ColumnDef}
use Rattle.dm_store.specs.Files.{Files}
use Rattle.dm_text.specs.Printing.{field}
use Rattle.dm_types.specs.Order.{in_byte_order}
use Rattle.dm_types.specs.Then.{go}
use Rattle.dm_types.specs.declared.refusal.TableRefusal.{TableRefusal}
use Rattle.script_run.specs.RowLines.{lines_text, row_line}
use Rattle.table_load.specs.Held.{TableState, held_at}
use Rattle.table_load.specs.Properties.{are_tracked}

-- what stands in the fields of the lines behind it: `id`, `version` and the names of the columns
abbrev pub head_line : List ColumnDef → List ℕ
head_line columns = join_with_byte 9 (codes "id" ∷ codes "version" ∷ map (λ column. field column.name) columns)

-- lines of rows that are tracked stay as they are, ascending by id; others are put in byte order
abbrev pub in_line_order : Bool → List (List ℕ) → List (List ℕ)
in_line_order tracked lines = if tracked then lines else in_byte_order lines

-- the head line, and then a line for each row
unfoldable pub rows_text : TableState → List ℕ
rows_text state = lines_text (head_line state.columns
    ∷ in_line_order (are_tracked state.protocol state.metadata) (map (λ row. row_line row.id row.values) state.rows))

-- the rows of the table in a folder at the version that is asked for, or else the newest
unfoldable pub show_rows : List ℕ → Option ℕ → Files → Result (List ℕ) TableRefusal
show_rows folder asked files = go (held_at folder asked files) (λ state. Ok (rows_text state))
