-- The table's columns of a file.
use Rattle.std.specs.Prelude.{ℕ, List, [], ◌∷◌, ◌++◌, length, replicate, slice_get, Option, Some, None, unwrap_or, Ok}
use Rattle.column_mapping.specs.Places.{place_of}
use Rattle.column_mapping.specs.declared.mode.Mode.{Mode}
use Rattle.column_vectors.specs.Cells.{Cells}
use Rattle.delta_schema.specs.declared.schema.ColumnDef.{ColumnDef}
use Rattle.dm_types.specs.Then.{go}
use Rattle.dm_types.specs.declared.value.Value.{Value}
use Rattle.parquet_file.specs.File.{Opened}
use Rattle.parquet_meta.specs.declared.metadata.LeafSchema.{LeafSchema}
use Rattle.data_file.specs.Partitions.{Given, constants_from, text_behind}
use Rattle.data_file.specs.Room.{Answer}
use Rattle.data_file.specs.Stored.{rows_in, stored}
use Rattle.data_file.specs.Wanted.{WantedColumns}
use Rattle.data_file.specs.declared.fault.PartColumn.TheVariants as part
use Rattle.data_file.specs.declared.stored.Sought.{Sought}

-- the table's column at a place of the schema, as it is sought among leaves
abbrev pub sought_of : Mode → List LeafSchema → ℕ → ColumnDef → Sought
sought_of mode leaves at column = record {
  column = part.Table at;
  kind = column.kind;
  nullable = column.nullable;
  place = place_of mode leaves column;
}

-- a column of the table, and the room for text behind it: a partition column has one value in each row, which was
-- counted before
abbrev pub table_column : Opened → Sought → Option Value → ℕ → Answer (Cells × ℕ)
table_column it sought (Some v) left = Ok (record { kind = sought.kind; values = replicate (rows_in it) v }, left)
table_column it sought None left = stored it sought left

-- the partition value at a place of the schema
abbrev pub constant_at : List (Option Value) → ℕ → Option Value
constant_at constants at = unwrap_or (slice_get constants at) None

-- columns one after the other, behind those that are read, each in the room for text that is left
unfoldable pub columns_from : Opened → Mode → List (Option Value) → List ColumnDef → List Cells × ℕ
    → Answer (List Cells × ℕ)
columns_from it mode constants [] read = Ok read
columns_from it mode constants (column ∷ more) read =
    go (table_column it (sought_of mode it.footer.leaves (length read.0) column) (constant_at constants (length read.0))
    read.1) (λ found. columns_from it mode constants more (read.0 ++ found.0 ∷ [], found.1))

-- all columns of the table, and the room for text behind them
unfoldable pub table_of : Opened → WantedColumns → Given → ℕ → Answer (List Cells × ℕ)
table_of it columns values text =
    go (constants_from columns.mode values columns.schema []) (λ constants.
    go (text_behind (rows_in it) constants text) (λ left.
    columns_from it columns.mode constants columns.schema ([], left)))
