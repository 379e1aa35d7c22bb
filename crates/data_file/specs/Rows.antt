-- The rows of one file of a table, as a function of what is read of it, its partition values, its bytes and the room
-- that is left alone; or the first fault (PROTOCOL.md, "Data Files", "Change Data Files", "Column Mapping").
use Rattle.std.specs.Prelude.{ℕ, ◌*◌, List, length, Option, Ok}
use Rattle.column_vectors.specs.Cells.{Cells}
use Rattle.dm_types.specs.Then.{go}
use Rattle.parquet_file.specs.File.{Opened, opened}
use Rattle.data_file.specs.Kinds.{kinds}
use Rattle.data_file.specs.Partitions.{Given}
use Rattle.data_file.specs.Room.{Answer, less, or_else}
use Rattle.data_file.specs.Stored.{materialized, rows_in}
use Rattle.data_file.specs.Table.{table_of}
use Rattle.data_file.specs.Wanted.{WantedColumns}
use Rattle.data_file.specs.declared.fault.PartColumn.TheVariants as part
use Rattle.dm_types.specs.declared.refusal.Counted.TheVariants as counted
use Rattle.data_file.specs.declared.fault.PartFault.TheVariants as fault
use Rattle.data_file.specs.declared.room.Room.{Room}
use Rattle.data_file.specs.declared.rows.PartRows.{PartRows}

-- the rows of a file: how many there are, the table's columns, and those beside them that were asked for
pub record Part : Type 0 where
  pub rows : ℕ
  pub columns : List Cells
  pub ids : Option Cells
  pub versions : Option Cells
  pub kinds : Option Cells
  pub left : Room

-- the columns beside the table's: materialized row ids, materialized commit versions, kinds of changes
unfoldable pub part_of : Opened → WantedColumns → ℕ → List Cells × ℕ → Answer Part
part_of it columns cells table =
    go (materialized it part.Ids columns.ids table.1) (λ ids.
    go (materialized it part.Versions columns.versions ids.1) (λ versions.
    go (kinds it columns.change versions.1) (λ kinds.
    Ok (record {
      rows = rows_in it;
      columns = table.0;
      ids = ids.0;
      versions = versions.0;
      kinds = kinds.0;
      left = record { cells = cells; text = kinds.1 };
    }))))

-- the rows of a file of these bytes
unfoldable pub rows_of : WantedColumns → Given → List ℕ → Room → Answer Part
rows_of columns values bytes room =
    go (or_else fault.BadParquet (opened bytes)) (λ it.
    go (less counted.Cells (length columns.schema * rows_in it) room.cells) (λ cells.
    go (table_of it columns values room.text) (λ table.
    part_of it columns cells table)))

-- what `read_rows` gives
abbrev pub seen : PartRows → Part
seen part = record {
  rows = part.batch.rows;
  columns = part.batch.columns;
  ids = part.ids;
  versions = part.versions;
  kinds = part.kinds;
  left = part.left;
}
