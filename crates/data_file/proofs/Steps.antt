-- The steps of a file's reading, each with those behind it.
use Rattle.std.proofs.Common.{◌≡◌, ℕ, ◌*◌, List, [], Option, Ok, length, refl}
use Rattle.column_vectors.specs.Cells.{Cells}
use Rattle.dm_types.specs.Then.{go}
use Rattle.dm_types.specs.declared.value.Value.{Value}
use Rattle.parquet_file.specs.File.{Opened, opened}
use Rattle.data_file.specs.Kinds.{kinds}
use Rattle.data_file.specs.Partitions.{Given, constants_from, text_behind}
use Rattle.data_file.specs.Room.{Answer, less, or_else}
use Rattle.data_file.specs.Rows.{Part, part_of, rows_of}
use Rattle.data_file.specs.Stored.{materialized, rows_in}
use Rattle.data_file.specs.Table.{columns_from, table_of}
use Rattle.data_file.specs.Wanted.{WantedColumns}
use Rattle.data_file.specs.declared.fault.PartColumn.TheVariants as part
use Rattle.dm_types.specs.declared.refusal.Counted.TheVariants as counted
use Rattle.data_file.specs.declared.fault.PartFault.TheVariants as fault
use Rattle.data_file.specs.declared.room.Room.{Room}

abbrev pub with_kinds : Opened → ℕ → List Cells × ℕ → Option Cells × ℕ → Option Cells × ℕ → Option Cells × ℕ → Answer Part
with_kinds it cells table ids versions kinds = Ok (record {
  rows = rows_in it;
  columns = table.0;
  ids = ids.0;
  versions = versions.0;
  kinds = kinds.0;
  left = record { cells = cells; text = kinds.1 };
})

abbrev pub with_versions : Opened → WantedColumns → ℕ → List Cells × ℕ → Option Cells × ℕ → Option Cells × ℕ → Answer Part
with_versions it columns cells table ids versions = go (kinds it columns.change versions.1) (with_kinds it cells table ids versions)

abbrev pub with_ids : Opened → WantedColumns → ℕ → List Cells × ℕ → Option Cells × ℕ → Answer Part
with_ids it columns cells table ids = go (materialized it part.Versions columns.versions ids.1) (with_versions it columns cells table ids)

pub part_is : (it : Opened) (columns : WantedColumns) (cells : ℕ) (table : List Cells × ℕ) → part_of it columns cells table ≡ go (materialized it part.Ids columns.ids table.1) (with_ids it columns cells table)
unfolding part_of
part_is it columns cells table = refl

abbrev pub with_left : Opened → WantedColumns → List (Option Value) → ℕ → Answer (List Cells × ℕ)
with_left it columns constants left = columns_from it columns.mode constants columns.schema ([], left)

abbrev pub with_constants : Opened → WantedColumns → ℕ → List (Option Value) → Answer (List Cells × ℕ)
with_constants it columns text constants = go (text_behind (rows_in it) constants text) (with_left it columns constants)

pub table_is : (it : Opened) (columns : WantedColumns) (values : Given) (text : ℕ) → table_of it columns values text ≡ go (constants_from columns.mode values columns.schema []) (with_constants it columns text)
unfolding table_of
table_is it columns values text = refl

abbrev pub with_cells : WantedColumns → Given → Room → Opened → ℕ → Answer Part
with_cells columns values room it cells = go (table_of it columns values room.text) (part_of it columns cells)

abbrev pub with_file : WantedColumns → Given → Room → Opened → Answer Part
with_file columns values room it = go (less counted.Cells (length columns.schema * rows_in it) room.cells) (with_cells columns values room it)

pub rows_is : (columns : WantedColumns) (values : Given) (bytes : List ℕ) (room : Room) → rows_of columns values bytes room ≡ go (or_else fault.BadParquet (opened bytes)) (with_file columns values room)
unfolding rows_of
rows_is columns values bytes room = refl
