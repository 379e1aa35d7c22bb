-- What is known of files while they are read.
use Rattle.std.specs.Prelude.{◌≡◌, ⊤, true, false, List, [], length, map, unwrap_or, Option, Some, None, IfSome, Result, Ok, Err}
use Rattle.std.specs.List.{range_with_len}
use Rattle.column_vectors.specs.Cells.{Cells}
use Rattle.data_file.specs.Answers.{AreRanged, HasLongs, HasTypes}
use Rattle.data_file.specs.Rows.{Part}
use Rattle.data_file.specs.declared.rows.PartRows.{PartRows}
use Rattle.delta_actions.specs.declared.action.AddAction.{AddAction}
use Rattle.delta_schema.specs.declared.schema.ColumnDef.{ColumnDef}
use Rattle.row_tracking.specs.Ids.{lacks_base, row_id_at}
use Rattle.row_tracking.specs.declared.ids.IdFault.{IdFault}
use Rattle.row_tracking.specs.declared.ids.IdFault.TheVariants as fault
use Rattle.row_tracking.specs.declared.row_id.RowId.{RowId}
use Rattle.table_load.specs.Files.{or_nulls}
use Rattle.table_load.specs.declared.files.Reading.{Reading}
use Rattle.table_load.specs.declared.part.PartView.{PartView}

-- the materialized columns of a file have a number, or null, for each row
pub record HasIds (part : PartRows) : Type 0 where
  pub ids : IfSome part.ids (HasLongs part.batch.rows)
  pub versions : IfSome part.versions (HasLongs part.batch.rows)

-- a materialized column, or the other one where there is none
abbrev pub column_or : Cells → Option Cells → Cells
column_or nulls None = nulls
column_or nulls (Some column) = column

-- what is read of some files of a table with this schema
pub record IsReading (schema : List ColumnDef) (reading : Reading) : Type 0 where
  pub types : HasTypes schema reading.batch.columns
  pub ranges : AreRanged schema reading.batch.columns
  pub ids : length reading.ids ≡ reading.batch.rows

-- the ids that an add and the columns of its file say, or that it says none
abbrev pub SaysIds : AddAction → Part → Result (List RowId) IdFault → Type 0
SaysIds add file (Ok ids) = (lacks_base add ≡ false)
    × (ids ≡ map (row_id_at add (or_nulls file.rows file.ids) (or_nulls file.rows file.versions))
    (range_with_len 0 file.rows))
SaysIds add file (Err fault.NoBase) = lacks_base add ≡ true
SaysIds add file (Err fault.Memory) = ⊤

-- what an add says of its file
pub record Views (add : AddAction) (view : PartView) : Type 0 where
  pub path : view.path.now ≡ add.path
  pub values : view.values.now ≡ unwrap_or add.partition_values []
  pub vector : view.deletion_vector ≡ add.deletion_vector
