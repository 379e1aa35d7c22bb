-- What there is of the live files of a table: each as a function of its action, the head, the bytes at its path and
-- what is left of the limits alone; and all of them, one behind the other (PROTOCOL.md, "Data Files", "Column Mapping",
-- "Row Tracking").
use Rattle.std.specs.Prelude.{ℕ, ◌+◌, Bool, false, not, ◌&&◌, List, [], ◌∷◌, ◌++◌, map, replicate, codes, unwrap_or, Option, Some, None, Result, Ok, Err, if◌then◌else◌}
use Rattle.std.specs.List.{list_any, range_with_len}
use Rattle.std.specs.Str.{bytes_eq}
use Rattle.column_vectors.specs.Cells.{Cells}
use Rattle.data_file.specs.Partitions.{Given}
use Rattle.data_file.specs.Room.{Answer}
use Rattle.data_file.specs.Rows.{Part, rows_of}
use Rattle.data_file.specs.Wanted.{WantedColumns}
use Rattle.data_file.specs.declared.fault.PartColumn.{PartColumn}
use Rattle.data_file.specs.declared.fault.PartColumn.TheVariants as part
use Rattle.data_file.specs.declared.fault.PartFault.{PartFault}
use Rattle.data_file.specs.declared.fault.PartFault.TheVariants as fault
use Rattle.data_file.specs.declared.room.Room.{Room}
use Rattle.data_file.specs.declared.room.TheConstants.{MAX_CELLS, MAX_TEXT}
use Rattle.delta_actions.specs.declared.action.AddAction.{AddAction}
use Rattle.dm_store.specs.LoggedPath.{path_of}
use Rattle.dm_types.specs.Then.{go}
use Rattle.dm_types.specs.declared.refusal.TableRefusal.{TableRefusal}
use Rattle.dm_types.specs.declared.refusal.TableRefusal.TheVariants as refusal
use Rattle.dm_types.specs.declared.value.DataType.TheVariants.{Long}
use Rattle.dm_types.specs.declared.value.Value.TheVariants.{Null}
use Rattle.log_replay.specs.declared.snapshot.Snapshot.{Snapshot}
use Rattle.row_tracking.specs.Checked.{no_row}
use Rattle.row_tracking.specs.Ids.{lacks_base, row_id_at}
use Rattle.row_tracking.specs.declared.row_id.RowId.{RowId}
use Rattle.table_log.specs.Log.{below}
use Rattle.table_load.specs.Head.{name_at}
use Rattle.table_load.specs.Properties.{property, tracks_rows}
use Rattle.table_load.specs.declared.files.FileRange.{FileRange}
use Rattle.table_load.specs.declared.head.Head.{Head}

-- ---- what is read

-- the name of a materialized column, where rows are tracked and the table names it
abbrev pub materialized : Snapshot → List ℕ → Option (List ℕ)
materialized table name = if tracks_rows table then property table name else None

-- what is read of each file: the columns of the table, and the materialized ones; of a change file the kinds of changes
abbrev pub columns_of : Bool → Head → WantedColumns
columns_of change head = record {
  schema = head.schema;
  mode = head.mode;
  ids = materialized head.snapshot (codes "delta.rowTracking.materializedRowIdColumnName");
  versions = materialized head.snapshot (codes "delta.rowTracking.materializedRowCommitVersionColumnName");
  change = change;
}

-- ---- one file

-- the name of a column that is read
abbrev pub name_or_none : Option (List ℕ) → List ℕ
name_or_none None = []
name_or_none (Some name) = name

abbrev pub column_name : WantedColumns → PartColumn → List ℕ
column_name columns (part.Table at) = name_at columns.schema at
column_name columns part.Ids = name_or_none columns.ids
column_name columns part.Versions = name_or_none columns.versions
column_name columns part.ChangeType = codes "_change_type"

-- a fault of the file that is logged under a path, as the refusal of the table; memory is never wanting of bytes alone
abbrev pub refusal_of : WantedColumns → List ℕ → PartFault → TableRefusal
refusal_of columns logged fault.BadParquet = refusal.BadParquet logged
refusal_of columns logged fault.Compressed = refusal.CompressedPage logged
refusal_of columns logged fault.Encoding = refusal.UnsupportedEncoding logged
refusal_of columns logged (fault.Mismatch column) = refusal.ColumnMismatch logged (column_name columns column)
refusal_of columns logged (fault.Range column) = refusal.ValueRange logged (column_name columns column)
refusal_of columns logged (fault.Partition at) = refusal.BadPartitionValue logged (name_at columns.schema at)
refusal_of columns logged (fault.TooLarge counted) = refusal.TooLarge counted
refusal_of columns logged fault.Memory = refusal.BadParquet logged

abbrev pub told : WantedColumns → List ℕ → Answer Part → Result Part TableRefusal
told columns logged (Ok found) = Ok found
told columns logged (Err fault) = Err (refusal_of columns logged fault)

abbrev pub or_refused : {A : Type 0} → TableRefusal → Option A → Result A TableRefusal
or_refused refusal None = Err refusal
or_refused refusal (Some found) = Ok found

-- whether an earlier file has the path below the table's folder
abbrev pub Earlier : Type 0
Earlier = List ℕ → Bool

-- the path below the table's folder of a file without a deletion vector, which no earlier file has
abbrev pub new_path : Earlier → List ℕ → List ℕ → Result (List ℕ) TableRefusal
new_path is_earlier logged path = if is_earlier path then Err (refusal.BadPath logged) else Ok path

abbrev pub path_in : Earlier → Bool → List ℕ → Result (List ℕ) TableRefusal
path_in is_earlier vector logged =
    if vector then Err (refusal.DeletionVector logged)
    else go (or_refused (refusal.BadPath logged) (path_of logged)) (new_path is_earlier logged)

-- the bytes at each path of the store, where a file is there
abbrev pub Look : Type 0
Look = List ℕ → Option (List ℕ)

abbrev pub bytes_of : Look → List ℕ → List ℕ → List ℕ → Result (List ℕ) TableRefusal
bytes_of look folder logged path = or_refused (refusal.MissingFile logged) (look (below folder path))

-- the rows of a file behind earlier ones, by what its action says: its logged path, its partition values, and whether
-- it has a deletion vector
unfoldable pub part_in : Look → List ℕ → WantedColumns → Earlier → List ℕ → Given → Bool → Room
    → Result Part TableRefusal
part_in look folder columns is_earlier logged values vector room =
    go (path_in is_earlier vector logged) (λ path.
    go (bytes_of look folder logged path) (λ bytes.
    told columns logged (rows_of columns values bytes room)))

-- ---- all files

-- what some files come to: where each stands among all rows, the columns of the table with the values of one file behind
-- those of the other, the ids and commit versions of the rows, and what is left of the limits
pub record Joined : Type 0 where
  pub files : List FileRange
  pub rows : ℕ
  pub columns : List Cells
  pub ids : List RowId
  pub room : Room

-- of no file yet
abbrev pub begun : Head → Joined
begun head = record {
  files = [];
  rows = 0;
  columns = map (λ column. record { kind = column.kind; values = [] }) head.schema;
  ids = [];
  room = record { cells = MAX_CELLS; text = MAX_TEXT };
}

-- columns with the values of others behind theirs
unfoldable pub joined : List Cells → List Cells → List Cells
joined [] more = []
joined (column ∷ columns) [] = column ∷ columns
joined (column ∷ columns) (other ∷ more) =
    record { kind = column.kind; values = column.values ++ other.values } ∷ joined columns more

-- a materialized column; where there is none, it is null in each of so many rows
abbrev pub or_nulls : ℕ → Option Cells → Cells
or_nulls rows None = record { kind = Long; values = replicate rows Null }
or_nulls rows (Some column) = column

-- the ids and commit versions of a file's rows, where rows are tracked and the file says them
abbrev pub ids_of : Snapshot → AddAction → Part → List RowId
ids_of table add file =
    if tracks_rows table && not (lacks_base add)
    then map (row_id_at add (or_nulls file.rows file.ids) (or_nulls file.rows file.versions)) (range_with_len 0 file.rows)
    else replicate file.rows no_row

-- one file more, whose rows have these ids
abbrev pub extended : Joined → Part → List RowId → Joined
extended before file ids = record {
  files = before.files ++ (record { first = before.rows; rows = file.rows }) ∷ [];
  rows = before.rows + file.rows;
  columns = joined before.columns file.columns;
  ids = before.ids ++ ids;
  room = file.left;
}

abbrev pub with_part : Head → AddAction → Joined → Part → Joined
with_part head add before file = extended before file (ids_of head.snapshot add file)

abbrev pub is_same_path : List ℕ → Option (List ℕ) → Bool
is_same_path path None = false
is_same_path path (Some other) = bytes_eq other path

-- the path of one of these files
abbrev pub is_path_of : List AddAction → Earlier
is_path_of adds path = list_any (λ add. is_same_path path (path_of add.path)) adds

unfoldable pub with_file : Look → List ℕ → Head → Earlier → Joined → AddAction → Result Joined TableRefusal
with_file look folder head is_earlier before add =
    go (part_in look folder (columns_of false head) is_earlier add.path (unwrap_or add.partition_values [])
    add.deletion_vector before.room) (λ file. Ok (with_part head add before file))

-- files one after the other, behind those that are read; the first that is refused decides
unfoldable pub files_from : Look → List ℕ → Head → List AddAction → Joined → List AddAction → Result Joined TableRefusal
files_from look folder head read before [] = Ok before
files_from look folder head read before (add ∷ more) =
    go (with_file look folder head (is_path_of read) before add) (λ next.
    files_from look folder head (read ++ add ∷ []) next more)

-- the live files of a table, in log order
abbrev pub live_files : Look → List ℕ → Head → Result Joined TableRefusal
live_files look folder head = files_from look folder head [] (begun head) head.snapshot.live
