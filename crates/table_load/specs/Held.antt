-- The state that files hold: of a table at a version, its description, its row id mark and its rows, or the first
-- refusal (PROTOCOL.md, "Action Reconciliation", "Row Tracking").
use Rattle.std.specs.Prelude.{ℕ, ℤ, negsuc, List, [], map, slice_index_or, Option, Some, None, Result, Ok, Err, if◌then◌else◌}
use Rattle.std.specs.List.{list_any}
use Rattle.column_vectors.specs.Cells.{Cells}
use Rattle.delta_actions.specs.declared.action.MetadataAction.{MetadataAction}
use Rattle.delta_actions.specs.declared.action.ProtocolAction.{ProtocolAction}
use Rattle.delta_schema.specs.declared.schema.ColumnDef.{ColumnDef}
use Rattle.dm_store.specs.Files.{Files, lookup}
use Rattle.dm_types.specs.Then.{go}
use Rattle.dm_types.specs.declared.refusal.TableRefusal.{TableRefusal}
use Rattle.dm_types.specs.declared.refusal.TableRefusal.TheVariants as refusal
use Rattle.dm_types.specs.declared.value.Value.{Value}
use Rattle.dm_types.specs.declared.value.Value.TheVariants.{Null}
use Rattle.row_tracking.specs.Checked.{least_failing, no_row}
use Rattle.row_tracking.specs.Ids.{lacks_base}
use Rattle.row_tracking.specs.Order.{in_id_order}
use Rattle.row_tracking.specs.declared.row_id.RowId.{RowId}
use Rattle.log_replay.specs.declared.snapshot.Snapshot.{Snapshot}
use Rattle.table_load.specs.Files.{Joined, live_files}
use Rattle.table_load.specs.Head.{head_at}
use Rattle.table_load.specs.Properties.{tracks_rows}
use Rattle.table_load.specs.declared.files.FileRange.{FileRange}
use Rattle.table_load.specs.declared.head.Head.{Head}
use Rattle.table_log.specs.Log.{log_of}

-- ---- row ids

-- no id is at fault
abbrev pub unless_wrong : Option ℤ → Result (Unit {0}) TableRefusal
unless_wrong None = Ok tt
unless_wrong (Some id) = Err (refusal.RowIdsWrong id)

-- each file says the ids of its rows, the mark never fell, and each row has an id of its own from 0 to the mark and a
-- commit version from 0 to the table's
abbrev pub tracked_ids : Snapshot → List RowId → Result (Unit {0}) TableRefusal
tracked_ids table ids =
    if list_any lacks_base table.live then Err (refusal.RowIdsWrong (negsuc 0))
    else go (unless_wrong table.fallen) (λ _. unless_wrong (least_failing ids table.mark table.version))

abbrev pub sound_ids : Snapshot → List RowId → Result (Unit {0}) TableRefusal
sound_ids table ids = if tracks_rows table then tracked_ids table ids else Ok tt

-- ---- a table that is opened

-- its head, and the rows of its live files in log order: their values, column by column, and their ids
pub record Opened : Type 0 where
  pub head : Head
  pub rows : ℕ
  pub columns : List Cells
  pub ids : List RowId
  pub files : List FileRange

abbrev pub opened : Head → Joined → Opened
opened head files = record {
  head = head;
  rows = files.rows;
  columns = files.columns;
  ids = files.ids;
  files = files.files;
}

-- the table in a folder at the version that is asked for, or else the newest, or the first refusal
unfoldable pub opened_at : List ℕ → Option ℕ → Files → Result Opened TableRefusal
opened_at folder asked files =
    go (head_at asked (log_of folder files)) (λ head.
    go (live_files (λ path. lookup path files) folder head) (λ all.
    go (sound_ids head.snapshot all.ids) (λ _. Ok (opened head all))))

-- ---- the state of a table

-- a row: its id and commit version, where rows are tracked, and its value in each column
pub record TableRow : Type 0 where
  pub id : RowId
  pub values : List Value

pub record TableState : Type 0 where
  pub version : ℕ
  pub protocol : ProtocolAction
  -- without the text of the schema
  pub metadata : MetadataAction
  pub columns : List ColumnDef
  pub mark : ℤ
  -- ascending by id; without ids in the order of the log, file after file
  pub rows : List TableRow

-- the row at a place
abbrev pub row_at : List Cells → List RowId → ℕ → TableRow
row_at columns ids at = record {
  id = slice_index_or ids at no_row;
  values = map (λ column. slice_index_or column.values at Null) columns;
}

abbrev pub state_of : Opened → TableState
state_of it = record {
  version = it.head.snapshot.version;
  protocol = it.head.snapshot.protocol;
  metadata = record it.head.snapshot.metadata { schema_string = [] };
  columns = it.head.schema;
  mark = it.head.snapshot.mark;
  rows = map (row_at it.columns it.ids) (in_id_order it.ids);
}

-- the state of the table in a folder at the version that is asked for, or else the newest, or the first refusal
unfoldable pub held_at : List ℕ → Option ℕ → Files → Result TableState TableRefusal
held_at folder asked files = go (opened_at folder asked files) (λ it. Ok (state_of it))

abbrev pub held : List ℕ → ℕ → Files → Result TableState TableRefusal
held folder version files = held_at folder (Some version) files
