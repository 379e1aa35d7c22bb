-- The state of a table that its log says, if the table may be read (PROTOCOL.md, "Reader Requirements"), and its
-- columns.
use Rattle.std.specs.Prelude.{ℕ, List, [], Option, Some, None, Result, Ok, Err, codes, unwrap_or, slice_get, if◌then◌else◌}
use Rattle.std.specs.Option.{option_map_or}
use Rattle.std.specs.Str.{bytes_eq}
use Rattle.column_mapping.specs.Mapping.{first_broken}
use Rattle.column_mapping.specs.declared.mode.Mode.{Mode}
use Rattle.column_mapping.specs.declared.mode.Mode.TheVariants as mode
use Rattle.delta_actions.specs.declared.action.ProtocolAction.{ProtocolAction}
use Rattle.delta_schema.specs.Columns.{schema_of}
use Rattle.delta_schema.specs.declared.fault.SchemaFault.{SchemaFault}
use Rattle.delta_schema.specs.declared.fault.SchemaFault.TheVariants as fault
use Rattle.delta_schema.specs.declared.schema.ColumnDef.{ColumnDef}
use Rattle.dm_types.specs.declared.refusal.Counted.TheVariants as counted
use Rattle.dm_types.specs.declared.refusal.TableRefusal.{TableRefusal}
use Rattle.dm_types.specs.declared.refusal.TableRefusal.TheVariants as refusal
use Rattle.dm_types.specs.Then.{go}
use Rattle.log_replay.specs.Replay.{snapshot_of}
use Rattle.log_replay.specs.declared.commits.Commit.{Commit}
use Rattle.log_replay.specs.declared.snapshot.Snapshot.{Snapshot}
use Rattle.table_features.specs.Features.{NamedFault, numbers, feature, read_fault}
use Rattle.table_load.specs.Properties.{property}
use Rattle.table_load.specs.declared.head.Head.{Head}
use Rattle.table_log.specs.Log.{Log}
use Rattle.table_log.specs.Versions.{commits_at}

-- ---- metadata and protocol

-- a metadata and a protocol are in force
abbrev pub state_of : Option Snapshot → Result Snapshot TableRefusal
state_of None = Err refusal.NoMetadata
state_of (Some table) = Ok table

-- the refusal of a protocol
abbrev pub unless_fault : ProtocolAction → Option NamedFault → Result (Unit {0}) TableRefusal
unless_fault protocol None = Ok tt
unless_fault protocol (Some numbers) =
    Err (refusal.ProtocolUnsupported protocol.min_reader_version protocol.min_writer_version)
unless_fault protocol (Some (feature name)) = Err (refusal.UnknownFeature name)

-- the protocol may be read
abbrev pub readable : Snapshot → Result Snapshot TableRefusal
readable table = go (unless_fault table.protocol (read_fault table.protocol)) (λ _. Ok table)

-- ---- columns

-- the columns that the schema says; memory is never wanting of a text alone
abbrev pub of_schema : Result (List ColumnDef) SchemaFault → Result (List ColumnDef) TableRefusal
of_schema (Ok columns) = Ok columns
of_schema (Err fault.BadSchema) = Err refusal.BadSchema
of_schema (Err (fault.UnsupportedType column)) = Err (refusal.UnsupportedType column)
of_schema (Err fault.TooMany) = Err (refusal.TooLarge counted.Columns)
of_schema (Err fault.Memory) = Err refusal.BadSchema

abbrev pub columns_in : Snapshot → Result (List ColumnDef) TableRefusal
columns_in table =
    of_schema (schema_of table.metadata.schema_string (unwrap_or table.metadata.partition_columns []))

-- the name of the column at a place
abbrev pub name_at : List ColumnDef → ℕ → List ℕ
name_at columns at = option_map_or (λ column. column.name) (slice_get columns at) []

-- by what data files carry the columns (PROTOCOL.md, "Column Mapping"); None is no mode
abbrev pub mode_of : Option (List ℕ) → Option Mode
mode_of None = Some mode.Plain
mode_of (Some text) =
    if bytes_eq text (codes "none") then Some mode.Plain
    else if bytes_eq text (codes "name") then Some mode.ByName
    else if bytes_eq text (codes "id") then Some mode.ById
    else None

-- the first column that breaks the mapping is refused; what is no mode is refused at the first column
abbrev pub unless_broken : List ColumnDef → Mode → Option ℕ → Result Mode TableRefusal
unless_broken columns mode None = Ok mode
unless_broken columns mode (Some at) = Err (refusal.BadMapping (name_at columns at))

abbrev pub mapped : List ColumnDef → Option Mode → Result Mode TableRefusal
mapped columns None = Err (refusal.BadMapping (name_at columns 0))
mapped columns (Some mode) = unless_broken columns mode (first_broken mode columns)

abbrev pub mode_in : Snapshot → List ColumnDef → Result Mode TableRefusal
mode_in table columns = mapped columns (mode_of (property table (codes "delta.columnMapping.mode")))

-- the table with its columns
unfoldable pub with_columns : Snapshot → Result Head TableRefusal
with_columns table =
    go (columns_in table) (λ columns.
    go (mode_in table columns) (λ mode.
    Ok (record { snapshot = table; schema = columns; mode = mode })))

-- ---- the head of a table

-- the head behind these commits
abbrev pub head_of : List Commit → Result Head TableRefusal
head_of commits = go (state_of (snapshot_of commits)) (λ table. go (readable table) with_columns)

-- the head at the version that is asked for, or else the newest, or the first refusal
unfoldable pub head_at : Option ℕ → Log → Result Head TableRefusal
head_at asked log = go (commits_at asked log) head_of
