-- What the lines of a commit say (PROTOCOL.md, "Actions": each line of a commit file is a JSON object with one
-- action).
use Rattle.std.specs.Prelude.{ℕ, ◌+◌, ℤ, pos, negsuc, int_le, List, [], ◌∷◌, ◌++◌, Bool, true, false, not, Option, Some, None, option_map, is_some, unwrap_or, codes, ◌==◌, ◌&&◌, ◌||◌, Result, Ok, Err, if◌then◌else◌}
use Rattle.std.specs.List.{list_all, slice_split}
use Rattle.std.specs.Str.{bytes_eq, is_utf8}
use Rattle.serde_json.specs.Data.{Data, Members, no_members, member}
use Rattle.serde_json.specs.Find.{get, as_bool, as_str, as_object}
use Rattle.serde_json.specs.Read.{read}
use Rattle.dm_types.specs.Then.{◌>>=◌}
use Rattle.delta_actions.specs.Forms.{unless_null, present, maybe, needed, optional, whole, version, text_or_null, texts, pairs}
use Rattle.delta_actions.specs.declared.action.ProtocolAction.{ProtocolAction}
use Rattle.delta_actions.specs.declared.action.TableFormat.{TableFormat}
use Rattle.delta_actions.specs.declared.action.MetadataAction.{MetadataAction}
use Rattle.delta_actions.specs.declared.action.AddAction.{AddAction}
use Rattle.delta_actions.specs.declared.action.RemoveAction.{RemoveAction}
use Rattle.delta_actions.specs.declared.action.CdcAction.{CdcAction}
use Rattle.delta_actions.specs.declared.action.DomainAction.{DomainAction}
use Rattle.delta_actions.specs.declared.action.InfoAction.{InfoAction}
use Rattle.delta_actions.specs.declared.action.Action.{Action}
use Rattle.delta_actions.specs.declared.action.Action.TheVariants as action

-- ---- an action; None is a value that hasn't the action's form

-- `protocol` (PROTOCOL.md, "Protocol Evolution")
abbrev pub protocol_of : Data → Option ProtocolAction
protocol_of d = do
  reader ← needed version (codes "minReaderVersion") d
  writer ← needed version (codes "minWriterVersion") d
  readers ← optional texts (codes "readerFeatures") d
  writers ← optional texts (codes "writerFeatures") d
  Some (record {
    min_reader_version = reader;
    min_writer_version = writer;
    reader_features = unwrap_or readers [];
    writer_features = unwrap_or writers [];
  })

-- the one provider that is read
abbrev pub parquet : Data → Option (List ℕ)
parquet d = as_str d >>= λ name. if bytes_eq name (codes "parquet") then Some name else None

-- a format (PROTOCOL.md, "Format Specification"); its provider may be absent, but not null
abbrev pub format_of : Data → Option TableFormat
format_of d = do
  object ← as_object d
  provider ← maybe parquet (get (codes "provider") d)
  options ← optional (pairs as_str) (codes "options") d
  Some (record { provider = provider; options = options })

-- `metaData` (PROTOCOL.md, "Change Metadata")
abbrev pub metadata_of : Data → Option MetadataAction
metadata_of d = do
  id ← needed as_str (codes "id") d
  name ← optional as_str (codes "name") d
  description ← optional as_str (codes "description") d
  format ← optional format_of (codes "format") d
  schema ← needed as_str (codes "schemaString") d
  columns ← optional texts (codes "partitionColumns") d
  configuration ← optional (pairs as_str) (codes "configuration") d
  created ← optional whole (codes "createdTime") d
  Some (record {
    id = id;
    name = name;
    description = description;
    format = format;
    schema_string = schema;
    partition_columns = columns;
    configuration = configuration;
    created_time = created;
  })

-- rows change by the action, unless it says that they don't
abbrev pub data_change_of : Data → Option Bool
data_change_of d = do
  change ← optional as_bool (codes "dataChange") d
  Some (unwrap_or change true)

-- `add` (PROTOCOL.md, "Add File and Remove File")
abbrev pub add_of : Data → Option AddAction
add_of d = do
  path ← needed as_str (codes "path") d
  values ← optional (pairs text_or_null) (codes "partitionValues") d
  size ← optional whole (codes "size") d
  time ← optional whole (codes "modificationTime") d
  change ← data_change_of d
  stats ← optional as_str (codes "stats") d
  base ← optional whole (codes "baseRowId") d
  version ← optional whole (codes "defaultRowCommitVersion") d
  Some (record {
    path = path;
    partition_values = values;
    size = unwrap_or size (pos 0);
    modification_time = unwrap_or time (pos 0);
    data_change = change;
    stats = stats;
    deletion_vector = is_some (present (codes "deletionVector") d);
    base_row_id = base;
    default_row_commit_version = version;
  })

-- `remove` (PROTOCOL.md, "Add File and Remove File")
abbrev pub remove_of : Data → Option RemoveAction
remove_of d = do
  path ← needed as_str (codes "path") d
  change ← data_change_of d
  time ← optional whole (codes "deletionTimestamp") d
  size ← optional whole (codes "size") d
  extended ← optional as_bool (codes "extendedFileMetadata") d
  values ← optional (pairs text_or_null) (codes "partitionValues") d
  base ← optional whole (codes "baseRowId") d
  version ← optional whole (codes "defaultRowCommitVersion") d
  Some (record {
    path = path;
    data_change = change;
    deletion_timestamp = time;
    size = size;
    extended_file_metadata = extended;
    partition_values = values;
    deletion_vector = is_some (present (codes "deletionVector") d);
    base_row_id = base;
    default_row_commit_version = version;
  })

-- `cdc` (PROTOCOL.md, "Add CDC File")
abbrev pub cdc_of : Data → Option CdcAction
cdc_of d = do
  path ← needed as_str (codes "path") d
  values ← optional (pairs text_or_null) (codes "partitionValues") d
  size ← optional whole (codes "size") d
  Some (record { path = path; partition_values = values; size = size })

-- the mark in a configuration of row tracking: no row id that was given is above it (PROTOCOL.md, "Row Tracking")
abbrev pub mark_of : List ℕ → Option ℤ
mark_of text = do
  d ← read text
  mark ← get (codes "rowIdHighWaterMark") d >>= whole
  if int_le (negsuc 0) mark then Some mark else None

-- a domain of row tracking that isn't removed
abbrev pub tracks : List ℕ → Option Bool → Bool
tracks domain removed = bytes_eq domain (codes "delta.rowTracking") && not (unwrap_or removed false)

-- `domainMetadata` (PROTOCOL.md, "Domain Metadata"); a domain that tracks rows has a mark
abbrev pub domain_of : Data → Option DomainAction
domain_of d = do
  domain ← needed as_str (codes "domain") d
  configuration ← needed as_str (codes "configuration") d
  removed ← optional as_bool (codes "removed") d
  if tracks domain removed && not (is_some (mark_of configuration)) then None
      else Some (record { domain = domain; configuration = configuration; removed = removed })

-- `commitInfo` (PROTOCOL.md, "Commit Provenance Information"), of any value: each member is read by itself
abbrev pub info_of : Data → InfoAction
info_of d = record {
  operation = unwrap_or (needed as_str (codes "operation") d) [];
  timestamp = unwrap_or (needed whole (codes "timestamp") d) (pos 0);
}

-- the action of this name; actions of other names have any value
unfoldable pub action_of : List ℕ → Data → Option Action
action_of name d =
    if bytes_eq name (codes "protocol") then option_map action.Protocol (protocol_of d)
    else if bytes_eq name (codes "metaData") then option_map action.Metadata (metadata_of d)
    else if bytes_eq name (codes "add") then option_map action.Add (add_of d)
    else if bytes_eq name (codes "remove") then option_map action.Remove (remove_of d)
    else if bytes_eq name (codes "cdc") then option_map action.Cdc (cdc_of d)
    else if bytes_eq name (codes "domainMetadata") then option_map action.Domain (domain_of d)
    else if bytes_eq name (codes "commitInfo") then Some (action.Info (info_of d))
    else Some action.Other

-- ---- a line; None is a bad line

-- the members that aren't null, with their names
abbrev pub some_members : Members → List (List ℕ × Data)
some_members no_members = []
some_members (member k d ms) = if is_some (unless_null d) then (k, d) ∷ some_members ms else some_members ms

-- the element of a list of one
abbrev pub only : {A : Type 0} → List A → Option A
only [] = None
only (a ∷ []) = Some a
only (a ∷ b ∷ more) = None

-- the one member that isn't null, where the value is an object with one such member
abbrev pub only_member : Data → Option (List ℕ × Data)
only_member d = as_object d >>= λ ms. only (some_members ms)

-- the action that a line's value says
abbrev pub object_action : Data → Option Action
object_action d = only_member d >>= λ m. action_of m.0 m.1

-- the JSON value of a line, which is UTF-8
abbrev pub value_of : List ℕ → Option Data
value_of line = if is_utf8 line then read line else None

-- the action of a line that isn't blank
abbrev pub line_of : List ℕ → Option Action
line_of line = value_of line >>= object_action

-- a space, a tab or a carriage return
abbrev pub is_space : ℕ → Bool
is_space b = b == 32 || b == 9 || b == 13

-- the actions of a line: none of a blank line, one of any other
abbrev pub actions_of : List ℕ → Option (List Action)
actions_of line = if list_all is_space line then Some [] else option_map (λ a. a ∷ []) (line_of line)

-- ---- a commit

-- the lines of a file: the parts between its line feeds
abbrev pub lines : List ℕ → List (List ℕ)
lines bytes = slice_split (λ b. b == 10) bytes

-- actions before those that follow, unless a line that follows is bad
abbrev pub then_more : List Action → Result (List Action) ℕ → Result (List Action) ℕ
then_more done (Ok more) = Ok (done ++ more)
then_more done (Err line) = Err line

-- the line of this number before the lines that follow
abbrev pub with_line : ℕ → Option (List Action) → Result (List Action) ℕ → Result (List Action) ℕ
with_line number None rest = Err number
with_line number (Some found) rest = then_more found rest

-- the actions of lines of which the first has this number, or the number of the first bad line
abbrev pub actions_from : ℕ → List (List ℕ) → Result (List Action) ℕ
actions_from number [] = Ok []
actions_from number (line ∷ rest) = with_line number (actions_of line) (actions_from (number + 1) rest)

-- the actions of a commit file, or the number of its first bad line, counted from 1 over all lines
unfoldable pub commit_of : List ℕ → Result (List Action) ℕ
commit_of bytes = actions_from 1 (lines bytes)
