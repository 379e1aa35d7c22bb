-- The first commit of a new table.
use Rattle.std.specs.Prelude.{ℕ, ℤ, List, [], ◌∷◌, length, Bool, Option, Some, None, codes, if◌then◌else◌}
use Rattle.delta_actions.specs.declared.action.Action.{Action}
use Rattle.delta_actions.specs.declared.action.Action.TheVariants as action
use Rattle.delta_actions.specs.declared.action.InfoAction.{InfoAction}
use Rattle.delta_actions.specs.declared.action.MetadataAction.{MetadataAction}
use Rattle.delta_actions.specs.declared.action.ProtocolAction.{ProtocolAction}
use Rattle.delta_actions.specs.declared.action.TableFormat.{TableFormat}
use Rattle.delta_schema.specs.Written.{written}
use Rattle.delta_schema.specs.declared.schema.ColumnDef.{ColumnDef}
use Rattle.table_features.specs.Needed.{is_mapped, needed}
use Rattle.commit_log.specs.declared.new_files.NewFiles.{NewFiles}
use Rattle.file_names.specs.Names.{name_of}
use Rattle.sql_tree.specs.declared.tree.Name.{Name}
use Rattle.sql_statements.specs.declared.CreateStmt.{CreateStmt}
use Rattle.table_make.specs.NewColumns.{columns_of, partitions_of}
use Rattle.table_make.specs.NewProperties.{Pairs, given, configuration_of}

-- ---- the actions

-- where the commit comes from (PROTOCOL.md, "Commit Provenance Information")
abbrev pub info_of : ℤ → InfoAction
info_of time = record { operation = codes "CREATE"; timestamp = time }

abbrev pub reader_features_of : Bool → List (List ℕ)
reader_features_of mapped = if mapped then codes "columnMapping" ∷ [] else []

-- the features that are used, by their names (PROTOCOL.md, "Protocol Evolution" and "Table Features")
abbrev pub protocol_of : Bool → List ColumnDef → Pairs → ProtocolAction
protocol_of mapped columns configuration = record {
  min_reader_version = if mapped then 3 else 1;
  min_writer_version = 7;
  reader_features = reader_features_of mapped;
  writer_features = needed columns configuration;
}

abbrev pub parquet_format : TableFormat
parquet_format = record { provider = Some (codes "parquet"); options = Some [] }

-- what the table is (PROTOCOL.md, "Change Metadata")
abbrev pub metadata_of : List ℕ → List ColumnDef → List Name → Pairs → ℤ → MetadataAction
metadata_of id columns partitions configuration time = record {
  id = id;
  name = None;
  description = None;
  format = Some parquet_format;
  schema_string = written columns;
  partition_columns = Some (partitions_of columns partitions);
  configuration = Some configuration;
  created_time = Some time;
}

-- ---- the table of a statement, by its id

-- data files hold the columns by physical names or by ids (PROTOCOL.md, "Column Mapping")
abbrev pub maps_columns : CreateStmt → Bool
maps_columns stmt = is_mapped (given stmt.properties)

-- the id, where the columns are mapped
abbrev pub mapping : Bool → List ℕ → Option (List ℕ)
mapping mapped id = if mapped then Some id else None

abbrev pub new_columns : CreateStmt → List ℕ → List ColumnDef
new_columns stmt id = columns_of stmt.partitions (mapping (maps_columns stmt) id) stmt.elements

abbrev pub new_configuration : CreateStmt → List ℕ → Pairs
new_configuration stmt id = configuration_of stmt.elements (given stmt.properties) (maps_columns stmt)
    (length (new_columns stmt id)) id

abbrev pub new_protocol : CreateStmt → List ℕ → ProtocolAction
new_protocol stmt id = protocol_of (maps_columns stmt) (new_columns stmt id) (new_configuration stmt id)

abbrev pub new_metadata : CreateStmt → List ℕ → ℤ → MetadataAction
new_metadata stmt id time = metadata_of id (new_columns stmt id) stmt.partitions (new_configuration stmt id) time

-- in the order of a commit's lines
unfoldable pub actions_of : CreateStmt → List ℕ → ℤ → List Action
actions_of stmt id time =
    action.Info (info_of time) ∷ action.Protocol (new_protocol stmt id) ∷ action.Metadata (new_metadata stmt id time) ∷ []

-- ---- the commit

-- version 0 of a table in this folder, whose id is the text of what was drawn; it has no file
abbrev pub created : CreateStmt → List ℕ → List ℕ → ℤ → NewFiles
created stmt table drawn time = record {
  version = 0;
  table = table;
  files = [];
  actions = actions_of stmt (name_of drawn) time;
}
