-- What a remove says of the file of an add.
use Rattle.std.specs.Prelude.{ℤ, [], Some, true, unwrap_or}
use Rattle.delta_actions.specs.declared.action.AddAction.{AddAction}
use Rattle.delta_actions.specs.declared.action.RemoveAction.{RemoveAction}

-- the remove of an add's file at this time (PROTOCOL.md, "Add File and Remove File"): with its size, its row ids and
-- its partition values, which are empty where the add has none
abbrev pub removal_of : ℤ → AddAction → RemoveAction
removal_of time a = record {
  path = a.path;
  data_change = true;
  deletion_timestamp = Some time;
  size = Some a.size;
  extended_file_metadata = Some true;
  partition_values = Some (unwrap_or a.partition_values []);
  deletion_vector = a.deletion_vector;
  base_row_id = a.base_row_id;
  default_row_commit_version = a.default_row_commit_version;
}
