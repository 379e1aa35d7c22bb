-- The properties of a table (PROTOCOL.md, "Change Metadata"), and what they switch on.
use Rattle.std.specs.Prelude.{ℕ, List, Bool, Option, codes, unwrap_or, [], ◌&&◌}
use Rattle.std.specs.List.{list_any}
use Rattle.std.specs.Str.{bytes_eq}
use Rattle.delta_actions.specs.declared.action.MetadataAction.{MetadataAction}
use Rattle.delta_actions.specs.declared.action.ProtocolAction.{ProtocolAction}
use Rattle.log_replay.specs.declared.snapshot.Snapshot.{Snapshot}
use Rattle.table_features.specs.Properties.{is_true_in, text_under}

-- the property is `true`
abbrev pub is_on_in : MetadataAction → List ℕ → Bool
is_on_in metadata name = is_true_in (unwrap_or metadata.configuration []) name

abbrev pub is_on : Snapshot → List ℕ → Bool
is_on table name = is_on_in table.metadata name

-- the text of a property, if the table has it
abbrev pub property : Snapshot → List ℕ → Option (List ℕ)
property table name = text_under (unwrap_or table.metadata.configuration []) name

-- rows are tracked: the property is `true`, and the writer features list it (PROTOCOL.md, "Row Tracking")
abbrev pub are_tracked : ProtocolAction → MetadataAction → Bool
are_tracked protocol metadata =
    is_on_in metadata (codes "delta.enableRowTracking")
    && list_any (λ name. bytes_eq name (codes "rowTracking")) protocol.writer_features

abbrev pub tracks_rows : Snapshot → Bool
tracks_rows table = are_tracked table.protocol table.metadata
