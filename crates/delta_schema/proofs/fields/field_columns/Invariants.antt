use Rattle.std.proofs.Common.{◌≡◌, drop}
use Rattle.serde_json.specs.View.{items_view}
use Rattle.delta_actions.specs.Forms.{each_item}
use Rattle.delta_schema.specs.Columns.{column_of}
use Rattle.delta_schema.specs.StepsReading.{is_held}
use Rattle.delta_schema.proofs.Collecting.{after}
use Rattle.delta_schema.proofs.fields.field_columns.Given as goal

abbrev pub invariant-loop-field : goal.invariant-loop-field
invariant-loop-field l = each_item (column_of (is_held l.partitions.keys)) (items_view l.fields) ≡ after l.columns (each_item (column_of (is_held l.partitions.keys)) (items_view (drop l.field-index l.fields)))
