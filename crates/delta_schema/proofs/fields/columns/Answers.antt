use Rattle.serde_json.specs.View.{items_view}
use Rattle.delta_schema.proofs.Collecting.{same_columns}
use Rattle.delta_schema.proofs.fields.columns.Goals as goal

pub returns : goal.returns
returns c = same_columns c.in_ok-set.set.keys c.args.partitions.now (items_view c.args.fields.now) _ c.in_ok-set.ensures c.field_columns.ensures
