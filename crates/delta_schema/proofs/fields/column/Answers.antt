use Rattle.std.proofs.Common.{rules}
use Rattle.serde_json.specs.View.{view}
use Rattle.delta_schema.specs.StepsReading.{is_held}
use Rattle.delta_schema.proofs.Collecting.{column_by}
use Rattle.delta_schema.proofs.fields.column.Goals as goal

pub returns-in-Some : goal.returns-in-Some
returns-in-Some c = column_by (is_held c.args.partitions.now.keys) (view c.args.field.now) (view c.in-Some.metadata.now) _ (search rules) c.column_with.ensures
