use Rattle.std.proofs.Common.{◌≡◌, map, take}
use Rattle.serde_json.specs.View.{view}
use Rattle.delta_schema.specs.Written.{field_data}
use Rattle.delta_schema.proofs.writing.fields.Given as goal

abbrev pub invariant-loop-column : goal.invariant-loop-column
invariant-loop-column l = map view l.values.items ≡ map field_data (take l.column-index l.columns)
