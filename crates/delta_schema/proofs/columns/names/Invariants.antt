use Rattle.std.proofs.Common.{◌≡◌, drop}
use Rattle.serde_json.specs.View.{items_view}
use Rattle.delta_schema.specs.Columns.{names_of}
use Rattle.delta_schema.proofs.Collecting.{after}
use Rattle.delta_schema.proofs.columns.names.Given as goal

abbrev pub invariant-loop-field : goal.invariant-loop-field
invariant-loop-field l = names_of (items_view l.fields) ≡ after l.names (names_of (items_view (drop l.field-index l.fields)))
