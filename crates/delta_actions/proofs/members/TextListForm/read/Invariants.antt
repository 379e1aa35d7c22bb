use Rattle.std.proofs.Common.{◌≡◌, drop}
use Rattle.serde_json.specs.Find.{as_str}
use Rattle.serde_json.specs.View.{view, items_view}
use Rattle.delta_actions.specs.Forms.{each_item, texts}
use Rattle.delta_actions.proofs.Collecting.{after}
use Rattle.delta_actions.proofs.members.TextListForm.read.Given as goal

abbrev pub invariant-loop-item : goal.invariant-loop-item
invariant-loop-item l = texts (view l.value) ≡ after l.texts (each_item as_str (items_view (drop l.item-index l.item-items)))
