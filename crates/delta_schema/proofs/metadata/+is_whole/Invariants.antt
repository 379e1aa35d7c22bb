use Rattle.std.proofs.Common.{◌≡◌, drop}
use Rattle.serde_json.specs.View.{view, items_view, members_view}
use Rattle.delta_schema.specs.Metadata.{is_whole, are_whole_items, are_whole_members}
use Rattle.delta_schema.proofs.metadata.+is_whole.Given as goal

abbrev pub decreases-is_whole : goal.decreases-is_whole
decreases-is_whole l = goal.size-is_whole l

abbrev pub invariant-loop-item : goal.invariant-loop-item
invariant-loop-item l = is_whole (view l.value) ≡ are_whole_items (items_view (drop l.item-index l.item-items))

abbrev pub invariant-loop-name : goal.invariant-loop-name
invariant-loop-name l = is_whole (view l.value) ≡ are_whole_members (members_view l._name-iterator)
