use Rattle.std.proofs.Common.{◌≡◌, ◌++◌, map, take}
use Rattle.script_run.proofs.selected.push_items.Given as goal

abbrev pub invariant-loop-item : goal.invariant-loop-item
invariant-loop-item l = l.names ≡ l.initial.names ++ map (λ item. item.name) (take l.item-index l.items)
