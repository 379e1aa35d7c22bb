use Rattle.std.proofs.Common.{◌≡◌, ◌++◌, map, take}
use Rattle.delta_actions.specs.Removal.{removal_of}
use Rattle.delta_actions.specs.declared.action.Action.TheVariants as action
use Rattle.table_write.proofs.delete.push_removes.Given as goal

abbrev pub invariant-loop-add : goal.invariant-loop-add
invariant-loop-add l = l.actions ≡ l.fn.actions ++ map (λ add. action.Remove (removal_of l.time add)) (take l.add-index l.live)
