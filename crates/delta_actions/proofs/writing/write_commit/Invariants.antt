use Rattle.std.proofs.Common.{◌≡◌, take}
use Rattle.std.specs.List.{AllByRecursion}
use Rattle.delta_actions.specs.StepsWriting.{HasWholes}
use Rattle.delta_actions.proofs.Lines.{IsSpelled, text_of}
use Rattle.delta_actions.proofs.writing.write_commit.Given as goal

abbrev pub invariant-loop-action : goal.invariant-loop-action
invariant-loop-action l = record {
  text : l.bytes ≡ text_of (take l.action-index l.action-items);
  utf8 : AllByRecursion IsSpelled (take l.action-index l.action-items);
  wholes : AllByRecursion HasWholes (take l.action-index l.action-items);
}
