use Rattle.std.proofs.Common.{◌≡◌, ◌+◌, length, drop}
use Rattle.delta_actions.specs.Meaning.{commit_of, lines, then_more, actions_from}
use Rattle.delta_actions.proofs.commit.read_commit.Given as goal

abbrev pub invariant-loop-line : goal.invariant-loop-line
invariant-loop-line l = record {
  number : l.number ≡ length l.yielded + 1;
  left : commit_of l.bytes ≡ then_more l.actions (actions_from l.number (drop (length l.yielded) (lines l.bytes)));
}
