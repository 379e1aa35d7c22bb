use Rattle.std.proofs.Common.{◌≡◌, length}
use Rattle.log_replay.specs.Force.{last_said}
use Rattle.log_replay.proofs.force.last_said.Given as goal

abbrev pub invariant-loop-action : goal.invariant-loop-action
invariant-loop-action g l = last_said g.T.Said.says l.rest ≡ last_said g.T.Said.says l.actions

abbrev pub decreases-loop-action : goal.decreases-loop-action
decreases-loop-action g l = length l.rest
