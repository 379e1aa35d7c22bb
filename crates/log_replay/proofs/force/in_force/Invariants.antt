use Rattle.std.proofs.Common.{◌≡◌, length}
use Rattle.log_replay.specs.Force.{in_force}
use Rattle.log_replay.proofs.force.in_force.Given as goal

abbrev pub invariant-loop-commit : goal.invariant-loop-commit
invariant-loop-commit g l = in_force g.T.Said.says l.rest ≡ in_force g.T.Said.says l.commits

abbrev pub decreases-loop-commit : goal.decreases-loop-commit
decreases-loop-commit g l = length l.rest
