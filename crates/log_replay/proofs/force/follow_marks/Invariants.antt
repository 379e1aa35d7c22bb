use Rattle.std.proofs.Common.{◌≡◌}
use Rattle.log_replay.specs.Force.{mark_after, fallen_within}
use Rattle.log_replay.proofs.force.follow_marks.Given as goal

abbrev pub invariant-loop-commit : goal.invariant-loop-commit
invariant-loop-commit l = record {
  mark : l.mark ≡ mark_after l.commits l.commit-index;
  fallen : l.fallen ≡ fallen_within l.commits l.commit-index;
}
