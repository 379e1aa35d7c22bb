use Rattle.std.proofs.Common.{rules, refl, ◌∙◌, ◌≡◌, ◌+◌}
use Rattle.log_replay.specs.Force.{fallen_within, mark_after}
use Rattle.log_replay.proofs.Marking.{mark_next, fallen_next}
use Rattle.log_replay.proofs.force.follow_marks.Goals as goal

pub loop-commit-init : goal.loop-commit-init
unfolding fallen_within
loop-commit-init c = record { mark = refl; fallen = refl }

pub loop-commit-preserved : goal.loop-commit-preserved
loop-commit-preserved c =
    let next : c.in_ok-mark.mark ≡ mark_after c.args.commits.now (c.loop-commit.commit-index + 1) = c.in_ok-mark.ensures ∙ mark_next c.args.commits.now c.commit-item.result c.loop-commit.commit-index _ (search rules) (search rules) (search rules) in
    record {
      mark = search rules;
      fallen = fallen_next c.args.commits.now c.loop-commit.commit-index _ c.in_ok-mark.mark c.loop-commit.fallen c.first_fall-fallen.result c.loop-commit.invariant.mark next c.loop-commit.invariant.fallen (search rules);
    }
