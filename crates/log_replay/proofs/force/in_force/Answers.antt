use Rattle.std.proofs.Common.{rules}
use Rattle.log_replay.proofs.Marking.{force_found, force_on}
use Rattle.log_replay.proofs.force.in_force.Goals as goal

pub returns-in-Some-last_said : goal.returns-in-Some-last_said
returns-in-Some-last_said g c =
    force_found g.T.Said.says c.args.commits.now c.loop-commit.rest.now c.in-Some.earlier.now c.in-Some.commit.now c.in-Some-last_said.found.now c.loop-commit.invariant c.in-Some.ensures.cases.0 (search rules)

pub loop-commit-preserved : goal.loop-commit-preserved
loop-commit-preserved g c =
    force_on g.T.Said.says c.args.commits.now c.loop-commit.rest.now c.in-Some.earlier.now c.in-Some.commit.now c.loop-commit.invariant c.in-Some.ensures.cases.0 (search rules)
