use Rattle.std.proofs.Common.{rules}
use Rattle.log_replay.proofs.Marking.{said_found, said_on}
use Rattle.log_replay.proofs.force.last_said.Goals as goal

pub returns-in-Some-said : goal.returns-in-Some-said
returns-in-Some-said g c =
    said_found g.T.Said.says c.args.actions.now c.loop-action.rest.now c.in-Some.earlier.now c.in-Some.action.now c.in-Some-said.found.now c.loop-action.invariant c.in-Some.ensures.cases.0 (search rules)

pub loop-action-preserved : goal.loop-action-preserved
loop-action-preserved g c =
    said_on g.T.Said.says c.args.actions.now c.loop-action.rest.now c.in-Some.earlier.now c.in-Some.action.now c.loop-action.invariant c.in-Some.ensures.cases.0 (search rules)
