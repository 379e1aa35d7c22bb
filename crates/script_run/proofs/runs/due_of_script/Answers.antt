use Rattle.script_run.specs.Outcome.{good}
use Rattle.script_run.proofs.Starting.{bad_due}
use Rattle.script_run.proofs.runs.due_of_script.Goals as goal

pub returns-in-Ok-clause-due : goal.returns-in-Ok-clause-due
returns-in-Ok-clause-due c = good c.args.script.now c.in-Ok.statements c.requires c.in-Ok.ensures

pub returns-in_ok-bad_script-in-Err-BadScript-clause-due : goal.returns-in_ok-bad_script-in-Err-BadScript-clause-due
returns-in_ok-bad_script-in-Err-BadScript-clause-due c = bad_due c.args.script.now c.in-Err-BadScript.at c.in_ok-bad_script-in-Err-BadScript.field-0 c.requires (rw c.in-Err-BadScript.field-0-is at c.in-Err-BadScript.ensures) c.in_ok-bad_script-in-Err-BadScript.ensures
