use Rattle.script_run.proofs.Starting.{script_read}
use Rattle.script_run.proofs.script.statements_of.Goals as goal

pub returns : goal.returns
returns c = script_read c.args.script.now c.read_script.result c.read_script.ensures.found c.read_script.ensures.only c.read_script.ensures.place
