use Rattle.std.proofs.Common.{rules}
use Rattle.script_run.proofs.Ending.{line_written, line_fails}
use Rattle.script_run.proofs.runs.end.Goals as goal

pub returns-in-Ok-clause-ends : goal.returns-in-Ok-clause-ends
returns-in-Ok-clause-ends g c = line_written c.args.outcome.now _ _ c.as_slice.result.now (search rules) c.in-Ok.ensures.writes

pub returns-in-Err-clause-ends : goal.returns-in-Err-clause-ends
returns-in-Err-clause-ends g c = line_fails c.args.outcome.now _ _ c.as_slice.result.now c.in-Err.fault c.from.result (search rules) c.in-Err.ensures.writes c.from.ensures
