use Rattle.std.proofs.Common.{rules, Ok, Err}
use Rattle.script_run.proofs.Turns.{put_fails, put_refused, line_unmade, store_fails, names_fail, memory_fails}
use Rattle.script_run.proofs.statements.run_numbered.Goals as goal

pub returns-in_err-put-in-Ok-clause-runs : goal.returns-in_err-put-in-Ok-clause-runs
returns-in_err-put-in-Ok-clause-runs g c =
    put_fails c.args.root.now c.args.number c.args.statement.now _ _ _ _ (Ok c.in-Ok.text) c.as_slice.result.now c.in_err-put-in-Ok.field-0.0 c.from_residual.result c.in-Ok.ensures.answer (search rules) c.in_err-put-in-Ok.ensures.writes (search rules)

pub returns-in_err-line-in-Err-Refused-clause-runs : goal.returns-in_err-line-in-Err-Refused-clause-runs
returns-in_err-line-in-Err-Refused-clause-runs g c =
    line_unmade c.args.root.now c.args.number c.args.statement.now _ _ _ (Err c.in-Err-Refused.why) _ (rw c.in-Err-Refused.field-0-is at c.in-Err-Refused.ensures.answer) (search rules)

pub returns-in_err-put-in-Err-Refused-clause-runs : goal.returns-in_err-put-in-Err-Refused-clause-runs
returns-in_err-put-in-Err-Refused-clause-runs g c =
    put_fails c.args.root.now c.args.number c.args.statement.now _ _ _ _ (Err c.in-Err-Refused.why) c.as_slice-in-Err-Refused.result.now c.in_err-put-in-Err-Refused.field-0.0 _ (rw c.in-Err-Refused.field-0-is at c.in-Err-Refused.ensures.answer) (search rules) c.in_err-put-in-Err-Refused.ensures.writes (search rules)

pub returns-in_ok-put-in-Err-Refused-clause-runs : goal.returns-in_ok-put-in-Err-Refused-clause-runs
returns-in_ok-put-in-Err-Refused-clause-runs g c =
    put_refused c.args.number c.args.statement.now _ _ _ _ c.in-Err-Refused.why c.as_slice-in-Err-Refused.result.now (rw c.in-Err-Refused.field-0-is at c.in-Err-Refused.ensures.answer) (search rules) c.in_ok-put-in-Err-Refused.ensures.writes

pub returns-in-Err-Store-clause-runs : goal.returns-in-Err-Store-clause-runs
returns-in-Err-Store-clause-runs g c = store_fails c.args.number c.args.statement.now _ _ _ (rw c.in-Err-Store.field-0-is at c.in-Err-Store.ensures.answer)

pub returns-in-Err-Names-clause-runs : goal.returns-in-Err-Names-clause-runs
returns-in-Err-Names-clause-runs g c = names_fail c.args.number c.args.statement.now _ _ _ (rw c.in-Err-Names.field-0-is at c.in-Err-Names.ensures.answer)

pub returns-in-Err-Memory-clause-runs : goal.returns-in-Err-Memory-clause-runs
returns-in-Err-Memory-clause-runs g c = memory_fails c.args.number c.args.statement.now _ _ _ (rw c.in-Err-Memory.field-0-is at c.in-Err-Memory.ensures.answer)
