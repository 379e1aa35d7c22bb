use Rattle.std.proofs.Common.{rules}
use Rattle.script_run.proofs.Ending.{words_none, due_usage, due_too_long, due_read}
use Rattle.script_run.proofs.runs.what_is_due.Goals as goal

pub returns-then-not-is_empty-clause-due : goal.returns-then-not-is_empty-clause-due
returns-then-not-is_empty-clause-due g c = due_usage c.args.words.now _ c.in_ok-usage.field-0 c.is_empty.result c.is_empty.ensures c.if-not-is_empty.true c.in_ok-usage.ensures

pub returns-in_ok-due_of_script-in-Ok-clause-due : goal.returns-in_ok-due_of_script-in-Ok-clause-due
returns-in_ok-due_of_script-in-Ok-clause-due g c =
    due_read c.args.words.now _ c.in-Ok.text c.as_slice.result.now c.in_ok-due_of_script-in-Ok.field-0 (words_none c.args.words.now c.is_empty.result c.is_empty.ensures c.if-not-is_empty.false) c.in-Ok.ensures.bytes (search rules) c.in_ok-due_of_script-in-Ok.ensures.due

pub returns-in_ok-too_long-in-Err-TooLong-clause-due : goal.returns-in_ok-too_long-in-Err-TooLong-clause-due
returns-in_ok-too_long-in-Err-TooLong-clause-due g c =
    due_too_long c.args.words.now _ c.in_ok-too_long-in-Err-TooLong.field-0 (words_none c.args.words.now c.is_empty.result c.is_empty.ensures c.if-not-is_empty.false) (rw c.in-Err-TooLong.field-0-is at c.in-Err-TooLong.ensures.bytes) c.in_ok-too_long-in-Err-TooLong.ensures
