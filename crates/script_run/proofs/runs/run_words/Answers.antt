use Rattle.std.proofs.Common.{rules}
use Rattle.script_run.proofs.Ending.{line_ran, statements_ran, source_failed, memory_failed}
use Rattle.script_run.proofs.Turns.{line_read_on, runs_on, statements_read}
use Rattle.script_run.proofs.runs.run_words.Goals as goal

pub returns-in-Ok-Ends-clause-ran : goal.returns-in-Ok-Ends-clause-ran
returns-in-Ok-Ends-clause-ran g c =
    line_ran c.args.words.now _ _ _ _ c.in-Ok-Ends.outcome c.end.result (rw c.in-Ok-Ends.field-0-is at c.in-Ok-Ends.ensures.due) c.end.ensures.ends

pub returns-in-Ok-Runs-clause-ran : goal.returns-in-Ok-Runs-clause-ran
returns-in-Ok-Runs-clause-ran g c =
    statements_ran c.args.words.now _ _ _ _ _ c.in-Ok-Runs.statements c.run_statements.result c.new-root.result (search rules) (rw c.in-Ok-Runs.field-0-is at c.in-Ok-Runs.ensures.due) c.run_statements.ensures.runs

pub returns-in-Ok-Ends-clause-reads : goal.returns-in-Ok-Ends-clause-reads
returns-in-Ok-Ends-clause-reads g c =
    let (text, written, ends) = c.end.ensures.ends in
    line_read_on _ _ ends (rw c.in-Ok-Ends.field-0-is at c.in-Ok-Ends.ensures.reads)

pub returns-in-Ok-Runs-clause-reads : goal.returns-in-Ok-Runs-clause-reads
returns-in-Ok-Runs-clause-reads g c =
    let (text, written, runs) = c.run_statements.ensures.runs in
    statements_read _ _ runs (rw c.in-Ok-Runs.field-0-is at c.in-Ok-Runs.ensures.reads)

pub returns-in-Err-Source-clause-ran : goal.returns-in-Err-Source-clause-ran
returns-in-Err-Source-clause-ran g c = source_failed c.args.words.now _ _ _ (rw c.in-Err-Source.field-0-is at c.in-Err-Source.ensures.due)

pub returns-in-Err-Memory-clause-ran : goal.returns-in-Err-Memory-clause-ran
returns-in-Err-Memory-clause-ran g c = memory_failed c.args.words.now _ _ _

pub returns-in-Ok-Runs-clause-apart : goal.returns-in-Ok-Runs-clause-apart
returns-in-Ok-Runs-clause-apart g c =
    let (text, written, runs) = c.run_statements.ensures.runs in
    λ before. absurd (runs_on runs before)
