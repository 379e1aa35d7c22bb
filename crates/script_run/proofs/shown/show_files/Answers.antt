use Rattle.std.proofs.Common.{rules}
use Rattle.script_run.proofs.Showing.{shown, not_shown}
use Rattle.script_run.proofs.shown.show_files.Goals as goal

pub returns-in_err-commits-clause-answer : goal.returns-in_err-commits-clause-answer
returns-in_err-commits-clause-answer g c = not_shown _ c.args.folder.now c.in_err-commits.field-0.0 c.from_residual.result (search rules) c.in_err-commits.ensures.commits

pub returns-clause-answer : goal.returns-clause-answer
returns-clause-answer g c =
    shown _ c.args.folder.now c.in_ok-commits.commits c.in_ok-paths.paths c.sort_texts.new.texts c.in_ok-path_lines.field-0 c.in_ok-commits.ensures.commits (search rules) (search rules) (search rules)
