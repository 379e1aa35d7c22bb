use Rattle.std.proofs.Common.{rules}
use Rattle.table_load.specs.Loaded.{seen}
use Rattle.script_run.proofs.ShowingRows.{not_shown, shown}
use Rattle.script_run.proofs.shown_rows.show_rows.Goals as goal

pub returns-in_err-loaded-clause-answer : goal.returns-in_err-loaded-clause-answer
returns-in_err-loaded-clause-answer g c =
    not_shown seen (g.S.Store.files c.args.store.now) c.args.folder.now c.args.version c.in_err-loaded.field-0.0 c.from_residual.result (search rules) c.in_err-loaded.ensures.loaded

pub returns-clause-answer : goal.returns-clause-answer
returns-clause-answer g c =
    shown (g.S.Store.files c.args.store.now) c.args.folder.now c.args.version (seen c.in_ok-loaded.loaded) c.in_ok-rows_text.field-0 c.in_ok-loaded.ensures.loaded c.in_ok-rows_text.ensures
