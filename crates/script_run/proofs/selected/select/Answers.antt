use Rattle.std.proofs.Common.{rules}
use Rattle.std.specs.Option.{option_copied}
use Rattle.table_load.specs.Loaded.{seen}
use Rattle.script_run.proofs.Answering.{answer_told, counts_on, not_answered}
use Rattle.script_run.proofs.selected.select.Goals as goal

pub returns-in_err-loaded-clause-answer : goal.returns-in_err-loaded-clause-answer
returns-in_err-loaded-clause-answer g c =
    not_answered seen (g.S.Store.files c.args.store.now) c.args.folder.now c.args.table.now c.args.version c.args.items.now (option_copied c.args.condition) c.in_err-loaded.field-0.0 c.from_residual.result (search rules) c.in_err-loaded.ensures.loaded

pub returns-clause-answer : goal.returns-clause-answer
returns-clause-answer g c =
    answer_told (g.S.Store.files c.args.store.now) c.args.folder.now c.args.table.now c.args.version c.args.items.now (option_copied c.args.condition) (seen c.in_ok-loaded.loaded) c.select_from.result c.in_ok-loaded.ensures.loaded c.select_from.ensures

pub returns-clause-cause : goal.returns-clause-cause
returns-clause-cause g c = counts_on _ c.select_from.result _ _ c.in_ok-loaded.ensures.cause c.select_from.ensures
