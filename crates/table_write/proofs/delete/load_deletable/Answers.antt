use Rattle.std.proofs.Common.{rules}
use Rattle.table_write.proofs.Deleting.{is_deletable, not_loaded, not_passed, passes_count}
use Rattle.table_write.proofs.Written.{handed}
use Rattle.table_write.proofs.delete.load_deletable.Goals as goal

pub returns-in_err-loaded-clause-found : goal.returns-in_err-loaded-clause-found
returns-in_err-loaded-clause-found g c = not_loaded (g.S.Store.files c.args.store.now) c.args.table.now c.in_err-loaded.field-0.0 _ (search rules) c.in_err-loaded.ensures.loaded

pub returns-in_err-check_head-clause-found : goal.returns-in_err-check_head-clause-found
returns-in_err-check_head-clause-found g c =
    not_passed (g.S.Store.files c.args.store.now) c.args.table.now c.in_ok-loaded.loaded c.in_err-check_head.field-0.0 c.from_residual-in_err-check_head.result
    (handed c.from_residual-in_err-check_head.result c.in_err-check_head.field-0.0 c.from_residual-in_err-check_head.ensures.1) c.in_ok-loaded.ensures.loaded (search rules)

pub returns-in_err-check_head-clause-cause : goal.returns-in_err-check_head-clause-cause
returns-in_err-check_head-clause-cause g c =
    passes_count c.in_ok-loaded.loaded.head c.in_err-check_head.field-0.0 c.from_residual-in_err-check_head.result _ _
    (handed c.from_residual-in_err-check_head.result c.in_err-check_head.field-0.0 c.from_residual-in_err-check_head.ensures.1) (search rules) (search rules)

pub returns-clause-found : goal.returns-clause-found
returns-clause-found g c = is_deletable (g.S.Store.files c.args.store.now) c.args.table.now c.in_ok-loaded.loaded c.in_ok-loaded.ensures.loaded (search rules)
