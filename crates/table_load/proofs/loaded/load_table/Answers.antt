use Rattle.std.proofs.Common.{rules}
use Rattle.table_load.specs.Loaded.{permitted}
use Rattle.table_load.specs.declared.loaded.Loaded.{Loaded}
use Rattle.table_load.proofs.Opening.{allowed, calm, forbidden, handed, unread}
use Rattle.table_load.proofs.loaded.load_table.Goals as goal

pub returns-in_err-loaded-clause-loaded : goal.returns-in_err-loaded-clause-loaded
returns-in_err-loaded-clause-loaded g c =
    unread (g.S.Store.files c.args.store.now) c.args.purpose c.args.folder.now c.args.version c.in_err-loaded.field-0.0 c.from_residual.result c.in_err-loaded.ensures.loaded (search rules)

pub returns-in_err-check_purpose-clause-loaded : goal.returns-in_err-check_purpose-clause-loaded
returns-in_err-check_purpose-clause-loaded g c =
    forbidden (g.S.Store.files c.args.store.now) c.args.purpose c.args.folder.now c.args.version c.in_ok-loaded.loaded c.in_err-check_purpose.field-0.0 c.from_residual-in_err-check_purpose.result
    c.in_ok-loaded.ensures.loaded c.in_err-check_purpose.ensures.answer (handed c.from_residual-in_err-check_purpose.result c.in_err-check_purpose.field-0.0 c.from_residual-in_err-check_purpose.ensures.1)

pub returns-in_err-check_purpose-clause-cause : goal.returns-in_err-check_purpose-clause-cause
returns-in_err-check_purpose-clause-cause g c =
    calm Loaded (permitted c.args.purpose c.in_ok-loaded.loaded.head.snapshot) (g.S.Store.faults c.args.store.now) (g.S.Store.faults c.read_table.new.store) c.in_err-check_purpose.field-0.0 c.from_residual-in_err-check_purpose.result
    c.in_ok-loaded.ensures.cause c.in_err-check_purpose.ensures.answer (handed c.from_residual-in_err-check_purpose.result c.in_err-check_purpose.field-0.0 c.from_residual-in_err-check_purpose.ensures.1)

pub returns-clause-loaded : goal.returns-clause-loaded
returns-clause-loaded g c =
    allowed (g.S.Store.files c.args.store.now) c.args.purpose c.args.folder.now c.args.version c.in_ok-loaded.loaded c.in_ok-loaded.ensures.loaded c.in_ok-check_purpose.ensures.answer
