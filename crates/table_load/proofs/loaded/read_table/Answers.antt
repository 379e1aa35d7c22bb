use Rattle.std.proofs.Common.{rules, refl, ◌∙◌}
use Rattle.table_load.specs.Held.{sound_ids}
use Rattle.table_load.specs.Loaded.{come_to}
use Rattle.table_load.specs.declared.loaded.Loaded.{Loaded}
use Rattle.table_load.proofs.Opening.{calm, handed, head_refused, ids_refused, opens, rows_refused}
use Rattle.table_load.proofs.loaded.read_table.Goals as goal

pub returns-in_err-head-clause-loaded : goal.returns-in_err-head-clause-loaded
returns-in_err-head-clause-loaded g c =
    head_refused (g.S.Store.files c.args.store.now) c.args.folder.now c.args.version c.in_err-head.field-0.0 c.from_residual.result c.in_err-head.ensures.head (search rules)

pub returns-in_err-all-clause-loaded : goal.returns-in_err-all-clause-loaded
returns-in_err-all-clause-loaded g c =
    rows_refused (g.S.Store.files c.args.store.now) (g.S.Store.files c.load_head.new.store) c.args.folder.now c.args.version c.in_ok-head.head c.in_err-all.field-0.0 c.from_residual-in_err-all.result
    c.in_ok-head.ensures.kept c.in_ok-head.ensures.head c.in_err-all.ensures.joined (search rules)

pub returns-in_err-check_row_ids-clause-loaded : goal.returns-in_err-check_row_ids-clause-loaded
returns-in_err-check_row_ids-clause-loaded g c =
    ids_refused (g.S.Store.files c.args.store.now) (g.S.Store.files c.load_head.new.store) c.args.folder.now c.args.version c.in_ok-head.head (come_to c.in_ok-all.all) c.in_err-check_row_ids.field-0.0 c.from_residual-in_err-check_row_ids.result
    c.in_ok-head.ensures.kept c.in_ok-head.ensures.head c.in_ok-all.ensures.joined c.in_err-check_row_ids.ensures (handed c.from_residual-in_err-check_row_ids.result c.in_err-check_row_ids.field-0.0 c.from_residual-in_err-check_row_ids.ensures.1)

pub returns-in_err-check_row_ids-clause-cause : goal.returns-in_err-check_row_ids-clause-cause
returns-in_err-check_row_ids-clause-cause g c =
    calm Loaded (sound_ids c.in_ok-head.head.snapshot c.in_ok-all.all.ids) (g.S.Store.faults c.args.store.now) (g.S.Store.faults c.live_files.new.store) c.in_err-check_row_ids.field-0.0 c.from_residual-in_err-check_row_ids.result
    (c.in_ok-all.ensures.cause ∙ c.in_ok-head.ensures.cause) c.in_err-check_row_ids.ensures (handed c.from_residual-in_err-check_row_ids.result c.in_err-check_row_ids.field-0.0 c.from_residual-in_err-check_row_ids.ensures.1)

pub returns-clause-loaded : goal.returns-clause-loaded
returns-clause-loaded g c =
    opens (g.S.Store.files c.args.store.now) (g.S.Store.files c.load_head.new.store) c.args.folder.now c.args.version c.in_ok-head.head (come_to c.in_ok-all.all) (record { head = c.in_ok-head.head; batch = c.in_ok-all.all.batch; ids = c.in_ok-all.all.ids; files = c.in_ok-all.all.files })
    c.in_ok-head.ensures.kept c.in_ok-head.ensures.head c.in_ok-all.ensures.joined c.in_ok-check_row_ids.ensures refl
