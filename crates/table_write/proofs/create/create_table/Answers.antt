use Rattle.std.proofs.Common.{rules}
use Rattle.table_write.specs.Create.{create_table}
use Rattle.table_write.proofs.Creating.{not_absent}
use Rattle.table_write.proofs.Written.{unchecked}
use Rattle.table_write.proofs.create.create_table.Goals as goal

pub returns-in_err-check_absent-clause-answer : goal.returns-in_err-check_absent-clause-answer
returns-in_err-check_absent-clause-answer g c =
    unchecked (create_table c.args.folder.now c.args.stmt.now) (g.S.Store.files c.args.store.now) _ (g.S.Store.taken c.args.store.now) _ (g.N.NameSource.given c.args.names.now) (g.C.Clock.given c.args.clock.now) c.in_err-check_absent.field-0.0 _ (search rules) (search rules) (search rules)
    (not_absent (g.S.Store.files c.args.store.now) c.args.folder.now c.args.stmt.now c.in_err-check_absent.field-0.0 c.in_err-check_absent.ensures.absent)

pub returns-clause-answer : goal.returns-clause-answer
returns-clause-answer g c = (rw (c.in_ok-check_absent.ensures.kept, c.in_ok-check_absent.ensures.taken) at c.write_table.ensures.answer) c.in_ok-check_absent.ensures.absent
