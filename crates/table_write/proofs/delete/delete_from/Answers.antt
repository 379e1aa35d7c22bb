use Rattle.std.proofs.Common.{rules}
use Rattle.table_write.specs.Delete.{delete_from}
use Rattle.table_write.proofs.Written.{unchecked}
use Rattle.table_write.proofs.delete.delete_from.Goals as goal

pub returns-in_err-found-clause-answer : goal.returns-in_err-found-clause-answer
returns-in_err-found-clause-answer g c =
    unchecked (delete_from c.args.table.now) (g.S.Store.files c.args.store.now) _ (g.S.Store.taken c.args.store.now) _ (g.N.NameSource.given c.args.names.now) (g.C.Clock.given c.args.clock.now) c.in_err-found.field-0.0 _ (search rules) (search rules) (search rules) c.in_err-found.ensures.found

pub returns-clause-answer : goal.returns-clause-answer
returns-clause-answer g c = (rw (c.in_ok-found.ensures.kept, c.in_ok-found.ensures.taken) at c.write_deletion.ensures.answer) c.in_ok-found.ensures.found
