use Rattle.std.proofs.Common.{rules, refl}
use Rattle.table_make.specs.Created.{created}
use Rattle.table_write.specs.Create.{create_table}
use Rattle.table_write.proofs.Creating.{not_made, table_made}
use Rattle.table_write.proofs.Written.{draws_kept, ends_putting, handed, lone_apart, put_of}
use Rattle.table_write.proofs.create.write_table.Goals as goal

pub returns-in_err-fresh-clause-answer : goal.returns-in_err-fresh-clause-answer
returns-in_err-fresh-clause-answer g c = λ free.
    not_made c.args.folder.now c.args.stmt.now (g.S.Store.files c.args.store.now) (g.S.Store.taken c.args.store.now) (g.N.NameSource.given c.args.names.now, g.C.Clock.given c.args.clock.now) (g.N.NameSource.given c.make.new.names, g.C.Clock.given c.make.new.clock) c.in_err-fresh.field-0.0 c.from_residual.result
    (handed c.from_residual.result c.in_err-fresh.field-0.0 c.from_residual.ensures.1) free c.in_err-fresh.ensures.made

pub put_version-requires : goal.put_version-requires
put_version-requires g c = lone_apart c.in_ok-fresh.fresh c.in_ok-fresh.ensures.alone

pub returns-clause-answer : goal.returns-clause-answer
returns-clause-answer g c = λ free.
    let (is, name, time, (drawn, read), same) = c.in_ok-fresh.ensures.made in
    let made = table_made c.args.folder.now c.args.stmt.now (g.S.Store.files c.args.store.now) (g.N.NameSource.given c.args.names.now, g.C.Clock.given c.args.clock.now) (g.N.NameSource.given c.make.new.names, g.C.Clock.given c.make.new.clock) name time free is drawn read in
    ends_putting (create_table c.args.folder.now c.args.stmt.now) (g.S.Store.files c.args.store.now) (g.S.Store.files c.args.store.now) (g.S.Store.files c.put_version.new.store) (g.S.Store.taken c.args.store.now) (g.S.Store.taken c.args.store.now) (g.S.Store.taken c.put_version.new.store) (g.N.NameSource.given c.args.names.now) (g.N.NameSource.given c.make.new.names) (g.C.Clock.given c.args.clock.now) (g.C.Clock.given c.make.new.clock) (created c.args.stmt.now c.args.folder.now name time) c.put_version.result refl refl made
    (put_of c.in_ok-fresh.fresh (created c.args.stmt.now c.args.folder.now name time) (g.S.Store.files c.args.store.now) (g.S.Store.files c.put_version.new.store) (g.S.Store.taken c.args.store.now) (g.S.Store.taken c.put_version.new.store) c.put_version.result same c.put_version.ensures.puts)

pub returns-clause-draws : goal.returns-clause-draws
returns-clause-draws g c = draws_kept c.in_ok-fresh.fresh _ _ _ _ _ _ c.put_version.result c.put_version.ensures.puts (search rules)
