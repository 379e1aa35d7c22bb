use Rattle.std.proofs.Common.{rules, refl, w64}
use Rattle.std.proofs.lemmas.Int.{to_z-of_z}
use Rattle.table_write.specs.Delete.{delete_from, deletion}
use Rattle.table_write.proofs.Deleting.{deletion_made, deletion_apart, deletion_same}
use Rattle.table_write.proofs.Written.{undrawn, unmade, ends_putting, draws_kept, put_of}
use Rattle.table_write.proofs.delete.write_deletion.Goals as goal

pub returns-in_err-draw-clause-answer : goal.returns-in_err-draw-clause-answer
returns-in_err-draw-clause-answer g c = λ passed.
    undrawn (delete_from c.args.folder.now) c.args.table.now (g.S.Store.files c.args.store.now) (g.S.Store.taken c.args.store.now) (g.N.NameSource.given c.args.names.now) (g.N.NameSource.given c.draw.new.names) (g.C.Clock.given c.args.clock.now) c.in_err-draw.field-0.0 c.from_residual.result (search rules) passed c.in_err-draw.ensures.given

pub returns-in_err-fresh-clause-answer : goal.returns-in_err-fresh-clause-answer
returns-in_err-fresh-clause-answer g c = λ passed.
    let made = deletion_made c.args.folder.now (g.S.Store.files c.args.store.now) (g.N.NameSource.given c.args.names.now) (g.N.NameSource.given c.draw.new.names) (g.C.Clock.given c.args.clock.now) (g.C.Clock.given c.now_ms-time.new.self) c.args.table.now c.in_ok-draw.field-0 c.now_ms-time.result passed c.in_ok-draw.ensures.given c.now_ms-time.ensures.given in
    unmade (delete_from c.args.folder.now) (g.S.Store.files c.args.store.now) (g.S.Store.files c.args.store.now) (g.S.Store.taken c.args.store.now) (g.S.Store.taken c.args.store.now) (g.N.NameSource.given c.args.names.now) (g.N.NameSource.given c.draw.new.names) (g.C.Clock.given c.args.clock.now) (g.C.Clock.given c.now_ms-time.new.self) _ _ (search rules) refl refl made

pub put_version-requires : goal.put_version-requires
put_version-requires g c = deletion_apart c.args.folder.now c.args.table.now _ c.in_ok-fresh.fresh c.in_ok-fresh.ensures

pub returns-clause-answer : goal.returns-clause-answer
returns-clause-answer g c = λ passed.
    let made = deletion_made c.args.folder.now (g.S.Store.files c.args.store.now) (g.N.NameSource.given c.args.names.now) (g.N.NameSource.given c.draw.new.names) (g.C.Clock.given c.args.clock.now) (g.C.Clock.given c.now_ms-time.new.self) c.args.table.now c.in_ok-draw.field-0 c.now_ms-time.result passed c.in_ok-draw.ensures.given c.now_ms-time.ensures.given in
    ends_putting (delete_from c.args.folder.now) (g.S.Store.files c.args.store.now) (g.S.Store.files c.args.store.now) (g.S.Store.files c.put_version.new.store) (g.S.Store.taken c.args.store.now) (g.S.Store.taken c.args.store.now) (g.S.Store.taken c.put_version.new.store) (g.N.NameSource.given c.args.names.now) (g.N.NameSource.given c.draw.new.names) (g.C.Clock.given c.args.clock.now) (g.C.Clock.given c.now_ms-time.new.self) (deletion c.args.folder.now c.args.table.now c.now_ms-time.result) c.put_version.result refl refl made
    (put_of c.in_ok-fresh.fresh (deletion c.args.folder.now c.args.table.now c.now_ms-time.result) (g.S.Store.files c.args.store.now) (g.S.Store.files c.put_version.new.store) (g.S.Store.taken c.args.store.now) (g.S.Store.taken c.put_version.new.store) c.put_version.result (deletion_same c.args.folder.now c.args.table.now c.in_ok-fresh.fresh _ c.now_ms-time.result c.in_ok-fresh.ensures (to_z-of_z w64 c.now_ms-time.result (search rules))) c.put_version.ensures.puts)

pub returns-clause-draws : goal.returns-clause-draws
returns-clause-draws g c = draws_kept c.in_ok-fresh.fresh _ _ _ _ _ _ c.put_version.result c.put_version.ensures.puts (search rules)
