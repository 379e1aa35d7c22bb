use Rattle.std.proofs.Common.{◌≡◌, false, true, refl}
use Rattle.table_write.proofs.Creating.{is_absent, is_there}
use Rattle.table_write.proofs.create.check_absent.Goals as goal

pub returns-then-is_empty-clause-absent : goal.returns-then-is_empty-clause-absent
returns-then-is_empty-clause-absent g c = is_absent (g.S.Store.files c.args.store.now) c.args.folder.now c.in_ok-versions.versions c.in_ok-versions.ensures.versions (c.if-is_empty.ensures.0 refl)

pub returns-clause-absent : goal.returns-clause-absent
returns-clause-absent g c = is_there (g.S.Store.files c.args.store.now) c.args.folder.now c.in_ok-versions.versions c.into.result c.into.ensures c.in_ok-versions.ensures.versions (λ none. let no : false ≡ true = c.if-is_empty.ensures.1 none in cc)
