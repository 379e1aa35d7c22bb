use Rattle.std.proofs.Common.{rules, ◌≡◌, ◌++◌}
use Rattle.dm_store.proofs.Deduped.{lists-both}
use Rattle.dm_store.proofs.claim_store.ClaimStoreStore.list.Goals as goal

pub returns-clause-both : goal.returns-clause-both
returns-clause-both c =
    let joined : c.in_ok-all.all ≡ c.in_ok-names.names ++ c.args.self.now.added = search rules in
    lists-both c.args.dir.now c.args.self.now.inner.sure.files c.in_ok-names.names c.args.self.now.added c.each_once.result c.in_ok-names.ensures.names c.each_once.ensures.distinct (rw joined at c.each_once.ensures.same)
