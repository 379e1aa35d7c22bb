use Rattle.std.proofs.Common.{rules, ◌≡◌, None}
use Rattle.dm_store.specs.Files.{lookup}
use Rattle.dm_store.proofs.Distinct.{distinct-pushed}
use Rattle.dm_store.proofs.sure_store.SureStoreStore.put_new.Goals as goal

pub invariant_of-self-2 : goal.invariant_of-self-2
invariant_of-self-2 c =
    let absent : lookup c.in_ok-from_str.field-0 c.args.self.now.files ≡ None = search rules in
    record { distinct = distinct-pushed c.args.self.now.files c.push.new.self c.in_ok-from_str.field-0 c.in_ok-from_slice.field-0 c.push.result c.args.self.now.distinct absent (search (rules, c.push.ensures.ok)) (search (rules, c.push.ensures.err)) }
