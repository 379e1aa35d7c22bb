use Rattle.std.proofs.Common.{arith, rules, ◌≡◌, get_or, length}
use Rattle.std.proofs.lemmas.Str.{lead_after_ascii}
use Rattle.dm_store.proofs.paths.name_below.Goals as goal

-- src/paths.rt
pub range_from-requires : goal.range_from-requires
range_from-requires c =
    let slash : get_or c.args.path.now (length c.args.dir.now) 0 ≡ 47 = search (rules, c.if-bytes-end-eq47.true) in
    λ _. (omega arith, lead_after_ascii c.args.path.now _ c.utf8.path (omega arith))
