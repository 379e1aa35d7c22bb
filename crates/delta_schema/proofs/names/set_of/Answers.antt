use Rattle.std.proofs.Common.{rules, ◌≡◌, ◌<◌, length, ap, ◌∙◌}
use Rattle.std.specs.BTreeSet.{insert_key}
use Rattle.std.specs.Cmp.Lexicographic.{slice_cmp}
use Rattle.std.specs.Ordering.{nat_cmp}
use Rattle.delta_schema.proofs.Held.{held_step}
use Rattle.delta_schema.proofs.names.set_of.Goals as goal

pub loop-name-preserved : goal.loop-name-preserved
loop-name-preserved c = λ name.
    let same : c.in_ok-clone.field-0 ≡ c.name-item.result = search rules in
    let within : c.loop-name.name-index < length c.args.names.now = search (rules, c.loop-name-test.true) in
    held_step c.loop-name.set.keys c.insert.new.self.keys c.args.names.now c.name-item.result name c.loop-name.name-index
    (c.in_ok-insert.ensures.keys ∙ ap (insert_key (slice_cmp nat_cmp) c.loop-name.set.keys) same) within c.name-item.is (c.loop-name.invariant name)
