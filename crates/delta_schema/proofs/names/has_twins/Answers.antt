use Rattle.std.proofs.Common.{rules, ◌≡◌, ◌<◌, true, length}
use Rattle.std.specs.Prelude.{string_bytes}
use Rattle.std.specs.Str.{str_to_ascii_lowercase}
use Rattle.delta_schema.proofs.Held.{seen_begin, seen_step, is_new}
use Rattle.delta_schema.proofs.names.has_twins.Goals as goal

pub loop-name-init : goal.loop-name-init
loop-name-init c = seen_begin (λ key. string_bytes key) c.new-seen.result.keys c.args.names.now c.new-seen.ensures.empty

pub loop-name-preserved : goal.loop-name-preserved
loop-name-preserved c =
    let within : c.loop-name.name-index < length c.args.names.now = search (rules, c.loop-name-test.true) in
    let lower : string_bytes c.in_ok-lower.lower ≡ str_to_ascii_lowercase c.name-item.result = search rules in
    let taken : c.in_ok-insert.field-0 ≡ true = search rules in
    seen_step (λ key. string_bytes key) c.loop-name.seen.keys c.insert.new.self.keys c.in_ok-lower.lower c.args.names.now c.name-item.result c.loop-name.name-index _
    c.in_ok-insert.ensures.keys within c.name-item.is lower
    (is_new (λ key. string_bytes key) c.loop-name.seen.keys c.in_ok-lower.lower c.name-item.result c.in_ok-insert.field-0 lower c.in_ok-insert.ensures.added taken)
    c.loop-name.invariant
