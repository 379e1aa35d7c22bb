use Rattle.std.proofs.Common.{ℕ, List, Bor, refl, ◌≡◌, ◌<◌, ◌∙◌, length, sym, arith}
use Rattle.std.proofs.lemmas.Grind.{common_steps}
use Rattle.std.proofs.lemmas.Result.{err_from_is_err_and}
use Rattle.plain_values.proofs.Turns.{none_read, value_read, fault_handed, all_read, left_over, none_over}
use Rattle.plain_values.proofs.in_turn.read_values.Goals as goal

pub loop-init : goal.loop-init
loop-init g c = rw c.new-values.ensures (none_read (g.P.InTurn.value_at c.args.length) c.args.count c.args.bytes.now)

pub loop-preserved : goal.loop-preserved
loop-preserved g c =
    c.loop.invariant
    ∙ value_read (g.P.InTurn.value_at c.args.length) c.loop.values c.in_ok-value.value c.args.count c.loop.counter c.loop.rest.now c.in_ok-value.behind.now c.loop-test.true c.in_ok-value.ensures
    ∙ rw (sym c.in_ok-push.ensures.ok) refl

pub returns-in_err-value : goal.returns-in_err-value
returns-in_err-value g c =
    let fault = fault_handed (g.P.InTurn.value_at c.args.length) c.in_err-value.field-0.0 {X = g.row.P-Value.Denot × Bor (List ℕ)} (λ (found : g.row.P-Value.Denot × Bor (List ℕ)). (found.0, found.1.now)) c.loop.values c.args.count c.loop.counter c.args.bytes.now c.loop.rest.now c.loop-test.true c.loop.invariant
    c.in_err-value.ensures in
    let handed = err_from_is_err_and c.from_residual.result c.from_residual.ensures.1 in
    rw (handed.1, handed.2) fault

pub returns-then-not-is_empty : goal.returns-then-not-is_empty
returns-then-not-is_empty g c =
    let some : 0 < length c.loop.rest.now = grind (arith, common_steps) in
    all_read (g.P.InTurn.value_at c.args.length) c.loop.values c.args.count c.loop.counter c.args.bytes.now c.loop.rest.now (omega arith) c.loop.invariant ∙ left_over c.loop.values c.loop.rest.now some

pub returns : goal.returns
returns g c =
    let none : length c.loop.rest.now ≡ 0 = grind (arith, common_steps) in
    all_read (g.P.InTurn.value_at c.args.length) c.loop.values c.args.count c.loop.counter c.args.bytes.now c.loop.rest.now (omega arith) c.loop.invariant ∙ none_over c.loop.values c.loop.rest.now none
