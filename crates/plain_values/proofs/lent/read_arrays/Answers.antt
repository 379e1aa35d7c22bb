use Rattle.std.proofs.Common.{rules, ℕ, List, Bor, ◌≡◌, ◌<◌, ◌-◌, ◌+◌, ◌∙◌, length, sym, ap, arith, Err}
use Rattle.std.proofs.lemmas.Grind.{common_steps}
use Rattle.plain_values.specs.Answers.{lent_values}
use Rattle.plain_values.specs.Forms.{array_at}
use Rattle.plain_values.specs.Meaning.{values_at, whole}
use Rattle.plain_values.proofs.Turns.{value_read, fault_handed, all_read, left_over, none_over, lent_fault, lent_more, with_values}
use Rattle.plain_values.proofs.lent.read_arrays.Goals as goal

pub returns-in_err-array : goal.returns-in_err-array
returns-in_err-array c =
    let failed : c.from_residual.result ≡ Err c.in_err-array.field-0.0 = search rules in
    let handed = fault_handed array_at c.in_err-array.field-0.0 {X = Bor (List ℕ) × Bor (List ℕ)} (λ (found : Bor (List ℕ) × Bor (List ℕ)). (found.0.now, found.1.now)) (lent_values c.loop.arrays) c.args.count c.loop.counter c.args.bytes.now c.loop.rest.now c.loop-test.true c.loop.invariant c.in_err-array.ensures in
    record { reads = rw failed (lent_fault (whole (values_at array_at c.args.count c.args.bytes.now)) c.in_err-array.field-0.0 handed) }

pub loop-preserved : goal.loop-preserved
loop-preserved c =
    c.loop.invariant
    ∙ value_read array_at (lent_values c.loop.arrays) c.in_ok-array.array.now c.args.count c.loop.counter c.loop.rest.now c.in_ok-array.behind.now c.loop-test.true c.in_ok-array.ensures
    ∙ ap (λ values. with_values values (values_at array_at (c.args.count - (c.loop.counter + 1)) c.in_ok-array.behind.now)) (sym (lent_more c.loop.arrays c.in_ok-array.array) ∙ ap lent_values (sym c.in_ok-push.ensures.ok))

pub returns-then-not-is_empty : goal.returns-then-not-is_empty
returns-then-not-is_empty c =
    let some : 0 < length c.loop.rest.now = grind (arith, common_steps) in
    record { reads = all_read array_at (lent_values c.loop.arrays) c.args.count c.loop.counter c.args.bytes.now c.loop.rest.now (omega arith) c.loop.invariant ∙ left_over (lent_values c.loop.arrays) c.loop.rest.now some }

pub returns : goal.returns
returns c =
    let none : length c.loop.rest.now ≡ 0 = grind (arith, common_steps) in
    record { reads = all_read array_at (lent_values c.loop.arrays) c.args.count c.loop.counter c.args.bytes.now c.loop.rest.now (omega arith) c.loop.invariant ∙ none_over (lent_values c.loop.arrays) c.loop.rest.now none }
