use Rattle.std.proofs.Common.{◌≡◌, ◌∙◌, ◌++◌, ◌∷◌, [], ap, ℤ, pos, ◌+◌, arith, rules, refl}
use Rattle.std.specs.Int.{w64, w128, cast_signed, cast_unsigned}
use Rattle.std.proofs.lemmas.Int.{ints, to_z-of_z}
use Rattle.std.proofs.lemmas.List.FromFn.{map-range_with_len_more}
use Rattle.identity_columns.specs.Values.{first_place, number_at}
use Rattle.identity_columns.proofs.Sequence.{all_at}
use Rattle.identity_columns.proofs.values.values.Goals as goal

pub unreachable-requires : goal.unreachable-requires
unreachable-requires c =
    let at : cast_signed w128 (cast_unsigned w128 c.place_after.result) ≡ pos (first_place c.args.rule.now + c.loop-index.index) =
    let first = c.requires.first in let bound = c.requires.bound in let fits = c.ranges.count in let within = c.loop-index-test.true in omega (arith, ints, first, bound, fits, within, c.place_after.ensures) in
    c.in_default.ensures (rw at (all_at (number_at c.args.rule.now) (first_place c.args.rule.now) c.args.count c.loop-index.index c.loop-index-test.true c.requires.range))

pub loop-index-preserved : goal.loop-index-preserved
loop-index-preserved c =
    let at : cast_signed w128 (cast_unsigned w128 c.place_after.result) ≡ pos (first_place c.args.rule.now + c.loop-index.index) =
    let first = c.requires.first in let bound = c.requires.bound in let fits = c.ranges.count in let within = c.loop-index-test.true in omega (arith, ints, first, bound, fits, within, c.place_after.ensures) in
    let value : c.in-Some.value ≡ number_at c.args.rule.now (first_place c.args.rule.now + c.loop-index.index) = rw (← at) (c.in-Some.ensures.1) in
    let kept : cast_signed w64 (cast_unsigned w64 c.in-Some.value) ≡ c.in-Some.value = to_z-of_z w64 _ (search rules) in
    let grown = c.in_ok-push.ensures.ok ∙ ap (λ (value : ℤ). c.loop-index.values ++ value ∷ []) (kept ∙ value) in
    let more = map-range_with_len_more (number_at c.args.rule.now) (first_place c.args.rule.now) c.loop-index.index _ refl in
    rw (more, ← c.loop-index.invariant) grown
