use Rattle.std.proofs.Common.{◌≡◌, ◌∙◌, pos, ◌+◌, ◌-◌, ◌<◌, true, false, arith, sym}
use Rattle.std.specs.Int.{w128, cast_signed, cast_unsigned}
use Rattle.std.proofs.lemmas.Int.{ints, to_z-of_z}
use Rattle.identity_columns.specs.Values.{first_place}
use Rattle.identity_columns.proofs.Sequence.{both_there, first_not_there}
use Rattle.identity_columns.proofs.values.are_long.Goals as goal

pub returns-then-is_some : goal.returns-then-is_some
returns-then-is_some c =
    let some : 0 < c.args.count = omega (arith, c.if-count-eq0.false) in
    let at : cast_signed w128 (cast_unsigned w128 c.args.first) ≡ pos (first_place c.args.rule.now) = to_z-of_z w128 _ c.ranges.first ∙ c.requires.first in
    let last : cast_signed w128 (cast_unsigned w128 c.place_after-last.result) ≡ pos (first_place c.args.rule.now + (c.args.count - 1)) =
    let first = c.requires.first in let bound = c.requires.bound in let fits = c.ranges.count in omega (arith, ints, first, bound, fits, c.place_after-last.ensures) in
    rw (c.is_some-then-is_some.ensures) (both_there c.args.rule.now c.args.count _ _ _ _ some at last c.value_at.ensures c.value_at-then-is_some.ensures (sym c.is_some.ensures ∙ c.if-is_some.true))

pub returns-else-is_some : goal.returns-else-is_some
returns-else-is_some c =
    let some : 0 < c.args.count = omega (arith, c.if-count-eq0.false) in
    let at : cast_signed w128 (cast_unsigned w128 c.args.first) ≡ pos (first_place c.args.rule.now) = to_z-of_z w128 _ c.ranges.first ∙ c.requires.first in
    let not_all = first_not_there c.args.rule.now c.args.count _ _ some at c.value_at.ensures (sym c.is_some.ensures ∙ c.if-is_some.false) in (
      λ is. absurd (let off : true ≡ false = sym is ∙ c.if-is_some.false in cc),
      λ all. absurd (not_all all),
    )
