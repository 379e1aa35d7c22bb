use Rattle.std.proofs.Common.{arith, ◌≤◌}
use Rattle.vector_eval.proofs.Exact.{rounded_far, power_bounds}
use Rattle.vector_eval.proofs.numbers.rounded.Goals as goal

pub returns-then-places-gt-MAX_PRECISION : goal.returns-then-places-gt-MAX_PRECISION
returns-then-places-gt-MAX_PRECISION c = rounded_far c.args.places c.args.number c.if-places-gt-MAX_PRECISION.true c.ranges.number

pub halves_up-size-requires-clause-least : goal.halves_up-size-requires-clause-least
halves_up-size-requires-clause-least c =
    let few : c.args.places ≤ 38 = omega arith in
    rw c.ten_to.ensures (power_bounds c.args.places c.requires few).0

pub halves_up-size-requires-clause-most : goal.halves_up-size-requires-clause-most
halves_up-size-requires-clause-most c =
    let few : c.args.places ≤ 38 = omega arith in
    rw c.ten_to.ensures (power_bounds c.args.places c.requires few).1
