use Rattle.std.proofs.Common.{ℕ, ◌≡◌, ◌^◌, ◌<◌, ◌≤◌, arith}
use Rattle.std.proofs.Math.Nat.{pow-le-pow_right}
use Rattle.typed_expr.proofs.literal.decimal_kind.Goals as goal

number_fits : (n p s power : ℕ) → p ≤ 38 → s ≤ p → n < power → power ≡ 10 ^ p → (n < 2 ^ 127) × (s < 256)
number_fits n p s power few within below is =
    let le : 10 ^ p ≤ 10 ^ 38 = pow-le-pow_right {n = 10} (omega arith) few in
    (omega (arith, le, below, is), omega (arith, few, within))

pub returns-clause-small : goal.returns-clause-small
returns-clause-small c some =
    number_fits c.args.number.unscaled c.args.number.precision c.args.number.scale c.ten_to.result
    (omega (arith, c.if-number-from.false, c.from.ensures)) c.if-number.false c.if-number-ten_to.false c.ten_to.ensures
