use Rattle.std.proofs.Common.{◌≤◌, length, arith}
use Rattle.dm_text.proofs.Powers.{power_le}
use Rattle.dm_text.proofs.Points.{fraction_bound}
use Rattle.dm_text.proofs.decimals.read_fraction.Goals as goal

pub overflow_mul-result : goal.overflow_mul-result
overflow_mul-result c =
    let few : length c.args.text.now ≤ c.args.places = omega (arith, c.from.ensures) in
    rw c.ten_to.ensures (omega (arith, fraction_bound c.args.text.now c.args.places c.in_ok-number.number few c.in_ok-number.ensures, power_le c.args.places 38 c.requires))

pub returns-clause-bound : goal.returns-clause-bound
returns-clause-bound c =
    let few : length c.args.text.now ≤ c.args.places = omega (arith, c.from.ensures) in
    rw c.ten_to.ensures (omega (arith, fraction_bound c.args.text.now c.args.places c.in_ok-number.number few c.in_ok-number.ensures))
