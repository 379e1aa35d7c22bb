use Rattle.std.proofs.Common.{◌+◌, ◌^◌, ◌<◌, arith, rules}
use Rattle.dm_text.proofs.Powers.{scaled, power_le}
use Rattle.dm_text.proofs.Points.{front_none}
use Rattle.dm_text.proofs.decimals.read_front.Goals as goal

pub returns-in_err-number-clause-value : goal.returns-in_err-number-clause-value
returns-in_err-number-clause-value c = rw (← front_none c.args.room c.args.scale c.args.text.now (omega (arith, c.requires)) c.in_err-number.ensures) (search rules)

pub overflow_mul-result : goal.overflow_mul-result
overflow_mul-result c =
    let small : c.in_ok-number.number < 10 ^ c.args.room = search (rules, c.if-number-ten_to.true) in
    rw c.ten_to-then-number-ten_to.ensures (omega (arith, scaled c.in_ok-number.number c.args.room c.args.scale small, power_le (c.args.room + c.args.scale) 38 c.requires))

pub returns-then-number-ten_to-clause-bound : goal.returns-then-number-ten_to-clause-bound
returns-then-number-ten_to-clause-bound c =
    let small : c.in_ok-number.number < 10 ^ c.args.room = search (rules, c.if-number-ten_to.true) in
    rw c.ten_to-then-number-ten_to.ensures (scaled c.in_ok-number.number c.args.room c.args.scale small)
