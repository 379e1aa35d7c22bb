use Rattle.std.proofs.Common.{ℕ, ◌^◌, ◌<◌, ◌≤◌, arith}
use Rattle.std.proofs.Math.Nat.{pow-le-pow_right}
use Rattle.dm_types.proofs.powers.ten_to.Goals as goal

power_fits : (k : ℕ) → k ≤ 38 → 10 ^ k < 2 ^ 128
power_fits k small =
    let le : 10 ^ k ≤ 10 ^ 38 = pow-le-pow_right (omega arith) small in
    omega (arith, le)

pub pow-requires : goal.pow-requires
pow-requires c = power_fits c.from.result (omega (arith, c.from.ensures))
