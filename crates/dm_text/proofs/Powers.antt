-- Powers of ten.
use Rattle.std.proofs.Common.{◌≡◌, ℕ, ◌+◌, ◌-◌, ◌*◌, ◌^◌, ◌<◌, ◌≤◌, subst, arith}
use Rattle.std.proofs.lemmas.Nat.{pow-add}
use Rattle.std.proofs.Math.Nat.{one-le-pow, mul-le-mul_left}

pub power_some : (k : ℕ) → 1 ≤ 10 ^ k
power_some k = one-le-pow k 10 (omega arith)

power_grows : (i k : ℕ) → 10 ^ i ≤ 10 ^ (i + k)
power_grows i k = rw (pow-add 10 i k) (omega (arith, mul-le-mul_left (10 ^ i) (power_some k)))

pub power_le : (i j : ℕ) → i ≤ j → 10 ^ i ≤ 10 ^ j
power_le i j less = let e : i + (j - i) ≡ j = omega arith in subst (λ n. 10 ^ i ≤ 10 ^ n) e (power_grows i (j - i))

-- a number below a power, in units of a smaller place
pub scaled : (n r s : ℕ) → n < 10 ^ r → n * 10 ^ s + 10 ^ s ≤ 10 ^ (r + s)
scaled n r s less =
    let more : n + 1 ≤ 10 ^ r = omega arith in
    rw (pow-add 10 r s) (omega (arith, mul-le-mul_left (10 ^ s) more))
