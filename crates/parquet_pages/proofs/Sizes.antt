-- The size of a decimal: the first number of bytes with room for its digits.
use Rattle.std.proofs.Common.{◌≡◌, ℕ, suc, ◌+◌, ◌-◌, ◌*◌, ◌^◌, ◌%◌, ◌<◌, ◌≤◌, Bool, true, false, cond, refl, ap, ◌∙◌, arith}
use Rattle.std.specs.List.{range_with_len}
use Rattle.std.proofs.lemmas.Bool.{le-leb, lt-leb}
use Rattle.std.proofs.lemmas.Nat.{pow_below}
use Rattle.std.proofs.Math.Nat.{mod-eq_of_lt, pow-le-pow_right}
use Rattle.parquet_pages.specs.Stored.{first_that, has_room}

passed : (test : ℕ → Bool) (n left : ℕ) (t : Bool) → test n ≡ t → t ≡ false → first_that test (range_with_len n (suc left)) ≡ first_that test (range_with_len (n + 1) left)
unfolding first_that
passed test n left t is fails = ap (λ b. cond b n (first_that test (range_with_len (n + 1) left))) (is ∙ fails)

pub first_passed : (test : ℕ → Bool) (n most left next rest : ℕ) → test n ≡ false → most ≡ suc left → next ≡ n + 1 → rest ≡ left → first_that test (range_with_len n most) ≡ first_that test (range_with_len next rest)
first_passed test n most left next rest fails a b d = rw (a, b, d) (passed test n left (test n) refl fails)

pub first_found : (test : ℕ → Bool) (n most left : ℕ) → test n ≡ true → most ≡ suc left → first_that test (range_with_len n most) ≡ n
unfolding first_that
first_found test n most left passes is = rw is (ap (λ b. cond b n (first_that test (range_with_len (n + 1) left))) passes)

-- what the code computes
bit : (bytes : ℕ) → 1 ≤ bytes → bytes ≤ 16 → 1 * 2 ^ (8 * bytes - 1) % 340282366920938463463374607431768211456 ≡ 2 ^ (8 * bytes - 1)
bit bytes low high =
    let below : 2 ^ (8 * bytes - 1) < 2 ^ 128 = pow_below (8 * bytes - 1) 128 (omega arith) in
    let one : 1 * 2 ^ (8 * bytes - 1) ≡ 2 ^ (8 * bytes - 1) = omega arith in
    rw one (mod-eq_of_lt below)

pub room_found : (precision bytes ten : ℕ) → 1 ≤ bytes → bytes ≤ 16 → ten ≡ 10 ^ precision → ten ≤ 1 * 2 ^ (8 * bytes - 1) % 340282366920938463463374607431768211456 → has_room precision bytes ≡ true
room_found precision bytes ten low high is fits = le-leb (10 ^ precision) (2 ^ (8 * bytes - 1)) (let e = bit bytes low high in omega (arith, e, is))

pub no_room : (precision bytes ten : ℕ) → 1 ≤ bytes → bytes ≤ 16 → ten ≡ 10 ^ precision → 1 * 2 ^ (8 * bytes - 1) % 340282366920938463463374607431768211456 < ten → has_room precision bytes ≡ false
no_room precision bytes ten low high is fits = lt-leb (10 ^ precision) (2 ^ (8 * bytes - 1)) (let e = bit bytes low high in omega (arith, e, is))

-- 16 bytes have room for each decimal
pub last_room : (precision : ℕ) → precision ≤ 38 → has_room precision 16 ≡ true
last_room precision few =
    let most : 10 ^ precision ≤ 10 ^ 38 = pow-le-pow_right {n = 10} (omega arith) {i = precision} {j = 38} few in
    le-leb (10 ^ precision) (2 ^ 127) (omega arith)
