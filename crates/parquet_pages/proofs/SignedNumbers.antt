-- A number in two's complement, byte by byte.
use Rattle.std.proofs.Common.{◌≡◌, ◌≤◌, ◌<◌, ℕ, suc, ◌+◌, ◌*◌, ◌^◌, ◌-◌, ℤ, pos, ◌-ℤ◌, unsigned_abs, cond, ltb, List, [], ◌∷◌, length, get_or, drop, slice_index, None, refl, sym, ap, ◌∙◌, ⊎_elim, arith}
use Rattle.std.proofs.lemmas.Bool.{cases_lt, cond_below, cond_above}
use Rattle.std.proofs.lemmas.Int.{ints}
use Rattle.std.proofs.lemmas.List.{at_drop_more, at_drop_all, get_or-drop}
use Rattle.std.proofs.lemmas.Nat.{pow-add}
use Rattle.std.proofs.Math.Nat.{mul-le-mul_right, pow-le-pow_right, pow-succ'}
use Rattle.byteorder.specs.Endian.{big_number}
use Rattle.byteorder.specs.Numbers.{big_from-cons, big_from-lt}
use Rattle.byteorder.proofs.Bytes.{pow256}
use Rattle.parquet_pages.specs.Numbers.{first_number, appended}
use Rattle.parquet_pages.specs.Types.{signed_number, decimal}

-- the number with all these bytes behind it
abbrev pub after : ℤ → List ℕ → ℤ
after number [] = number
after number (byte ∷ bytes) = after (appended number byte) bytes

far_more : (number : ℤ) (byte : ℕ) → byte < 256 → 10 ^ 38 ≤ unsigned_abs number → 10 ^ 38 ≤ unsigned_abs (appended number byte)
far_more number byte small far = omega (arith, ints)

-- a number of more than 38 digits stays one
pub far_after : (number : ℤ) (bytes : List ℕ) → ((k : ℕ) → slice_index bytes k < 256) → 10 ^ 38 ≤ unsigned_abs number → 10 ^ 38 ≤ unsigned_abs (after number bytes)
far_after number [] small far = far
far_after number (byte ∷ bytes) small far =
    far_after (appended number byte) bytes (λ k. small (suc k)) (far_more number byte (small 0) far)

appended-is : (high low byte : ℕ) → appended (pos high -ℤ pos low) byte ≡ pos (high * 256 + byte) -ℤ pos (low * 256)
appended-is high low byte = omega (arith, ints)

regrouped : (high low byte power rest more number : ℕ) → more ≡ 256 * power → number ≡ byte * power + rest → pos ((high * 256 + byte) * power + rest) -ℤ pos (low * 256 * power) ≡ pos (high * more + number) -ℤ pos (low * more)
regrouped high low byte power rest more number mores is =
    let highs : high * more ≡ high * (256 * power) = ap (λ (k : ℕ). high * k) mores in
    let lows : low * more ≡ low * (256 * power) = ap (λ (k : ℕ). low * k) mores in
    omega (arith, ints)

-- a difference with bytes behind it
after-is : (high low : ℕ) (bytes : List ℕ) → after (pos high -ℤ pos low) bytes ≡ pos (high * 256 ^ length bytes + big_number (length bytes) bytes) -ℤ pos (low * 256 ^ length bytes)
after-is high low [] = omega (arith, ints)
after-is high low (byte ∷ bytes) =
    let n = length bytes in
    let ih = after-is (high * 256 + byte) (low * 256) bytes in
    let front : big_number (suc n) (byte ∷ bytes) ≡ byte * 256 ^ n + big_number n bytes = ap (λ (r : ℕ). byte * 256 ^ n + r) (big_from-cons 0 n byte bytes) in
    let power : 256 ^ suc n ≡ 256 * 256 ^ n = pow-succ' 256 n in
    ap (λ (z : ℤ). after z bytes) (appended-is high low byte) ∙ ih ∙ regrouped high low byte (256 ^ n) (big_number n bytes) _ _ power front

-- the sign of a number is that of its first byte
signed_first : (first power rest half whole number : ℕ) → rest < power → half ≡ 128 * power → whole ≡ 256 * power → number ≡ first * power + rest → cond (ltb number half) (pos number) (pos number -ℤ pos whole) ≡ cond (ltb first 128) (pos number -ℤ pos (0 * power)) (pos number -ℤ pos (256 * power))
signed_first first power rest half whole number below halves wholes is =
    ⊎_elim
    (λ small.
    let room : (first + 1) * power ≤ 128 * power = mul-le-mul_right power (omega arith) in
    sym (cond_below number half _ _ (omega arith)) ∙ (omega (arith, ints) ∙ cond_below first 128 _ _ small))
    (λ large.
    let room : 128 * power ≤ first * power = mul-le-mul_right power large in
    sym (cond_above number half _ _ _ (omega arith) refl) ∙ cond_above first 128 _ _ _ large (omega (arith, ints)))
    (cases_lt first 128)

first_after : (first : ℕ) (rest : List ℕ) → after (first_number first) rest ≡ cond (ltb first 128) (pos (first * 256 ^ length rest + big_number (length rest) rest) -ℤ pos (0 * 256 ^ length rest)) (pos (first * 256 ^ length rest + big_number (length rest) rest) -ℤ pos (256 * 256 ^ length rest))
first_after first rest =
    ⊎_elim
    (λ small.
    let is : first_number first ≡ pos first -ℤ pos 0 = sym (cond_below first 128 _ _ small) ∙ omega (arith, ints) in
    ap (λ (z : ℤ). after z rest) is ∙ (after-is first 0 rest ∙ cond_below first 128 _ _ small))
    (λ large.
    let is : first_number first ≡ pos first -ℤ pos 256 = sym (cond_above first 128 _ _ _ large refl) in
    ap (λ (z : ℤ). after z rest) is ∙ cond_above first 128 _ _ _ large (after-is first 256 rest))
    (cases_lt first 128)

-- a number in two's complement is that of its first byte, with the others behind it
pub signed_number-is : (first : ℕ) (rest : List ℕ) → ((k : ℕ) → slice_index (first ∷ rest) k < 256) → signed_number (first ∷ rest) ≡ after (first_number first) rest
signed_number-is first rest small =
    let n = length rest in
    let below : big_number n rest < 256 ^ n = big_from-lt 0 n rest (λ k. small (suc k)) in
    let bits : 256 ^ n ≡ 2 ^ (8 * n) = pow256 n in
    let half : 2 ^ (8 * suc n - 1) ≡ 128 * 256 ^ n = ap (λ (k : ℕ). 2 ^ k) (omega arith) ∙ pow-add 2 (8 * n) 7 ∙ omega (arith, bits) in
    let whole : 2 ^ (8 * suc n) ≡ 256 * 256 ^ n = ap (λ (k : ℕ). 2 ^ k) (omega arith) ∙ pow-add 2 (8 * n) 8 ∙ omega (arith, bits) in
    let number : big_number (suc n) (first ∷ rest) ≡ first * 256 ^ n + big_number n rest = ap (λ (r : ℕ). first * 256 ^ n + r) (big_from-cons 0 n first rest) in
    signed_first first (256 ^ n) (big_number n rest) _ _ _ below half whole number
    ∙ ap (λ (x : ℕ). cond (ltb first 128) (pos x -ℤ pos (0 * 256 ^ n)) (pos x -ℤ pos (256 * 256 ^ n))) number
    ∙ sym (first_after first rest)

-- the bytes from a place on, and those from the next one on
pub after-drop : (number : ℤ) (bytes : List ℕ) (i : ℕ) → i < length bytes → after number (drop i bytes) ≡ after (appended number (get_or bytes i 0)) (drop (i + 1) bytes)
after-drop number bytes i within = at_drop_more (after number) bytes i 0 within

pub after_all : (number : ℤ) (bytes : List ℕ) (i : ℕ) → length bytes ≤ i → after number (drop i bytes) ≡ number
after_all number bytes i past = at_drop_all (after number) bytes i past

-- where one byte more is too much, the whole is
pub far_whole : (whole number : ℤ) (bytes : List ℕ) (i : ℕ) → ((k : ℕ) → slice_index bytes k < 256) → i < length bytes → whole ≡ after number (drop i bytes) → 10 ^ 38 ≤ unsigned_abs (appended number (get_or bytes i 0)) → 10 ^ 38 ≤ unsigned_abs whole
far_whole whole number bytes i small within is far =
    let left : (k : ℕ) → slice_index (drop (i + 1) bytes) k < 256 = λ k. rw (get_or-drop (i + 1) bytes k 0) (small (i + 1 + k)) in
    rw (is ∙ after-drop number bytes i within) (far_after _ (drop (i + 1) bytes) left far)

-- a number of more than 38 digits is no decimal
pub decimal_far : (precision scale : ℕ) (number : ℤ) → precision ≤ 38 → 10 ^ 38 ≤ unsigned_abs number → decimal precision scale number ≡ None
decimal_far precision scale number few far =
    let most : 10 ^ precision ≤ 10 ^ 38 = pow-le-pow_right (omega arith) few in
    sym (cond_above (unsigned_abs number) (10 ^ precision) _ None None (omega arith) refl)
