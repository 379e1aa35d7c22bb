-- Written numbers are spelled so.
use Rattle.std.proofs.Common.{◌≡◌, ℕ, zero, suc, ◌+◌, ◌-◌, ◌*◌, ◌/◌, ◌%◌, ◌^◌, ◌<◌, ◌≤◌, ltb, Bool, true, false, List, [], ◌∷◌, length, refl, sym, ap, ◌∙◌, arith, ℤ, pos, pow-add}
use Rattle.std.specs.Prelude.{negsuc, FitsSigned}
use Rattle.std.specs.Int.{cast_signed, cast_unsigned, w8, w16, w32, w64}
use Rattle.std.proofs.Math.Pow.{pow_mono}
use Rattle.std.proofs.lemmas.Bool.{ltb-true, ltb-false, le-ltb}
use Rattle.std.proofs.lemmas.Int.{to_z_pos}
use Rattle.thrift_compact.specs.Grammar.{IsUleb, IsVarint, IsSignedByte, zigzag}
use Rattle.thrift_compact.specs.Written as w
use Rattle.thrift_compact.proofs.Appending.{varint_last, varint_more}

onto : (b : ℕ) (bytes : List ℕ) (number high : ℕ) → 128 ≤ b → number ≡ b % 128 + 128 * high → IsUleb bytes high → IsUleb (b ∷ bytes) number
onto b [] number high large is uleb = absurd uleb
onto b (c ∷ cs) number high large is uleb = (large, (high, is, uleb))

uleb_by : (bound number : ℕ) → number ≤ bound → IsUleb (w.varint number) number
uleb_by zero number within =
    let none : number ≡ 0 = omega arith in
    rw (varint_last number (omega arith)) (omega arith, refl)
uleb_by (suc bound) number within = by_test (ltb number 128) refl (λ large. uleb_by bound (number / 128) (omega arith))
  where
    by_test : (test : Bool) → ltb number 128 ≡ test → (128 ≤ number → IsUleb (w.varint (number / 128)) (number / 128)) → IsUleb (w.varint number) number
    by_test true e behind = let small : number < 128 = ltb-true number 128 e in rw (varint_last number small) (small, refl)
    by_test false e behind =
        let large : 128 ≤ number = ltb-false number 128 e in
        rw (varint_more number large) (onto (number % 128 + 128) (w.varint (number / 128)) number (number / 128) (omega arith) (omega arith) (behind large))

short_by : (count number : ℕ) → 0 < count → number < 2 ^ (7 * count) → length (w.varint number) ≤ count
short_by zero number some below = absurd (omega arith)
short_by (suc count) number some below = by_test (ltb number 128) refl (ltb 0 count) refl (λ more under. short_by count (number / 128) more under)
  where
    by_test : (test : Bool) → ltb number 128 ≡ test → (more : Bool) → ltb 0 count ≡ more → (0 < count → number / 128 < 2 ^ (7 * count) → length (w.varint (number / 128)) ≤ count) → length (w.varint number) ≤ suc count
    by_test true e more f behind = rw (varint_last number (ltb-true number 128 e)) (omega arith)
    by_test false e false f behind =
        let none : count ≡ 0 = omega (arith, ltb-false 0 count f) in
        let small : number < 2 ^ 7 = rw none at below in
        absurd (omega (arith, small, ltb-false number 128 e))
    by_test false e true f behind =
        let power : 2 ^ (7 * suc count) ≡ 128 * 2 ^ (7 * count) = ap (λ n. 2 ^ n) (omega arith) ∙ pow-add 2 7 (7 * count) in
        let under : number / 128 < 2 ^ (7 * count) = omega (arith, power) in
        rw (varint_more number (ltb-false number 128 e)) (omega (arith, behind (ltb-true 0 count f) under))

pub varint_is : (width number : ℕ) → width ≤ 64 → number < 2 ^ width → IsVarint width (w.varint number) number
varint_is width number within below =
    let wide : width ≤ 70 = omega arith in
    let room : 2 ^ width ≤ 2 ^ 70 = pow_mono wide in
    record { uleb = uleb_by number number (omega arith); short = short_by 10 number (omega arith) (omega (arith, room)); fits = below }

pub varint_some : (number : ℕ) → 0 < length (w.varint number)
varint_some number = by_test (ltb number 128) refl
  where
    by_test : (test : Bool) → ltb number 128 ≡ test → 0 < length (w.varint number)
    by_test true e = rw (varint_last number (ltb-true number 128 e)) (omega arith)
    by_test false e = rw (varint_more number (ltb-false number 128 e)) (omega arith)

-- ---- whole numbers

pub fits_16 : (z : ℤ) → FitsSigned w16 z → zigzag z < 2 ^ 16
fits_16 (pos n) f = omega (arith, f.sfits)
fits_16 (negsuc n) f = omega (arith, f.sfits)

pub fits_32 : (z : ℤ) → FitsSigned w32 z → zigzag z < 2 ^ 32
fits_32 (pos n) f = omega (arith, f.sfits)
fits_32 (negsuc n) f = omega (arith, f.sfits)

pub fits_64 : (z : ℤ) → FitsSigned w64 z → zigzag z < 2 ^ 64
fits_64 (pos n) f = omega (arith, f.sfits)
fits_64 (negsuc n) f = omega (arith, f.sfits)

byte_is : (z : ℤ) → FitsSigned w8 z → z ≡ cast_signed w8 (cast_unsigned w64 z % 256)
byte_is (pos n) f =
    let small : n < 128 = omega (arith, f.sfits) in
    let low : n % 256 ≡ n = omega (arith, small) in
    sym (ap (cast_signed w8) low ∙ to_z_pos w8 n small)
byte_is (negsuc n) f =
    let small : n < 128 = omega (arith, f.sfits) in
    let low : (18446744073709551616 - suc n) % 256 ≡ 255 - n = omega (arith, small) in
    let test : ltb (255 - n) 128 ≡ false = le-ltb (255 - n) 128 (omega (arith, small)) in
    let back : 256 - suc (255 - n) ≡ n = omega (arith, small) in
    sym (ap (cast_signed w8) low ∙ rw test (ap negsuc back))

pub signed_byte_is : (z : ℤ) → FitsSigned w8 z → IsSignedByte ((cast_unsigned w64 z % 256) ∷ []) z
signed_byte_is z f = (cast_unsigned w64 z % 256, refl, byte_is z f)
