-- The loop over the bytes of a varint.
use Rattle.std.proofs.Common.{◌≡◌, ℕ, suc, ◌+◌, ◌-◌, ◌*◌, ◌^◌, ◌<◌, ◌≤◌, ◌%◌, ltb, Bool, true, false, List, Option, Some, None, Ok, Err, refl, sym, ap, ◌∙◌, arith, pow-add}
use Rattle.std.proofs.Math.Pow.{pow_mono}
use Rattle.std.proofs.Math.Nat.{mod-eq_of_lt}
use Rattle.std.proofs.lemmas.Bool.{ltb-true, ltb-false}
use Rattle.thrift_compact.specs.Values.{varint_byte}
use Rattle.thrift_compact.specs.Reading.{Outcome, ◌>>=◌, made, one, varint_of, varint_on}
use Rattle.thrift_compact.specs.Steps.{StepsOnlyTo}
use Rattle.thrift_compact.specs.declared.fault.Fault.{Fault}
use Rattle.thrift_compact.specs.declared.fault.Fault.TheVariants.{Memory, Refused}
use Rattle.thrift_compact.specs.declared.header.VarintByte.{VarintByte}
use Rattle.thrift_compact.proofs.Steps.{made-ext, made-made, one_ok}

abbrev byte_of : ℕ → Bool → VarintByte
byte_of low more = record { low = low; more = more }

-- what a byte says of itself
pub record IsByte (width : ℕ) (byte : VarintByte) : Type 0 where
  pub low : byte.low < 128
  pub below : byte.low < 2 ^ width

byte_is : (width b : ℕ) (more : Bool) (byte : VarintByte) → ltb (b % 128) (2 ^ width) ≡ true → ◌≡◌ {A = Option VarintByte} (Some (byte_of (b % 128) more)) (Some byte) → IsByte width byte
byte_is width b more byte below is =
    let same : byte_of (b % 128) more ≡ byte = cc in
    let low : b % 128 ≡ byte.low = ap (λ (x : VarintByte). x.low) same in
    record { low = omega (arith, low); below = omega (arith, low, ltb-true (b % 128) (2 ^ width) below) }

byte_by : (width : ℕ) (m : Bool) (b : ℕ) (byte : VarintByte) (below last : Bool) → ltb (b % 128) (2 ^ width) ≡ below → ltb b 128 ≡ last → varint_byte width m b ≡ Some byte → IsByte width byte
unfolding varint_byte
byte_by width m b byte false last is_below is_last is = absurd (let e : ◌≡◌ {A = Option VarintByte} None (Some byte) = rw is_below at is in cc)
byte_by width m b byte true true is_below is_last is = byte_is width b false byte is_below (rw (is_below, is_last) at is)
byte_by width true b byte true false is_below is_last is = byte_is width b true byte is_below (rw (is_below, is_last) at is)
byte_by width false b byte true false is_below is_last is = absurd (let e : ◌≡◌ {A = Option VarintByte} None (Some byte) = rw (is_below, is_last) at is in cc)

pub byte_bounds : (width : ℕ) (m : Bool) (bytes : List ℕ) (byte : VarintByte) (rest : List ℕ) → one (varint_byte width m) bytes ≡ Ok (byte, rest) → IsByte width byte
byte_bounds width m bytes byte rest is = let found = one_ok (varint_byte width m) bytes byte rest is in byte_by width m found.0 byte _ _ refl refl found.2

pub step : (index left : ℕ) (bytes : List ℕ) → index < 10 → varint_of (10 - index) left bytes ≡ one (varint_byte left (ltb (index + 1) 10)) bytes >>= λ byte. varint_on byte.0 (varint_of (10 - (index + 1)) (left - 7)) byte.1
unfolding varint_of
step index left bytes below =
    let room : 10 - index ≡ suc (10 - (index + 1)) = omega arith in
    let same : ltb 0 (10 - (index + 1)) ≡ ltb (index + 1) 10 = grind arith in
    ap (λ r. varint_of r left bytes) room ∙ ap (λ m. one (varint_byte left m) bytes >>= λ byte. varint_on byte.0 (varint_of (10 - (index + 1)) (left - 7)) byte.1) same

-- seven bits and those above them
pub low_and_high : (left low high : ℕ) → low < 128 → low < 2 ^ left → high < 2 ^ (left - 7) → low + 128 * high < 2 ^ left
low_and_high left low high small below above = by_order (ltb left 7) refl
  where
    by_order : (narrow : Bool) → ltb left 7 ≡ narrow → low + 128 * high < 2 ^ left
    by_order true is =
        let narrow : left - 7 ≡ 0 = omega (arith, ltb-true left 7 is) in
        let none : high < 1 = rw narrow at above in
        omega (arith, none)
    by_order false is =
        let wide : 7 ≤ left = ltb-false left 7 is in
        let split : 2 ^ left ≡ 128 * 2 ^ (left - 7) = ap (λ n. 2 ^ n) (omega arith) ∙ pow-add 2 7 (left - 7) in
        omega (arith, split)

module _ (total : Outcome ℕ) (number index left width : ℕ) (bytes : List ℕ) (below : index < 10) (within : width ≤ 64)
    (so_far : total ≡ made (λ high. number + 2 ^ (7 * index) * high) (varint_of (10 - index) left bytes))
    (fits : (high : ℕ) → high < 2 ^ left → number + 2 ^ (7 * index) * high < 2 ^ width) where
  abbrev onward : Outcome ℕ
  onward = made (λ high. number + 2 ^ (7 * index) * high) (one (varint_byte left (ltb (index + 1) 10)) bytes >>= λ byte. varint_on byte.0 (varint_of (10 - (index + 1)) (left - 7)) byte.1)

  opened : total ≡ onward
  opened = so_far ∙ ap (made (λ high. number + 2 ^ (7 * index) * high)) (step index left bytes below)

  pub refused : (rest : List ℕ) → one (varint_byte left (ltb (index + 1) 10)) bytes ≡ Err rest → total ≡ Err rest
  refused rest is = opened ∙ rw is refl

  pub fails : (rest : List ℕ) (e : Fault) → StepsOnlyTo (one (varint_byte left (ltb (index + 1) 10)) bytes) (Err e) rest → StepsOnlyTo total (Err e) rest
  fails rest Refused is = refused rest is
  fails rest Memory is = absurd is

  module _ (byte : VarintByte) (rest : List ℕ) (is : one (varint_byte left (ltb (index + 1) 10)) bytes ≡ Ok (byte, rest)) where
    low : number + 2 ^ (7 * index) * byte.low < 2 ^ width
    low = fits byte.low (byte_bounds left (ltb (index + 1) 10) bytes byte rest is).below

    -- the bits stand where they belong, and none is lost
    pub kept : number + byte.low * 2 ^ (7 * index) % 18446744073709551616 ≡ number + 2 ^ (7 * index) * byte.low
    kept =
        let room : 2 ^ width ≤ 2 ^ 64 = pow_mono within in
        let small : byte.low * 2 ^ (7 * index) < 18446744073709551616 = omega (arith, low, room) in
        ap (λ n. number + n) (mod-eq_of_lt small) ∙ omega arith

    pub sum_below : number + byte.low * 2 ^ (7 * index) % 18446744073709551616 < 2 ^ width
    sum_below = omega (arith, kept, low)

    pub sum_fits : number + byte.low * 2 ^ (7 * index) % 18446744073709551616 < 2 ^ 64
    sum_fits = let room : 2 ^ width ≤ 2 ^ 64 = pow_mono within in omega (arith, sum_below, room)

    pub last : byte.more ≡ false → total ≡ Ok (number + byte.low * 2 ^ (7 * index) % 18446744073709551616, rest)
    last ends = opened ∙ rw (is, ends) (ap (λ n. Ok (n, rest)) (sym kept))

    pub goes_on : byte.more ≡ true → total ≡ made (λ high. (number + byte.low * 2 ^ (7 * index) % 18446744073709551616) + 2 ^ (7 * (index + 1)) * high) (varint_of (10 - (index + 1)) (left - 7) rest)
    goes_on more =
        opened ∙ rw (is, more) (made-made (λ high. number + 2 ^ (7 * index) * high) (λ high. byte.low + 128 * high) (varint_of (10 - (index + 1)) (left - 7) rest)
        ∙ made-ext _ _ (λ high. sum high) (varint_of (10 - (index + 1)) (left - 7) rest))
      where
        sum : (high : ℕ) → number + 2 ^ (7 * index) * (byte.low + 128 * high) ≡ (number + byte.low * 2 ^ (7 * index) % 18446744073709551616) + 2 ^ (7 * (index + 1)) * high
        sum high =
            let power : 2 ^ (7 * (index + 1)) ≡ 2 ^ (7 * index) * 128 = ap (λ n. 2 ^ n) (omega arith) ∙ pow-add 2 (7 * index) 7 in
            rw (kept, power) (omega arith)

    pub still_fits : (high : ℕ) → high < 2 ^ (left - 7) → (number + byte.low * 2 ^ (7 * index) % 18446744073709551616) + 2 ^ (7 * (index + 1)) * high < 2 ^ width
    still_fits high above =
        let bounds = byte_bounds left (ltb (index + 1) 10) bytes byte rest is in
        let power : 2 ^ (7 * (index + 1)) ≡ 2 ^ (7 * index) * 128 = ap (λ n. 2 ^ n) (omega arith) ∙ pow-add 2 (7 * index) 7 in
        let all = fits (byte.low + 128 * high) (low_and_high left byte.low high bounds.low bounds.below above) in
        rw (kept, power) (omega (arith, all))
