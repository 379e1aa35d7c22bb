-- Numbers with a point.
use Rattle.std.proofs.Common.{◌≡◌, ℕ, ◌+◌, ◌-◌, ◌*◌, ◌^◌, ◌<◌, ◌≤◌, List, length, Option, Some, None, refl, sym, arith, inl, inr, subst}
use Rattle.std.specs.Option.{option_and_then, IfSome}
use Rattle.std.proofs.lemmas.Bool.{lt-ltb, le-ltb, cases_lt}
use Rattle.dm_text.specs.Numbers.{numeral, numeral_below, below, front}
use Rattle.dm_text.proofs.Powers.{power_some, power_le, scaled}
use Rattle.dm_text.proofs.Numerals.{numeral_bound}

none_of : (o : Option ℕ) (small : ℕ) → small ≤ 2 ^ 128 → None ≡ option_and_then (below (2 ^ 128)) o → None ≡ option_and_then (below small) o
none_of None small less is = refl
none_of (Some m) small less is =
    elim (cases_lt m (2 ^ 128)) as (λ _. None ≡ below small m) [
      | inl fits ↦ absurd (let never : None ≡ Some m = rw (lt-ltb m (2 ^ 128) fits) at is in cc)
      | inr large ↦ rw (le-ltb m small (omega arith)) refl
    ]

-- digits past 2^128 are too many for any front
pub front_none : (room places : ℕ) (text : List ℕ) → room ≤ 38 → None ≡ numeral_below (2 ^ 128) text → None ≡ front room places text
front_none room places text small is = rw (← none_of (numeral text) (10 ^ room) (omega (arith, power_le room 38 small)) is) refl

-- the digits of a fraction, in units of the last place
pub fraction_bound : (text : List ℕ) (places n : ℕ) → length text ≤ places → Some n ≡ numeral text → n * 10 ^ (places - length text) + 1 ≤ 10 ^ places
fraction_bound text places n few is =
    let small : n < 10 ^ length text = numeral_bound text (length text) n (omega arith) (sym is) in
    let whole : length text + (places - length text) ≡ places = omega arith in
    let less : n * 10 ^ (places - length text) + 10 ^ (places - length text) ≤ 10 ^ places = subst (λ k. n * 10 ^ (places - length text) + 10 ^ (places - length text) ≤ 10 ^ k) whole (scaled n (length text) (places - length text) small) in
    omega (arith, less, power_some (places - length text))

pub bounded : (r : Option ℕ) (room scale : ℕ) → room + scale ≤ 38 → IfSome r (λ n. n + 10 ^ scale ≤ 10 ^ (room + scale)) → IfSome r (λ n. n < 10 ^ 38)
bounded None room scale small h = tt
bounded (Some n) room scale small h = omega (arith, h, power_some scale, power_le (room + scale) 38 small)

pub sum_bound : (n f room scale : ℕ) → room + scale ≤ 38 → n + 10 ^ scale ≤ 10 ^ (room + scale) → f < 10 ^ scale → n + f < 10 ^ 38
sum_bound n f room scale small front behind = omega (arith, front, behind, power_le (room + scale) 38 small)
