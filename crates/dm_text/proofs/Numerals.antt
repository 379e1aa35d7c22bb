-- Numbers that digits write, and their bounds.
use Rattle.std.proofs.Common.{◌≡◌, ℕ, ◌^◌, ◌<◌, ◌≤◌, List, length, Bool, true, false, cond, ◌&&◌, Option, Some, None, Result, Ok, Err, refl, arith, inl, inr}
use Rattle.std.specs.Option.{option_and_then}
use Rattle.std.specs.Result.{result_ok, OkIff}
use Rattle.std.specs.Str.{all_ascii_digits}
use Rattle.std.specs.Str.Parse.{digits_value, ParsesUnsigned}
use Rattle.std.proofs.lemmas.Bool.{and_parts, lt-ltb, le-ltb, cases_lt}
use Rattle.std.proofs.lemmas.Str.Parse.{IsNumeralModel, numerals_by_value, tells_all_ascii_digits, parse_digits, digits_value_short}
use Rattle.std.proofs.lemmas.Bool.Decides.{nat_tests}
use Rattle.std.proofs.Math.Dec.{ltb}
use Rattle.std.specs.Str.{IsUtf8}
use Rattle.std.proofs.lemmas.Str.{IsUtf8-from_ascii}
use Rattle.std.proofs.lemmas.Fmt.{IsAscii-from_digits}
use Rattle.dm_text.specs.Numbers.{numeral, numeral_below, below}

pub own : IsNumeralModel (λ ds. all_ascii_digits ds ≡ true) (digits_value 10)
own = numerals_by_value _ tells_all_ascii_digits

ok_of : {E : Type 0} (text : List ℕ) (r : Result ℕ E) → all_ascii_digits text ≡ true → OkIff r ((0 < length text) × (digits_value 10 text < 2 ^ 128)) (digits_value 10 text) → result_ok r ≡ numeral_below (2 ^ 128) text
ok_of text (Ok x) all h = rw (h.1, all, lt-ltb 0 (length text) h.0.0, lt-ltb (digits_value 10 text) (2 ^ 128) h.0.1) refl
ok_of text (Err e) all never =
    elim (cases_lt 0 (length text)) as (λ _. None ≡ numeral_below (2 ^ 128) text) [
      | inl some ↦ elim (cases_lt (digits_value 10 text) (2 ^ 128)) as (λ _. None ≡ numeral_below (2 ^ 128) text) [
        | inl small ↦ absurd (never (some, small))
        | inr big ↦ rw (all, lt-ltb 0 (length text) some, le-ltb (digits_value 10 text) (2 ^ 128) big) refl
      ]
      | inr none ↦ rw (le-ltb 0 (length text) none) refl
    ]

-- what `parse` reads of digits
pub parsed : {E : Type 0} (text : List ℕ) (r : Result ℕ E) → all_ascii_digits text ≡ true → ParsesUnsigned 128 10 text r → result_ok r ≡ numeral_below (2 ^ 128) text
parsed text r all h = ok_of text r all (parse_digits own 128 text r h all)

kept_below : (b : Bool) (v bound : ℕ) → (b ≡ true → v < bound) → option_and_then (below bound) (cond b (Some v) None) ≡ cond b (Some v) None
kept_below true v bound h = rw (lt-ltb v bound (h refl)) refl
kept_below false v bound h = refl

-- a few digits write a number that isn't large
pub short : (text : List ℕ) (places : ℕ) → length text ≤ places → numeral_below (10 ^ places) text ≡ numeral text
short text places few = kept_below (ltb 0 (length text) && all_ascii_digits text) (digits_value 10 text) (10 ^ places) (λ is. digits_value_short own text places (and_parts (ltb 0 (length text)) (all_ascii_digits text) is).1 few)

some_below : (o : Option ℕ) (bound n : ℕ) → option_and_then (below bound) o ≡ o → o ≡ Some n → n < bound
some_below o bound n kept is =
    let at : below bound n ≡ Some n = rw is at kept in
    elim (cases_lt n bound) as (λ _. n < bound) [
      | inl small ↦ small
      | inr large ↦ absurd (grind (arith, nat_tests))
    ]

pub numeral_bound : (text : List ℕ) (places n : ℕ) → length text ≤ places → numeral text ≡ Some n → n < 10 ^ places
numeral_bound text places n few is = some_below (numeral text) (10 ^ places) n (short text places few) is

pub below_larger : (o : Option ℕ) (small large : ℕ) → small ≤ large → option_and_then (below small) o ≡ o → option_and_then (below large) o ≡ o
below_larger None small large more kept = refl
below_larger (Some n) small large more kept =
    let fits : n < small = some_below (Some n) small n kept refl in
    rw (lt-ltb n large (omega arith)) refl

pub few : (text : List ℕ) → length text ≤ 38 → numeral_below (2 ^ 128) text ≡ numeral text
few text h = below_larger (numeral text) (10 ^ 38) (2 ^ 128) (omega arith) (short text 38 h)

-- digits are UTF-8
pub digits_utf8 : (text : List ℕ) → all_ascii_digits text ≡ true → IsUtf8 text
digits_utf8 text all = IsUtf8-from_ascii text (IsAscii-from_digits text (own.to text all))
