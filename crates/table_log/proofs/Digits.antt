-- Decimal digits with leading zeros.
use Rattle.std.proofs.Common.{◌≡◌, ℕ, zero, suc, ◌+◌, ◌*◌, ◌/◌, ◌%◌, ◌^◌, ◌<◌, ◌≤◌, ◌-◌, List, [], ◌∷◌, ◌++◌, length, replicate, take, get_or, refl, ap, sym, ◌∙◌, true, false, ◌&&◌, arith, length-append, length-take, add-one}
use Rattle.std.specs.Fmt.{decimal, padded_integral, format_spec, char_count}
use Rattle.std.specs.Char.{digit_value, is_ascii_digit}
use Rattle.std.specs.Str.{all_ascii_digits}
use Rattle.std.specs.Str.Parse.{digits_value}
use Rattle.std.proofs.lemmas.Bool.{and_parts}
use Rattle.std.proofs.lemmas.Bool.Decides.{nat_tests}
use Rattle.std.proofs.lemmas.Fmt.{digits_decimal, digits_value-decimal, length-decimal-le}
use Rattle.std.proofs.lemmas.Str.Parse.{IsNumeralModel, numerals_by_value, tells_all_ascii_digits}
use Rattle.std.proofs.lemmas.Int.Digits.{digits_value_push}
use Rattle.std.proofs.lemmas.List.{append-nil, take_more, length-replicate}
use Rattle.std.proofs.Math.Seq.{take-length}
use native.Mathlib.Numerals.{unary_clauses}
use Rattle.table_log.specs.Log.{digits_of_width}

digits-append : (xs ys : List ℕ) → all_ascii_digits (xs ++ ys) ≡ (all_ascii_digits xs && all_ascii_digits ys)
digits-append [] ys = refl
digits-append (x ∷ xs) ys = grind (arith, digits-append xs ys)

pub width-length : (width n : ℕ) → length (digits_of_width width n) ≡ width
unfolding digits_of_width
width-length zero n = refl
width-length (suc width) n = omega (arith, length-append (digits_of_width width (n / 10)) ((48 + n % 10) ∷ []), width-length width (n / 10))

digit_back : (d : ℕ) → d < 10 → (is_ascii_digit (48 + d) ≡ true) × (digit_value (48 + d) ≡ d)
digit_back d small = grind (arith, nat_tests)

digit_read : (c : ℕ) → is_ascii_digit c ≡ true → (digit_value c < 10) × (48 + digit_value c ≡ c)
digit_read c is = grind (arith, nat_tests)

pub width-digits : (width n : ℕ) → all_ascii_digits (digits_of_width width n) ≡ true
unfolding digits_of_width
width-digits zero n = refl
width-digits (suc width) n =
    let last = digit_back (n % 10) (omega arith) in
    rw (digits-append, width-digits width (n / 10), last.0) refl

ten_times : (n p : ℕ) → n < 10 * p → n / 10 < p
ten_times n p small = omega arith

ten_more : (width : ℕ) → 10 ^ suc width ≡ 10 * 10 ^ width
ten_more width = simp unary_clauses (omega arith)

-- digits of enough width spell the number
pub width-value : (width n : ℕ) → n < 10 ^ width → digits_value 10 (digits_of_width width n) ≡ n
unfolding digits_of_width
width-value zero n small = omega arith
width-value (suc width) n small =
    let last = digit_back (n % 10) (omega arith) in
    let front : n / 10 < 10 ^ width = ten_times n (10 ^ width) (omega (arith, ten_more width)) in
    rw (digits_value_push, width-value width (n / 10) front, last.1) (omega arith)

snoc_digits : (width v c : ℕ) (xs : List ℕ) → digits_of_width width v ≡ xs → is_ascii_digit c ≡ true → digits_of_width (suc width) (v * 10 + digit_value c) ≡ xs ++ c ∷ []
unfolding digits_of_width
snoc_digits width v c xs front is =
    let last = digit_read c is in
    let quotient : (v * 10 + digit_value c) / 10 ≡ v = omega (arith, last.0) in
    let remainder : 48 + (v * 10 + digit_value c) % 10 ≡ c = omega (arith, last.0, last.1) in
    rw (quotient, remainder, front) refl

-- digits are those of the number that they spell
pub width-unique : (width : ℕ) (ds : List ℕ) → length ds ≡ width → all_ascii_digits ds ≡ true → digits_of_width width (digits_value 10 ds) ≡ ds
unfolding digits_of_width
width-unique zero [] long digits = refl
width-unique zero (d ∷ ds) long digits = absurd (omega arith)
width-unique (suc width) ds long digits =
    let split : take width ds ++ get_or ds width 0 ∷ [] ≡ ds = sym (take_more ds width 0 (omega arith)) ∙ (rw (add-one width, ← long) (take-length ds)) in
    let parts = and_parts _ _ (sym (digits-append (take width ds) (get_or ds width 0 ∷ [])) ∙ rw split digits) in
    let value : digits_value 10 ds ≡ digits_value 10 (take width ds) * 10 + digit_value (get_or ds width 0) = ap (digits_value 10) (sym split) ∙ digits_value_push 10 (take width ds) (get_or ds width 0) in
    let front = width-unique width (take width ds) (omega (arith, length-take width ds)) parts.0 in
    rw value (snoc_digits width (digits_value 10 (take width ds)) (get_or ds width 0) (take width ds) front (and_parts _ _ parts.1).0 ∙ split)

-- zeros in front don't change the number

zeros-digits : (k : ℕ) (ds : List ℕ) → all_ascii_digits ds ≡ true → all_ascii_digits (replicate k 48 ++ ds) ≡ true
zeros-digits zero ds digits = digits
zeros-digits (suc k) ds digits = zeros-digits k ds digits

zeros-value : (k : ℕ) (ds : List ℕ) → digits_value 10 (replicate k 48 ++ ds) ≡ digits_value 10 ds
zeros-value zero ds = refl
zeros-value (suc k) ds = zeros-value k ds

pub own : IsNumeralModel (λ ds. all_ascii_digits ds ≡ true) (digits_value 10)
own = numerals_by_value _ tells_all_ascii_digits

zeros-width : (n : ℕ) → n < 2 ^ 64 → replicate (20 - length (decimal n)) 48 ++ decimal n ≡ digits_of_width 20 n
zeros-width n small =
    let digits : all_ascii_digits (decimal n) ≡ true = digits_decimal own n small in
    let value : digits_value 10 (decimal n) ≡ n = digits_value-decimal own n small in
    let short : length (decimal n) ≤ 20 = length-decimal-le 20 n (omega arith) (omega arith) small in
    let long : length (replicate (20 - length (decimal n)) 48 ++ decimal n) ≡ 20 = omega (arith, length-append (replicate (20 - length (decimal n)) 48) (decimal n), length-replicate {A = ℕ} (20 - length (decimal n)) 48) in
    sym (width-unique 20 (replicate (20 - length (decimal n)) 48 ++ decimal n) long (zeros-digits (20 - length (decimal n)) (decimal n) digits))
    ∙ ap (digits_of_width 20) (zeros-value (20 - length (decimal n)) (decimal n) ∙ value)

-- what `{:020}` writes
pub padded-width : (n : ℕ) → n < 2 ^ 64 → padded_integral (format_spec 32 0 4 20 (2 ^ 64 - 1)) false [] (decimal n) ≡ digits_of_width 20 n
unfolding padded_integral char_count
padded-width n small =
    let padding : 20 - length (decimal n) - 0 - 0 ≡ 20 - length (decimal n) = omega arith in
    rw (padding, append-nil) (zeros-width n small)
