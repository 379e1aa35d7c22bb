-- What printed digits, signs and points are read as.
use Rattle.std.proofs.Common.{◌≡◌, ℕ, zero, suc, ◌+◌, ◌-◌, ◌*◌, ◌/◌, ◌%◌, ◌^◌, ◌<◌, ◌≤◌, List, [], ◌∷◌, ◌++◌, length, take, drop, get_or, true, false, not, Option, Some, None, ℤ, pos, negsuc, neg_ℤ, unsigned_abs, refl, sym, ap, ◌∙◌, arith, length-append}
use Rattle.std.specs.Prelude.{◌==◌, position}
use Rattle.std.specs.Option.{option_map}
use Rattle.std.specs.Fmt.{decimal, signed_decimal}
use Rattle.std.specs.Char.{digit_value, is_ascii_digit}
use Rattle.std.specs.List.{prefix_len}
use Rattle.std.specs.Str.{all_ascii_digits}
use Rattle.std.specs.Str.Parse.{digits_value, digits_value_after}
use Rattle.std.proofs.lemmas.Bool.{and_parts, lt-ltb, le-ltb, ne_eqb, le-leb}
use Rattle.std.proofs.lemmas.Bool.Decides.{nat_tests}
use Rattle.std.proofs.lemmas.Fmt.{decimal_is_IsNumeral_wide}
use Rattle.std.proofs.lemmas.Nat.{pow-add, div-add-mod', mod-mul-add, div_below, mod_below}
use Rattle.std.proofs.lemmas.List.{append-nil}
use Rattle.std.proofs.Math.Nat.{div-le_self}
use Rattle.std.specs.Int.{is_negative}
use native.Mathlib.Numerals.{unary_clauses}
use Rattle.dm_types.specs.Lanes.{is_within, kept_within}
use Rattle.dm_text.specs.Numbers.{numeral, signed, whole, front, fraction, fixed_point, decimal_number}
use Rattle.dm_text.specs.Printing.{places, point_text, decimal_text}
use Rattle.dm_text.proofs.Numerals.{own}
use Rattle.dm_text.proofs.Powers.{power_some, power_le}

digit_back : (d : ℕ) → d < 10 → (is_ascii_digit (48 + d) ≡ true) × (digit_value (48 + d) ≡ d)
digit_back d small = grind (arith, nat_tests)

ten_more : (k : ℕ) → 10 ^ suc k ≡ 10 * 10 ^ k
ten_more k = simp unary_clauses (omega arith)

-- the last digits, one by one
mod_more : (n m : ℕ) → 1 ≤ m → n / m % 10 * m + n % m ≡ n % (10 * m)
mod_more n m some =
    let whole : n / m * m + n % m ≡ n = div-add-mod' n m in
    let tens : n / m ≡ n / m / 10 * 10 + n / m % 10 = omega arith in
    let small : n % m < m = mod_below n m (omega arith) in
    let digit : n / m % 10 ≤ 9 = omega arith in
    let part : n / m % 10 * m ≤ 9 * m = grind arith in
    let product : n / m * m ≡ (n / m / 10 * 10 + n / m % 10) * m = ap (λ k. k * m) tens in
    let sum : n / m / 10 * (10 * m) + (n / m % 10 * m + n % m) ≡ n = omega (arith, whole, product) in
    sym (mod-mul-add (n / m / 10) (10 * m) (n / m % 10 * m + n % m) (omega (arith, part, small))) ∙ ap (λ k. k % (10 * m)) sum

pub places_value : (k n so_far : ℕ) → digits_value_after 10 so_far (places k n) ≡ so_far * 10 ^ k + n % 10 ^ k
unfolding places
places_value zero n so_far = omega arith
places_value (suc k) n so_far =
    let digit = (digit_back (n / 10 ^ k % 10) (omega arith)).1 in
    let sum : (so_far * 10 + n / 10 ^ k % 10) * 10 ^ k + n % 10 ^ k ≡ so_far * 10 ^ suc k + n % 10 ^ suc k = rw (ten_more k) (omega (arith, mod_more n (10 ^ k) (power_some k))) in
    places_value k n (so_far * 10 + digit_value (48 + n / 10 ^ k % 10)) ∙ ap (λ v. (so_far * 10 + v) * 10 ^ k + n % 10 ^ k) digit ∙ sum

pub places_digits : (k n : ℕ) → all_ascii_digits (places k n) ≡ true
unfolding places
places_digits zero n = refl
places_digits (suc k) n = rw ((digit_back (n / 10 ^ k % 10) (omega arith)).0, places_digits k n) refl

pub places_length : (k n : ℕ) → length (places k n) ≡ k
unfolding places
places_length zero n = refl
places_length (suc k) n = omega (arith, places_length k n)

numeral_of : (ds : List ℕ) (n : ℕ) → 0 < length ds → all_ascii_digits ds ≡ true → digits_value 10 ds ≡ n → numeral ds ≡ Some n
numeral_of ds n some digits is = rw (lt-ltb 0 (length ds) some, digits, is) refl

pub numeral_places : (k n : ℕ) → 0 < k → numeral (places k n) ≡ Some (n % 10 ^ k)
numeral_places k n some = numeral_of (places k n) (n % 10 ^ k) (omega (arith, places_length k n)) (places_digits k n) (places_value k n 0 ∙ omega arith)

-- the digits of a number

pub record Numeral (ds : List ℕ) (n : ℕ) : Type 0 where
  pub some : 0 < length ds
  pub digits : all_ascii_digits ds ≡ true
  pub read : numeral ds ≡ Some n

pub decimal_read : (n : ℕ) → n < 10 ^ 64 → Numeral (decimal n) n
decimal_read n small =
    let is = decimal_is_IsNumeral_wide n small in
    let digits = own.from (decimal n) is.0.1 in
    record { some = is.0.0; digits = digits; read = numeral_of (decimal n) n is.0.0 digits is.1 }

first_digit : (ds rest : List ℕ) → 0 < length ds → all_ascii_digits ds ≡ true → 48 ≤ get_or (ds ++ rest) 0 0
first_digit [] rest some digits = absurd (omega (arith, some))
first_digit (d ∷ ds) rest some digits = let is = (and_parts (is_ascii_digit d) (all_ascii_digits ds) digits).0 in grind (arith, nat_tests)

signed_plain : (size : List ℕ → Option ℕ) (text : List ℕ) → 48 ≤ get_or text 0 0 → signed size text ≡ option_map pos (size text)
signed_plain size text first = rw (ne_eqb (get_or text 0 0) 45 (λ e. omega (arith, e, first)), ne_eqb (get_or text 0 0) 43 (λ e. omega (arith, e, first))) refl

kept : (bits : ℕ) (z : ℤ) → is_within bits z ≡ true → kept_within bits z ≡ Some z
kept bits z is = rw is refl

plain_read : (n : ℕ) → n < 10 ^ 64 → signed numeral (decimal n) ≡ Some (pos n)
plain_read n small =
    let is = decimal_read n small in
    let first : 48 ≤ get_or (decimal n) 0 0 = rw (append-nil (decimal n)) at (first_digit (decimal n) [] is.some is.digits) in
    signed_plain numeral (decimal n) first ∙ ap (λ o. option_map pos o) is.read

pub whole_read : (bits : ℕ) (n : ℤ) → 2 ^ bits ≤ 2 ^ 63 → is_within bits n ≡ true → whole bits (signed_decimal n) ≡ Some n
whole_read bits (pos n) small is =
    let less : n < 2 ^ bits = grind (arith, nat_tests) in
    rw (plain_read n (omega arith)) (kept bits (pos n) is)
whole_read bits (negsuc n) small is =
    let less : n < 2 ^ bits = grind (arith, nat_tests) in
    rw ((decimal_read (suc n) (omega arith)).read) (kept bits (negsuc n) is)

-- a point behind digits

not_point : (c : ℕ) → is_ascii_digit c ≡ true → (c == 46) ≡ false
not_point c is = grind (arith, nat_tests)

digits_before : (xs ys : List ℕ) → all_ascii_digits xs ≡ true → prefix_len (λ c. not (c == 46)) (xs ++ 46 ∷ ys) ≡ length xs
digits_before [] ys digits = refl
digits_before (x ∷ xs) ys digits =
    let parts = and_parts (is_ascii_digit x) (all_ascii_digits xs) digits in
    rw (not_point x parts.0, digits_before xs ys parts.1) (omega arith)

digits_alone : (xs : List ℕ) → all_ascii_digits xs ≡ true → prefix_len (λ c. not (c == 46)) xs ≡ length xs
digits_alone [] digits = refl
digits_alone (x ∷ xs) digits =
    let parts = and_parts (is_ascii_digit x) (all_ascii_digits xs) digits in
    rw (not_point x parts.0, digits_alone xs parts.1) (omega arith)

point_found : (xs ys : List ℕ) → all_ascii_digits xs ≡ true → position (λ c. c == 46) (xs ++ 46 ∷ ys) ≡ Some (length xs)
point_found xs ys digits =
    rw (digits_before xs ys digits, lt-ltb (length xs) (length (xs ++ 46 ∷ ys)) (omega (arith, length-append xs (46 ∷ ys)))) refl

no_point : (xs : List ℕ) → all_ascii_digits xs ≡ true → position (λ c. c == 46) xs ≡ None
no_point xs digits = rw (digits_alone xs digits, le-ltb (length xs) (length xs) (omega arith)) refl

front_read : (room places n : ℕ) (text : List ℕ) → numeral text ≡ Some n → n < 10 ^ room → front room places text ≡ Some (n * 10 ^ places)
front_read room places n text is small = rw (is, lt-ltb n (10 ^ room) small) refl

pub fraction_read : (k n : ℕ) → 0 < k → fraction k (places k n) ≡ Some (n % 10 ^ k)
fraction_read k n some =
    let none : k - length (places k n) ≡ 0 = omega (arith, places_length k n) in
    rw (numeral_places k n some, le-leb (length (places k n)) k (omega (arith, places_length k n)), none) (ap Some (omega arith))

take_front : (xs ys : List ℕ) → take (length xs) (xs ++ ys) ≡ xs
take_front [] ys = refl
take_front (x ∷ xs) ys = ap (λ zs. x ∷ zs) (take_front xs ys)

drop_behind : (xs ys : List ℕ) (c : ℕ) → drop (length xs + 1) (xs ++ c ∷ ys) ≡ ys
drop_behind [] ys c = refl
drop_behind (x ∷ xs) ys c =
    let more : length (x ∷ xs) + 1 ≡ suc (length xs + 1) = omega arith in
    rw more (drop_behind xs ys c)

fixed_read : (room s a : ℕ) → a < 10 ^ (room + s) → room + s ≤ 38 → fixed_point room s (decimal (a / 10 ^ s) ++ point_text s a) ≡ Some a
unfolding fixed_point
fixed_read room zero a small few =
    let whole : a / 10 ^ 0 ≡ a = omega arith in
    let same : room + 0 ≡ room = omega arith in
    let less : a < 10 ^ room = rw same at small in
    let is = decimal_read a (omega (arith, small, power_le (room + 0) 38 few)) in
    rw (whole, append-nil (decimal a), no_point (decimal a) is.digits, front_read room 0 a (decimal a) is.read less) (ap Some (omega arith))
fixed_read room (suc s) a small few =
    let k = suc s in
    let product : a < 10 ^ room * 10 ^ k = rw (← pow-add 10 room k) small in
    let less : a / 10 ^ k < 10 ^ room = div_below a (10 ^ k) (10 ^ room) (omega (arith, power_some k)) product in
    let is = decimal_read (a / 10 ^ k) (omega (arith, less, power_le room 38 (omega (arith, few)))) in
    let some : (suc s == 0) ≡ false = ne_eqb (suc s) 0 (λ e. omega (arith, e)) in
    rw (
      some,
      point_found (decimal (a / 10 ^ k)) (places k a) is.digits,
      take_front (decimal (a / 10 ^ k)) (46 ∷ places k a),
      drop_behind (decimal (a / 10 ^ k)) (places k a) 46,
      front_read room k (a / 10 ^ k) (decimal (a / 10 ^ k)) is.read less,
      fraction_read k a (omega arith),
    )
    (ap Some (div-add-mod' a (10 ^ k)))

first_of_body : (s a : ℕ) → a < 10 ^ 38 → 48 ≤ get_or (decimal (a / 10 ^ s) ++ point_text s a) 0 0
first_of_body s a small =
    let less : a / 10 ^ s ≤ a = div-le_self a (10 ^ s) in
    let is = decimal_read (a / 10 ^ s) (omega (arith, small, less)) in
    first_digit (decimal (a / 10 ^ s)) (point_text s a) is.some is.digits

pub decimal_back : (precision scale : ℕ) (n : ℤ) → scale ≤ precision → precision ≤ 38 → unsigned_abs n < 10 ^ precision → decimal_number precision scale (decimal_text n scale) ≡ Some n
unfolding decimal_text
decimal_back precision scale (pos a) less few small =
    let whole : precision - scale + scale ≡ precision = omega arith in
    let plain : is_negative (pos a) ≡ false = le-ltb a 0 (omega arith) in
    rw plain (signed_plain (fixed_point (precision - scale) scale) (decimal (a / 10 ^ scale) ++ point_text scale a) (first_of_body scale a (omega (arith, small, power_le precision 38 few)))
    ∙ ap (λ o. option_map pos o) (fixed_read (precision - scale) scale a (rw whole small) (omega (arith, whole, few))))
decimal_back precision scale (negsuc a) less few small =
    let whole : precision - scale + scale ≡ precision = omega arith in
    ap (λ o. option_map (λ n. neg_ℤ (pos n)) o) (fixed_read (precision - scale) scale (suc a) (rw whole small) (omega (arith, whole, few)))
