-- What is printed of every value but a text has no byte that a field escapes.
use Rattle.std.proofs.Common.{◌≡◌, ◌≢◌, ℕ, suc, ◌/◌, ◌%◌, ◌^◌, ◌<◌, ◌≤◌, List, [], ◌∷◌, ◌++◌, Bool, true, false, ℤ, pos, negsuc, unsigned_abs, FitsSigned, refl, ◌∙◌, arith}
use Rattle.std.specs.Prelude.{◌==◌, if◌then◌else◌}
use Rattle.std.specs.Int.{is_negative, w8, w16, w32, w64}
use Rattle.std.specs.Char.{is_ascii_digit}
use Rattle.std.specs.Fmt.{decimal, digit_glyph, signed_decimal, sign_text}
use Rattle.std.specs.List.{flat_map}
use Rattle.std.specs.Str.{all_ascii_digits}
use Rattle.std.proofs.lemmas.Bool.{and_parts, ne_eqb}
use Rattle.std.proofs.lemmas.Bool.Decides.{nat_tests}
use Rattle.std.proofs.lemmas.Grind.{flat_map-append}
use Rattle.std.proofs.Math.Nat.{div-le_self}
use Rattle.dm_types.specs.Ranges.{IsInRange, IsNullOrInRange}
use Rattle.dm_types.specs.declared.value.DataType.{DataType}
use Rattle.dm_types.specs.declared.value.DataType.TheVariants as kind
use Rattle.dm_types.specs.declared.value.Value.{Value}
use Rattle.dm_types.specs.declared.value.Value.TheVariants as value
use Rattle.dm_text.specs.Printing.{places, truth_text, point_text, decimal_text, hex_pair, date_text, clock_text, printed, escaped, field, value_field}
use Rattle.dm_text.proofs.Powers.{power_some, power_le}
use Rattle.dm_text.proofs.Spelled.{places_digits, decimal_read}

-- nothing in it is escaped
record IsPlain (text : List ℕ) : Type 0 where
  same : field text ≡ text

byte_plain : (b : ℕ) → 14 ≤ b → b ≢ 92 → escaped b ≡ b ∷ []
byte_plain b large other = rw (ne_eqb b 92 other, ne_eqb b 9 (λ e. omega (arith, e, large)), ne_eqb b 10 (λ e. omega (arith, e, large)), ne_eqb b 13 (λ e. omega (arith, e, large))) refl

more_plain : (b : ℕ) (text : List ℕ) → 14 ≤ b → b ≢ 92 → IsPlain text → IsPlain (b ∷ text)
more_plain b text large other is = record { same = rw (byte_plain b large other, is.same) refl }

both_plain : (a b : List ℕ) → IsPlain a → IsPlain b → IsPlain (a ++ b)
both_plain a b is also = record { same = flat_map-append escaped a b ∙ rw (is.same, also.same) refl }

none_plain : IsPlain []
none_plain = record { same = refl }

digits_plain : (text : List ℕ) → all_ascii_digits text ≡ true → IsPlain text
digits_plain [] digits = none_plain
digits_plain (d ∷ text) digits =
    let parts = and_parts (is_ascii_digit d) (all_ascii_digits text) digits in
    let least : 48 ≤ d = grind (arith, nat_tests) in
    let most : d ≤ 57 = grind (arith, nat_tests) in
    more_plain d text (omega (arith, least)) (λ e. omega (arith, e, most)) (digits_plain text parts.1)

places_plain : (k n : ℕ) → IsPlain (places k n)
places_plain k n = digits_plain (places k n) (places_digits k n)

decimal_plain : (n : ℕ) → n < 10 ^ 64 → IsPlain (decimal n)
decimal_plain n small = digits_plain (decimal n) (decimal_read n small).digits

-- a sign, a point, a colon or a space before more
mark_plain : (b : ℕ) (text : List ℕ) → 14 ≤ b → b < 92 → IsPlain text → IsPlain (b ∷ text)
mark_plain b text large small is = more_plain b text large (λ e. omega (arith, e, small)) is

truth_plain : (b : Bool) → IsPlain (truth_text b)
truth_plain true = record { same = refl }
truth_plain false = record { same = refl }

whole_plain : (n : ℤ) → FitsSigned w64 n → IsPlain (signed_decimal n)
whole_plain (pos n) fits = decimal_plain n (omega (arith, fits))
whole_plain (negsuc n) fits = mark_plain 45 (decimal (suc n)) (omega arith) (omega arith) (decimal_plain (suc n) (omega (arith, fits)))

wider8 : (n : ℤ) → FitsSigned w8 n → FitsSigned w64 n
wider8 (pos n) fits = omega (arith, fits)
wider8 (negsuc n) fits = omega (arith, fits)

wider16 : (n : ℤ) → FitsSigned w16 n → FitsSigned w64 n
wider16 (pos n) fits = omega (arith, fits)
wider16 (negsuc n) fits = omega (arith, fits)

wider32 : (n : ℤ) → FitsSigned w32 n → FitsSigned w64 n
wider32 (pos n) fits = omega (arith, fits)
wider32 (negsuc n) fits = omega (arith, fits)

maybe_plain : (without : Bool) (text : List ℕ) → IsPlain text → IsPlain (if without then [] else text)
maybe_plain true text is = none_plain
maybe_plain false text is = is

point_plain : (scale n : ℕ) → IsPlain (point_text scale n)
point_plain scale n = maybe_plain (scale == 0) _ (mark_plain 46 (places scale n) (omega arith) (omega arith) (places_plain scale n))

sign_plain : (negative : Bool) → IsPlain (sign_text negative)
sign_plain true = record { same = refl }
sign_plain false = record { same = refl }

whole_part : (n m : ℕ) → 1 ≤ m → n < 10 ^ 64 → n / m < 10 ^ 64
whole_part n m some small = omega (arith, small, div-le_self n m)

fraction_plain : (n : ℤ) (scale : ℕ) → unsigned_abs n < 10 ^ 64 → IsPlain (decimal_text n scale)
unfolding decimal_text
fraction_plain n scale small =
    both_plain (sign_text (is_negative n) ++ decimal (unsigned_abs n / 10 ^ scale)) _
    (both_plain (sign_text (is_negative n)) _ (sign_plain (is_negative n)) (decimal_plain (unsigned_abs n / 10 ^ scale) (whole_part (unsigned_abs n) (10 ^ scale) (power_some scale) small)))
    (point_plain scale (unsigned_abs n))

glyph_plain : (d : ℕ) (text : List ℕ) → IsPlain text → IsPlain (digit_glyph false d ∷ text)
glyph_plain d text is =
    let large : 14 ≤ digit_glyph false d = grind (arith, nat_tests) in
    let other : digit_glyph false d ≢ 92 = λ e. grind (arith, nat_tests) in
    more_plain (digit_glyph false d) text large other is

hex_plain : (bytes : List ℕ) → IsPlain (flat_map hex_pair bytes)
hex_plain [] = none_plain
hex_plain (b ∷ bytes) = glyph_plain (b / 16) _ (glyph_plain (b % 16) _ (hex_plain bytes))

date_plain : (n : ℤ) → IsPlain (date_text n)
unfolding date_text
date_plain n =
    both_plain _ _
    (both_plain _ _ (places_plain 4 _) (mark_plain 45 _ (omega arith) (omega arith) (places_plain 2 _)))
    (mark_plain 45 _ (omega arith) (omega arith) (places_plain 2 _))

clock_plain : (t : ℕ) → IsPlain (clock_text t)
unfolding clock_text
clock_plain t =
    both_plain _ _
    (both_plain _ _
    (both_plain _ _ (places_plain 2 _) (mark_plain 58 _ (omega arith) (omega arith) (places_plain 2 _)))
    (mark_plain 58 _ (omega arith) (omega arith) (places_plain 2 _)))
    (mark_plain 46 _ (omega arith) (omega arith) (places_plain 6 _))

printed_plain : (k : DataType) (v : Value) → IsInRange k v → ((t : List ℕ) → v ≢ value.Text t) → IsPlain (printed v)
printed_plain kind.Boolean (value.Bool b) range no_text = truth_plain b
printed_plain kind.Boolean v range no_text = absurd range.1
printed_plain kind.Byte (value.Int n) range no_text = whole_plain n (wider8 n range.1)
printed_plain kind.Byte v range no_text = absurd range.1
printed_plain kind.Short (value.Int n) range no_text = whole_plain n (wider16 n range.1)
printed_plain kind.Short v range no_text = absurd range.1
printed_plain kind.Integer (value.Int n) range no_text = whole_plain n (wider32 n range.1)
printed_plain kind.Integer v range no_text = absurd range.1
printed_plain kind.Long (value.Int n) range no_text = whole_plain n range.1
printed_plain kind.Long v range no_text = absurd range.1
printed_plain (kind.Decimal precision scale) (value.Dec d) range no_text = fraction_plain d.unscaled d.scale (omega (arith, range.2, power_le precision 38 range.0.1))
printed_plain (kind.Decimal precision scale) v range no_text = absurd range.1
printed_plain kind.Str (value.Text t) range no_text = absurd (no_text t refl)
printed_plain kind.Str v range no_text = absurd range.1
printed_plain kind.Binary (value.Bytes b) range no_text = hex_plain b
printed_plain kind.Binary v range no_text = absurd range.1
printed_plain kind.Date (value.Day n) range no_text = date_plain n
printed_plain kind.Date v range no_text = absurd range.1
printed_plain kind.Timestamp (value.Micros n) range no_text = both_plain (date_text _) _ (date_plain _) (mark_plain 32 _ (omega arith) (omega arith) (clock_plain _))
printed_plain kind.Timestamp v range no_text = absurd range.1
printed_plain kind.Void v range no_text = absurd range.1

in_range : (k : DataType) (v : Value) → IsNullOrInRange k v → v ≢ value.Null → IsInRange k v
in_range k value.Null range some = absurd (some refl)
in_range k (value.Bool b) range some = range
in_range k (value.Int n) range some = range
in_range k (value.Dec d) range some = range
in_range k (value.Text t) range some = range
in_range k (value.Bytes b) range some = range
in_range k (value.Day n) range some = range
in_range k (value.Micros n) range some = range

field_of : (v : Value) → v ≢ value.Null → IsPlain (printed v) → value_field v ≡ printed v
field_of value.Null some plain = absurd (some refl)
field_of (value.Bool b) some plain = plain.same
field_of (value.Int n) some plain = plain.same
field_of (value.Dec d) some plain = plain.same
field_of (value.Text t) some plain = plain.same
field_of (value.Bytes b) some plain = plain.same
field_of (value.Day n) some plain = plain.same
field_of (value.Micros n) some plain = plain.same

-- a field is what is printed, but for null and for texts
pub field_printed : (k : DataType) (v : Value) → IsNullOrInRange k v → v ≢ value.Null → ((t : List ℕ) → v ≢ value.Text t) → value_field v ≡ printed v
field_printed k v range some no_text = field_of v some (printed_plain k v (in_range k v range some) no_text)
