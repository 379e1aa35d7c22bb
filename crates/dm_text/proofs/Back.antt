-- What is printed of a value is read as it.
use Rattle.std.proofs.Common.{◌≡◌, ◌≢◌, ℕ, ◌+◌, ◌*◌, ◌/◌, ◌%◌, ◌<◌, ◌≤◌, List, ◌∷◌, ◌++◌, take, drop, Bool, true, false, Some, ℤ, pos, negsuc, ◌+ℤ◌, ◌*ℤ◌, refl, sym, ap, ◌∙◌, arith}
use Rattle.std.specs.Prelude.{FitsSigned}
use Rattle.std.specs.Int.{w8, w16, w32, w64}
use Rattle.std.specs.Option.{option_map}
use Rattle.std.proofs.lemmas.Bool.{lt-ltb}
use Rattle.std.proofs.lemmas.Str.{is_utf8-from_IsUtf8}
use Rattle.std.proofs.lemmas.Bool.Decides.{nat_tests}
use Rattle.jiff_core.proofs.SignedLemmas.{signed_arith}
use Rattle.jiff_core.proofs.CalendarLemmas.{days_in_month_bounds}
use Rattle.dm_types.specs.Lanes.{is_within}
use Rattle.dm_types.specs.declared.value.DataType.{DataType}
use Rattle.dm_types.specs.declared.value.DataType.TheVariants as kind
use Rattle.dm_types.specs.declared.value.Value.{Value}
use Rattle.dm_types.specs.declared.value.Value.TheVariants as value
use Rattle.dm_text.specs.Numbers.{numeral, decimal_number}
use Rattle.dm_text.specs.Calendar.{calendar_day, date, Parts}
use Rattle.dm_text.specs.Moments.{clock, behind_second, moment, timestamp}
use Rattle.dm_text.specs.Reading.{truth, text_value}
use Rattle.dm_types.specs.Ranges.{IsInRange, IsText, day_part, the_day}
use Rattle.dm_text.specs.Printing.{places, decimal_text, printed, date_text, parts_text, clock_text, clock_part}
use Rattle.dm_text.proofs.Spelled.{whole_read, decimal_back, numeral_places, fraction_read}
use Rattle.dm_text.proofs.Days.{date_text_is}
use Rattle.dm_text.proofs.InRange.{civil_of}

truth_back : (b : Bool) → truth (printed (value.Bool b)) ≡ Some b
unfolding truth
truth_back true = refl
truth_back false = refl

within8 : (n : ℤ) → FitsSigned w8 n → is_within 7 n ≡ true
within8 (pos n) fits = grind (arith, nat_tests)
within8 (negsuc n) fits = grind (arith, nat_tests)

within16 : (n : ℤ) → FitsSigned w16 n → is_within 15 n ≡ true
within16 (pos n) fits = grind (arith, nat_tests)
within16 (negsuc n) fits = grind (arith, nat_tests)

within32 : (n : ℤ) → FitsSigned w32 n → is_within 31 n ≡ true
within32 (pos n) fits = grind (arith, nat_tests)
within32 (negsuc n) fits = grind (arith, nat_tests)

within64 : (n : ℤ) → FitsSigned w64 n → is_within 63 n ≡ true
within64 (pos n) fits = grind (arith, nat_tests)
within64 (negsuc n) fits = grind (arith, nat_tests)

four : (n : ℕ) → n < 10000 → numeral (places 4 n) ≡ Some n
four n small = numeral_places 4 n (omega arith) ∙ ap Some (omega arith)

two : (n : ℕ) → n < 100 → numeral (places 2 n) ≡ Some n
two n small = numeral_places 2 n (omega arith) ∙ ap Some (omega arith)

parts_read : (y m d : ℕ) → numeral (places 4 y) ≡ Some y → numeral (places 2 m) ≡ Some m → numeral (places 2 d) ≡ Some d → date (parts_text y m d) ≡ calendar_day y m d
unfolding date places
parts_read y m d year month day = rw (year, month, day) refl

pub date_back : (y m d : ℕ) (n : ℤ) → Parts y m d n → date (date_text n) ≡ Some n
date_back y m d n parts =
    let civil = civil_of y m d parts.known in
    let high : y ≤ 9999 = omega (arith, signed_arith, civil.0.0) in
    let read = parts_read y m d (four y (omega arith)) (two m (omega (arith, civil.0.1))) (two d (omega (arith, civil.0.2, days_in_month_bounds (pos y) m))) in
    rw (date_text_is y m d n parts, read, parts.known, parts.is) refl

clock_read : (t : ℕ) → t < 86_400_000_000 → clock (take 8 (clock_text t)) ≡ Some (t / 1_000_000)
unfolding clock clock_text places
clock_read t small =
    let h : t / 3_600_000_000 < 24 = omega arith in
    let m : t / 60_000_000 % 60 < 60 = omega arith in
    let s : t / 1_000_000 % 60 < 60 = omega arith in
    rw (
      two (t / 3_600_000_000) (omega arith),
      lt-ltb (t / 3_600_000_000) 24 h,
      two (t / 60_000_000 % 60) (omega arith),
      lt-ltb (t / 60_000_000 % 60) 60 m,
      two (t / 1_000_000 % 60) (omega arith),
      lt-ltb (t / 1_000_000 % 60) 60 s,
    )
    (ap Some (omega arith))

behind_read : (t : ℕ) → behind_second (drop 8 (clock_text t)) ≡ Some (t % 1_000_000)
unfolding behind_second clock_text places
behind_read t = fraction_read 6 t (omega arith)

stamp_parts : (y m d : ℕ) (time : List ℕ) → timestamp (parts_text y m d ++ (32 ∷ time)) ≡ moment (parts_text y m d) time
unfolding timestamp places
stamp_parts y m d time = refl

moment_read : (day time : List ℕ) (n : ℤ) (s f : ℕ) → date day ≡ Some n → clock (take 8 time) ≡ Some s → behind_second (drop 8 time) ≡ Some f → moment day time ≡ Some (n *ℤ pos 86_400_000_000 +ℤ pos (s * 1_000_000 + f))
unfolding moment
moment_read day time n s f a b c = rw (a, b, c) refl

clock_small : (n : ℤ) → clock_part n < 86_400_000_000
clock_small n = omega (arith, signed_arith)

day_and_clock : (n : ℤ) → day_part n *ℤ pos 86_400_000_000 +ℤ pos (clock_part n) ≡ n
day_and_clock n = omega (arith, signed_arith)

pub stamp_back : (y m d : ℕ) (n : ℤ) → Parts y m d (day_part n) → timestamp (date_text (day_part n) ++ (32 ∷ clock_text (clock_part n))) ≡ Some n
stamp_back y m d n parts =
    let text = date_text_is y m d (day_part n) parts in
    let day : date (parts_text y m d) ≡ Some (day_part n) = rw text at (date_back y m d (day_part n) parts) in
    let t = clock_part n in
    let sum : t / 1_000_000 * 1_000_000 + t % 1_000_000 ≡ t = omega arith in
    rw text
    (stamp_parts y m d (clock_text t)
    ∙ moment_read (parts_text y m d) (clock_text t) (day_part n) (t / 1_000_000) (t % 1_000_000) day (clock_read t (clock_small n)) (behind_read t)
    ∙ ap (λ k. Some (day_part n *ℤ pos 86_400_000_000 +ℤ pos k)) sum
    ∙ ap Some (day_and_clock n))

pub back : (k : DataType) (v : Value) (y m d : ℕ) → IsInRange k v → IsText v → Parts y m d (the_day v) → k ≢ kind.Binary → text_value k (printed v) ≡ Some v
back kind.Boolean (value.Bool b) y m d range utf8 parts read = ap (λ o. option_map value.Bool o) (truth_back b)
back kind.Boolean v y m d range utf8 parts read = absurd range.1
back kind.Byte (value.Int n) y m d range utf8 parts read = ap (λ o. option_map value.Int o) (whole_read 7 n (omega arith) (within8 n range.1))
back kind.Byte v y m d range utf8 parts read = absurd range.1
back kind.Short (value.Int n) y m d range utf8 parts read = ap (λ o. option_map value.Int o) (whole_read 15 n (omega arith) (within16 n range.1))
back kind.Short v y m d range utf8 parts read = absurd range.1
back kind.Integer (value.Int n) y m d range utf8 parts read = ap (λ o. option_map value.Int o) (whole_read 31 n (omega arith) (within32 n range.1))
back kind.Integer v y m d range utf8 parts read = absurd range.1
back kind.Long (value.Int n) y m d range utf8 parts read = ap (λ o. option_map value.Int o) (whole_read 63 n (omega arith) (within64 n range.1))
back kind.Long v y m d range utf8 parts read = absurd range.1
back (kind.Decimal precision scale) (value.Dec x) y m d range utf8 parts read =
    let number : decimal_number precision scale (decimal_text x.unscaled x.scale) ≡ Some x.unscaled = rw range.1 (decimal_back precision scale x.unscaled range.0.2 range.0.1 range.2) in
    ap (λ o. option_map (λ (n : ℤ). value.Dec (record { unscaled = n; scale = scale })) o) number ∙ ap (λ (n : ℕ). Some (value.Dec (record { unscaled = x.unscaled; scale = n }))) (sym range.1)
back (kind.Decimal precision scale) v y m d range utf8 parts read = absurd range.1
back kind.Str (value.Text t) y m d range utf8 parts read = rw (is_utf8-from_IsUtf8 t utf8) refl
back kind.Str v y m d range utf8 parts read = absurd range.1
back kind.Binary v y m d range utf8 parts read = absurd (read refl)
back kind.Date (value.Day n) y m d range utf8 parts read = ap (λ o. option_map value.Day o) (date_back y m d n parts)
back kind.Date v y m d range utf8 parts read = absurd range.1
back kind.Timestamp (value.Micros n) y m d range utf8 parts read = ap (λ o. option_map value.Micros o) (stamp_back y m d n parts)
back kind.Timestamp v y m d range utf8 parts read = absurd range.1
back kind.Void v y m d range utf8 parts read = absurd range.1
