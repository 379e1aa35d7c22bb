-- What is read of a text is in its type's range.
use Rattle.std.proofs.Common.{◌≡◌, ℕ, zero, suc, ◌+◌, ◌-◌, ◌*◌, ◌^◌, ◌<◌, ◌≤◌, List, [], ◌∷◌, length, take, drop, Bool, true, false, cond, ◌&&◌, Option, Some, None, Result, Ok, Err, ℤ, pos, negsuc, ◌+ℤ◌, ◌*ℤ◌, unsigned_abs, refl, sym, arith, inl, inr}
use Rattle.std.specs.Prelude.{◌==◌, slice_index, slice_range, FitsSigned, position, IfOk}
use Rattle.std.specs.Int.{w8, w16, w32, w64, int_div_euclid}
use Rattle.std.specs.Option.{option_and_then, option_map}
use Rattle.std.specs.Str.{is_utf8}
use Rattle.std.specs.Str.Parse.{starts_with_minus, without_leading_sign}
use Rattle.std.proofs.lemmas.Bool.{and_parts, leb-true, cases_lt}
use Rattle.std.proofs.lemmas.Bool.Decides.{nat_tests}
use Rattle.std.proofs.Common.{rules}
use Rattle.std.proofs.Math.Dec.{leb}
use Rattle.jiff_core.specs.Calendar.{days_from_civil, days_in_month, IsCivilDate}
use Rattle.jiff_core.proofs.SignedLemmas.{signed_arith}
use Rattle.jiff_core.proofs.CalendarLemmas.{days_from_civil-day_count, day_count-lt_year, day_count_bounds}
use Rattle.dm_types.specs.Lanes.{is_within, kept_within}
use Rattle.dm_types.specs.declared.value.DataType.{DataType}
use Rattle.dm_types.specs.declared.value.DataType.TheVariants as kind
use Rattle.dm_types.specs.declared.value.Value.{Value}
use Rattle.dm_types.specs.declared.value.Value.TheVariants as value
use Rattle.dm_text.specs.Answers.{ReadsText}
use Rattle.dm_text.specs.declared.fault.TextFault.{TextFault}
use Rattle.dm_text.specs.declared.fault.TextFault.TheVariants as fault
use Rattle.dm_text.specs.Numbers.{numeral, numeral_below, below, with_sign, signed, whole, front, fraction, parted, fixed_point, decimal_number}
use Rattle.dm_text.specs.Calendar.{is_calendar_date, calendar_day, date, number_in}
use Rattle.dm_text.specs.Moments.{clock, behind_second, moment, timestamp, ends_in_z}
use Rattle.dm_text.specs.Reading.{truth, text_value}
use Rattle.dm_types.specs.Ranges.{IsWellFormed, IsDay, IsInRange, day_part}
use Rattle.dm_text.proofs.Powers.{power_some, scaled}
use Rattle.dm_text.proofs.Points.{fraction_bound}
use Rattle.dm_text.proofs.Days.{first_count, starts}
use Rattle.std.proofs.lemmas.Int.{ints}

-- of steps that gave something each gave something
pub stepped : {A B : Type 0} (o : Option A) (f : A → Option B) (b : B) → option_and_then f o ≡ Some b → (a : A) × (o ≡ Some a) × (f a ≡ Some b)
stepped None f b is = absurd cc
stepped (Some a) f b is = (a, refl, is)

pub mapped : {A B : Type 0} (o : Option A) (f : A → B) (b : B) → option_map f o ≡ Some b → (a : A) × (o ≡ Some a) × (b ≡ f a)
mapped None f b is = absurd cc
mapped (Some a) f b is = (a, refl, cc)

pub tested : {A : Type 0} (t : Bool) (o : Option A) (a : A) → cond t o None ≡ Some a → (t ≡ true) × (o ≡ Some a)
tested true o a is = (refl, is)
tested false o a is = absurd cc

pub below_is : (bound n m : ℕ) → below bound n ≡ Some m → (n ≡ m) × (n < bound)
below_is bound n m is = grind (arith, nat_tests)

kept_is : (bits : ℕ) (z n : ℤ) → kept_within bits z ≡ Some n → is_within bits n ≡ true
kept_is bits z n is =
    let parts = tested (is_within bits z) (Some z) n is in
    let same : z ≡ n = cc in
    rw (← same) parts.0

whole_within : (bits : ℕ) (text : List ℕ) (n : ℤ) → whole bits text ≡ Some n → is_within bits n ≡ true
whole_within bits text n is =
    let step = stepped (signed numeral text) (kept_within bits) n is in
    kept_is bits step.0 n step.2

fits8 : (n : ℤ) → is_within 7 n ≡ true → FitsSigned w8 n
fits8 (pos n) is = grind (arith, nat_tests)
fits8 (negsuc n) is = grind (arith, nat_tests)

fits16 : (n : ℤ) → is_within 15 n ≡ true → FitsSigned w16 n
fits16 (pos n) is = grind (arith, nat_tests)
fits16 (negsuc n) is = grind (arith, nat_tests)

fits32 : (n : ℤ) → is_within 31 n ≡ true → FitsSigned w32 n
fits32 (pos n) is = grind (arith, nat_tests)
fits32 (negsuc n) is = grind (arith, nat_tests)

fits64 : (n : ℤ) → is_within 63 n ≡ true → FitsSigned w64 n
fits64 (pos n) is = grind (arith, nat_tests)
fits64 (negsuc n) is = grind (arith, nat_tests)

-- decimals

front_bound : (room places n : ℕ) (text : List ℕ) → front room places text ≡ Some n → n + 10 ^ places ≤ 10 ^ (room + places)
front_bound room places n text is =
    let step = stepped (numeral_below (10 ^ room) text) (λ m. Some (m * 10 ^ places)) n is in
    let inner = stepped (numeral text) (below (10 ^ room)) step.0 step.1 in
    let small = below_is (10 ^ room) inner.0 step.0 inner.2 in
    let less : step.0 < 10 ^ room = omega (arith, small.0, small.1) in
    let same : step.0 * 10 ^ places ≡ n = cc in
    rw (← same) (scaled step.0 room places less)

fraction_within : (places n : ℕ) (text : List ℕ) → fraction places text ≡ Some n → n < 10 ^ places
fraction_within places n text is =
    let step = stepped (numeral text) (λ m. cond (leb (length text) places) (Some (m * 10 ^ (places - length text))) None) n is in
    let fits = tested (leb (length text) places) (Some (step.0 * 10 ^ (places - length text))) n step.2 in
    let few = leb-true (length text) places fits.0 in
    let same : step.0 * 10 ^ (places - length text) ≡ n = cc in
    omega (arith, same, fraction_bound text places step.0 few (sym step.1))

parted_bound : (room places n : ℕ) (text : List ℕ) (o : Option ℕ) → parted room places text o ≡ Some n → n < 10 ^ (room + places)
parted_bound room places n text None is = omega (arith, front_bound room places n text is, power_some places)
parted_bound room places n text (Some at) is =
    let step = stepped (front room places (take at text)) (λ m. option_and_then (λ f. Some (m + f)) (fraction places (drop (at + 1) text))) n is in
    let inner = stepped (fraction places (drop (at + 1) text)) (λ f. Some (step.0 + f)) n step.2 in
    let same : step.0 + inner.0 ≡ n = cc in
    omega (arith, same, front_bound room places step.0 (take at text) step.1, fraction_within places inner.0 (drop (at + 1) text) inner.1)

fixed_bound : (room places n : ℕ) (text : List ℕ) → fixed_point room places text ≡ Some n → n < 10 ^ (room + places)
unfolding fixed_point
fixed_bound room places n text is = parted_bound room places n text (position (λ c. c == 46) text) is

size_of : (minus : Bool) (n : ℕ) → unsigned_abs (with_sign minus n) ≡ n
size_of false n = refl
size_of true zero = refl
size_of true (suc n) = refl

decimal_bound : (precision scale : ℕ) (text : List ℕ) (n : ℤ) → scale ≤ precision → decimal_number precision scale text ≡ Some n → unsigned_abs n < 10 ^ precision
decimal_bound precision scale text n less is =
    let step = mapped (fixed_point (precision - scale) scale (without_leading_sign text)) (with_sign (starts_with_minus text)) n is in
    let whole : precision - scale + scale ≡ precision = omega arith in
    let small : step.0 < 10 ^ precision = rw whole at (fixed_bound (precision - scale) scale step.0 (without_leading_sign text) step.1) in
    rw (step.2, size_of (starts_with_minus text) step.0) small

-- days and moments

first_date : IsCivilDate (pos 1) 1 1
first_date = search rules

first_range : (m d : ℕ) → IsCivilDate (pos 1) m d → IsDay (days_from_civil (pos 1) m d)
first_range m d is = (omega (arith, signed_arith, first_count, starts (pos 1) m d is, days_from_civil-day_count (pos 1) 1 1), omega (arith, signed_arith, days_from_civil-day_count (pos 1) m d, day_count_bounds (pos 1) m d is))

day_range : (y m d : ℕ) → IsCivilDate (pos y) m d → 1 ≤ y → IsDay (days_from_civil (pos y) m d)
day_range y m d is some =
    elim (cases_lt 1 y) as (λ _. IsDay (days_from_civil (pos y) m d)) [
      | inl later ↦ (omega (arith, signed_arith, first_count, days_from_civil-day_count (pos y) m d, day_count-lt_year (pos 1) 1 1 (pos y) m d first_date is.2.0 (omega (arith, signed_arith))), omega (arith, signed_arith, days_from_civil-day_count (pos y) m d, day_count_bounds (pos y) m d is))
      | inr first ↦ let one : y ≡ 1 = omega arith in rw one (first_range m d (rw one at is))
    ]

pub six : (a b c d e f : Bool) → (a && b && c && d && e && f) ≡ true → (a ≡ true) × (b ≡ true) × (c ≡ true) × (d ≡ true) × (e ≡ true) × (f ≡ true)
six a b c d e f is =
    let p = and_parts (a && b && c && d && e) f is in
    let q = and_parts (a && b && c && d) e p.0 in
    let r = and_parts (a && b && c) d q.0 in
    let s = and_parts (a && b) c r.0 in
    let t = and_parts a b s.0 in
    (t.0, t.1, s.1, r.1, q.1, p.1)

pub civil_of : (y m d : ℕ) → is_calendar_date y m d ≡ true → IsCivilDate (pos y) m d × (1 ≤ y)
civil_of y m d is =
    let parts = six (leb 1 y) (leb y 9999) (leb 1 m) (leb m 12) (leb 1 d) (leb d (days_in_month (pos y) m)) is in
    let low = leb-true 1 y parts.0 in
    let high = leb-true y 9999 parts.1 in (
      (
        (omega (arith, signed_arith), omega (arith, signed_arith, high)),
        (leb-true 1 m parts.2, leb-true m 12 parts.3),
        (leb-true 1 d parts.4, leb-true d (days_in_month (pos y) m) parts.5),
      ),
      low,
    )

calendar_range : (y m d : ℕ) (n : ℤ) → calendar_day y m d ≡ Some n → IsDay n
calendar_range y m d n is =
    let known = tested (is_calendar_date y m d) (Some (days_from_civil (pos y) m d)) n is in
    let same : days_from_civil (pos y) m d ≡ n = cc in
    let parts = civil_of y m d known.0 in
    rw same at (day_range y m d parts.0 parts.1)

three : (o₁ o₂ o₃ : Option ℕ) (k : ℕ → ℕ → ℕ → Option ℤ) (n : ℤ) → option_and_then (λ y. option_and_then (λ m. option_and_then (λ d. k y m d) o₃) o₂) o₁ ≡ Some n → (y : ℕ) × (m : ℕ) × (d : ℕ) × (k y m d ≡ Some n)
three (Some y) (Some m) (Some d) k n is = (y, m, d, is)
three (Some y) (Some m) None k n is = absurd cc
three (Some y) None o₃ k n is = absurd cc
three None o₂ o₃ k n is = absurd cc

pub date_range : (text : List ℕ) (n : ℤ) → date text ≡ Some n → IsDay n
unfolding date
date_range text n is =
    let known = tested ((length text == 10) && (slice_index text 4 == 45) && (slice_index text 7 == 45)) _ n is in
    let parts = three (number_in 0 4 text) (number_in 5 7 text) (number_in 8 10 text) calendar_day n known.1 in
    calendar_range parts.0 parts.1 parts.2 n parts.3

clock_sum : (o₁ o₂ o₃ : Option ℕ) (n : ℕ) → option_and_then (λ h. option_and_then (λ m. option_and_then (λ s. Some ((h * 60 + m) * 60 + s)) (option_and_then (below 60) o₃)) (option_and_then (below 60) o₂)) (option_and_then (below 24) o₁) ≡ Some n → n < 86_400
clock_sum o₁ o₂ o₃ n is =
    let hours = stepped (option_and_then (below 24) o₁) _ n is in
    let h = stepped o₁ (below 24) hours.0 hours.1 in
    let minutes = stepped (option_and_then (below 60) o₂) _ n hours.2 in
    let m = stepped o₂ (below 60) minutes.0 minutes.1 in
    let seconds = stepped (option_and_then (below 60) o₃) (λ s. Some ((hours.0 * 60 + minutes.0) * 60 + s)) n minutes.2 in
    let s = stepped o₃ (below 60) seconds.0 seconds.1 in
    let same : (hours.0 * 60 + minutes.0) * 60 + seconds.0 ≡ n = cc in
    omega (arith, same, below_is 24 h.0 hours.0 h.2, below_is 60 m.0 minutes.0 m.2, below_is 60 s.0 seconds.0 s.2)

clock_bound : (text : List ℕ) (n : ℕ) → clock text ≡ Some n → n < 86_400
unfolding clock
clock_bound text n is =
    let known = tested ((length text == 8) && (slice_index text 2 == 58) && (slice_index text 5 == 58)) _ n is in
    clock_sum (number_in 0 2 text) (number_in 3 5 text) (number_in 6 8 text) n known.1

behind_bound : (text : List ℕ) (n : ℕ) → behind_second text ≡ Some n → n < 1_000_000
unfolding behind_second
behind_bound [] n is = let same : 0 ≡ n = cc in omega (arith, same)
behind_bound (c ∷ digits) n is =
    let known = tested (c == 46) (fraction 6 digits) n is in
    fraction_within 6 n digits known.1

pub div_back : (d : ℤ) (t : ℕ) → t < 86_400_000_000 → int_div_euclid (d *ℤ pos 86_400_000_000 +ℤ pos t) (pos 86_400_000_000) ≡ d
div_back d t small = omega (arith, signed_arith)

moment_parts : (o₁ : Option ℤ) (o₂ o₃ : Option ℕ) (n : ℤ) → option_and_then (λ d. option_and_then (λ s. option_and_then (λ f. Some (d *ℤ pos 86_400_000_000 +ℤ pos (s * 1_000_000 + f))) o₃) o₂) o₁ ≡ Some n → (d : ℤ) × (s : ℕ) × (f : ℕ) × (o₁ ≡ Some d) × (o₂ ≡ Some s) × (o₃ ≡ Some f) × (d *ℤ pos 86_400_000_000 +ℤ pos (s * 1_000_000 + f) ≡ n)
moment_parts (Some d) (Some s) (Some f) n is = (d, s, f, refl, refl, refl, cc)
moment_parts (Some d) (Some s) None n is = absurd cc
moment_parts (Some d) None o₃ n is = absurd cc
moment_parts None o₂ o₃ n is = absurd cc

moment_range : (day time : List ℕ) (n : ℤ) → moment day time ≡ Some n → IsDay (day_part n)
unfolding moment
moment_range day time n is =
    let parts = moment_parts (date day) (clock (take 8 time)) (behind_second (drop 8 time)) n is in
    let small : parts.1 * 1_000_000 + parts.2 < 86_400_000_000 = omega (arith, clock_bound (take 8 time) parts.1 parts.4, behind_bound (drop 8 time) parts.2 parts.5) in
    rw (← parts.6, div_back parts.0 (parts.1 * 1_000_000 + parts.2) small) (date_range day parts.0 parts.3)

either : (t u : Bool) (a b : Option ℤ) (n : ℤ) (P : Type 0) → (a ≡ Some n → P) → (b ≡ Some n → P) → cond t a (cond u b None) ≡ Some n → P
either true u a b n P f g is = f is
either false true a b n P f g is = g is
either false false a b n P f g is = absurd cc

pub stamp_range : (text : List ℕ) (n : ℤ) → timestamp text ≡ Some n → IsDay (day_part n)
unfolding timestamp
stamp_range text n is =
    either (slice_index text 10 == 32) ((slice_index text 10 == 84) && ends_in_z text) (moment (take 10 text) (drop 11 text)) (moment (take 10 text) (slice_range text 11 (length text - 1))) n _
    (moment_range (take 10 text) (drop 11 text) n) (moment_range (take 10 text) (slice_range text 11 (length text - 1)) n) is

day_fits : (n : ℤ) → IsDay n → FitsSigned w32 n
day_fits (pos n) is = grind (arith, ints)
day_fits (negsuc n) is = grind (arith, ints)

stamp_fits : (n : ℤ) → IsDay (day_part n) → FitsSigned w64 n
stamp_fits (pos n) is = grind (arith, ints)
stamp_fits (negsuc n) is = grind (arith, ints)

-- every type

in_range : (k : DataType) (text : List ℕ) (v : Value) → IsWellFormed k → text_value k text ≡ Some v → IsInRange k v
in_range kind.Boolean text v good is = let step = mapped (truth text) value.Bool v is in rw step.2 (good, tt, tt)
in_range kind.Byte text v good is = let step = mapped (whole 7 text) value.Int v is in rw step.2 (good, fits8 step.0 (whole_within 7 text step.0 step.1), tt)
in_range kind.Short text v good is = let step = mapped (whole 15 text) value.Int v is in rw step.2 (good, fits16 step.0 (whole_within 15 text step.0 step.1), tt)
in_range kind.Integer text v good is = let step = mapped (whole 31 text) value.Int v is in rw step.2 (good, fits32 step.0 (whole_within 31 text step.0 step.1), tt)
in_range kind.Long text v good is = let step = mapped (whole 63 text) value.Int v is in rw step.2 (good, fits64 step.0 (whole_within 63 text step.0 step.1), tt)
in_range (kind.Decimal precision scale) text v good is =
    let step = mapped (decimal_number precision scale text) (λ n. value.Dec (record { unscaled = n; scale = scale })) v is in
    rw step.2 (good, refl, decimal_bound precision scale text step.0 good.2 step.1)
in_range kind.Str text v good is = let known = tested (is_utf8 text) (Some (value.Text text)) v is in let same : v ≡ value.Text text = cc in rw same (good, tt, tt)
in_range kind.Date text v good is = let step = mapped (date text) value.Day v is in let range = date_range text step.0 step.1 in rw step.2 (good, day_fits step.0 range, range)
in_range kind.Timestamp text v good is = let step = mapped (timestamp text) value.Micros v is in let range = stamp_range text step.0 step.1 in rw step.2 (good, stamp_fits step.0 range, range)
in_range k text v good is = absurd cc

pub ranged : (k : DataType) (text : List ℕ) (r : Result Value TextFault) → IsWellFormed k → ReadsText (text_value k text) r → IfOk r (λ v. IsInRange k v)
ranged k text (Ok v) good is = in_range k text v good is
ranged k text (Err fault.BadText) good is = tt
ranged k text (Err fault.Memory) good is = tt
