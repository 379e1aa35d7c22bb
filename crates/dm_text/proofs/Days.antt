-- The year, month and day of a day number are those of the date that has it.
use Rattle.std.proofs.Common.{◌≡◌, ℕ, zero, suc, ◌-◌, ◌<◌, ◌≤◌, Bool, true, false, ℤ, pos, negsuc, ◌-ℤ◌, ◌<ℤ◌, ◌≤ℤ◌, unsigned_abs, refl, ap, ◌∙◌, arith, inl, inr}
use Rattle.std.proofs.lemmas.Int.{ints, by_lt_z}
use Rattle.std.proofs.lemmas.Bool.{cases_lt, le-leb}
use Rattle.jiff_core.specs.declared.civil.date.Date.{Date}
use Rattle.jiff_core.specs.Calendar.{day_count, days_from_civil, days_in_month, IsCivilDate}
use Rattle.jiff_core.specs.Date.{epoch_day}
use Rattle.jiff_core.proofs.SignedLemmas.{signed_arith}
use Rattle.jiff_core.proofs.MarchLemmas.{day_count-early}
use Rattle.jiff_core.proofs.CalendarLemmas.{days_from_civil-day_count, day_count-lt_year, day_count-lt_month, day_count-day, day_count-day_of_year}
use Rattle.jiff_core.proofs.DateLemmas.{civil}
use Rattle.dm_text.specs.Calendar.{greatest, is_at_or_before, year_of, month_in, month_of, day_in, day_of, is_calendar_date, Parts}
use Rattle.dm_types.specs.Ranges.{IsDay}
use Rattle.dm_text.specs.Printing.{date_text, parts_text}

greatest_is : (test : ℕ → Bool) (most k : ℕ) → 1 ≤ k → k ≤ most → test k ≡ true → ((j : ℕ) → k < j → j ≤ most → test j ≡ false) → greatest test most ≡ k
unfolding greatest
greatest_is test zero k some upto at past = absurd (omega arith)
greatest_is test (suc n) k some upto at past =
    elim (cases_lt k (suc n)) as (λ _. greatest test (suc n) ≡ k) [
      | inl less ↦ rw (past (suc n) less (omega arith)) (greatest_is test n k some (omega arith) at (λ j more less. past j more (omega arith)))
      | inr last ↦ let is : k ≡ suc n = omega arith in rw (← is, at) refl
    ]

at_day : (a b : ℤ) → a ≤ℤ b → is_at_or_before a b ≡ true
at_day a b less = grind (arith, ints)

past_day : (a b : ℤ) → b <ℤ a → is_at_or_before a b ≡ false
past_day a b less = grind (arith, ints)

pub first_count : day_count (pos 1) 1 1 ≡ 3_652_791
first_count = day_count-early (pos 1) 10000 1 1 refl (omega arith) (omega arith) (omega arith)

-- from 0001-01-01 on the year is positive
positive : (y : ℤ) (m d : ℕ) → IsCivilDate y m d → IsDay (days_from_civil y m d) → pos 1 ≤ℤ y
positive y m d is in_range =
    by_lt_z y (pos 1)
    (λ less. absurd (omega (arith, signed_arith, in_range, first_count, days_from_civil-day_count y m d, day_count-lt_year y m d (pos 1) 1 1 is (omega arith) less)))
    (λ more. more)

pub starts : (y : ℤ) (m d : ℕ) → IsCivilDate y m d → days_from_civil y 1 1 ≤ℤ days_from_civil y m d
starts y m d is = omega (arith, signed_arith, is.2.0, days_from_civil-day_count y m d, days_from_civil-day_count y 1 1, day_count-day_of_year y m d is.2.0)

year_is : (y m d : ℕ) → IsCivilDate (pos y) m d → 1 ≤ y → year_of (days_from_civil (pos y) m d) ≡ y
unfolding year_of
year_is y m d is some =
    let n = days_from_civil (pos y) m d in
    let upto : y ≤ 9999 = omega (arith, signed_arith, is.0) in
    greatest_is _ 9999 y some upto (at_day _ n (starts (pos y) m d is))
    (λ j more less. let later : pos y <ℤ pos j = omega (arith, signed_arith) in
    past_day _ n (omega (arith, signed_arith, days_from_civil-day_count (pos y) m d, days_from_civil-day_count (pos j) 1 1, day_count-lt_year (pos y) m d (pos j) 1 1 is (omega arith) later)))

month_is : (y m d : ℕ) → IsCivilDate (pos y) m d → month_in y (days_from_civil (pos y) m d) ≡ m
unfolding month_in
month_is y m d is =
    let n = days_from_civil (pos y) m d in
    greatest_is _ 12 m is.1.0 (omega (arith, is.1)) (at_day _ n (omega (arith, signed_arith, is.2.0, days_from_civil-day_count (pos y) m d, days_from_civil-day_count (pos y) m 1, day_count-day (pos y) m d 1 is.2.0 (omega arith))))
    (λ j more less. past_day _ n (omega (arith, signed_arith, days_from_civil-day_count (pos y) m d, days_from_civil-day_count (pos y) j 1, day_count-lt_month (pos y) m d j 1 is (omega arith) more)))

day_is : (y m d : ℕ) → IsCivilDate (pos y) m d → day_in y m (days_from_civil (pos y) m d) ≡ d
unfolding day_in
day_is y m d is =
    let behind : days_from_civil (pos y) m d -ℤ days_from_civil (pos y) m 1 ≡ pos (d - 1) = omega (arith, signed_arith, is.2.0, days_from_civil-day_count (pos y) m d, days_from_civil-day_count (pos y) m 1, day_count-day (pos y) m d 1 is.2.0 (omega arith)) in
    rw behind (omega (arith, is.2.0))

known_date : (y m d : ℕ) → IsCivilDate (pos y) m d → 1 ≤ y → is_calendar_date y m d ≡ true
known_date y m d is some =
    let upto : y ≤ 9999 = omega (arith, signed_arith, is.0) in
    rw (le-leb 1 y some, le-leb y 9999 upto, le-leb 1 m is.1.0, le-leb m 12 (omega (arith, is.1)), le-leb 1 d is.2.0, le-leb d (days_in_month (pos y) m) (omega (arith, is.2))) refl

parts : (y m d : ℕ) → IsCivilDate (pos y) m d → 1 ≤ y → Parts y m d (days_from_civil (pos y) m d)
parts y m d is some =
    let year = year_is y m d is some in
    let month : month_of (days_from_civil (pos y) m d) ≡ m = rw year (month_is y m d is) in
    let day : day_of (days_from_civil (pos y) m d) ≡ d = ap (λ k. day_in k (month_of (days_from_civil (pos y) m d)) (days_from_civil (pos y) m d)) year ∙ ap (λ k. day_in y k (days_from_civil (pos y) m d)) month ∙ day_is y m d is in
    record { known = known_date y m d is some; is = refl; year = year; month = month; day = day }

parts_at : (d : Date) (y : ℕ) (n : ℤ) → d.year ≡ pos y → 1 ≤ y → epoch_day d ≡ n → Parts y d.month d.day n
parts_at d y n year some is =
    let at : IsCivilDate (pos y) d.month d.day = rw year at (civil d) in
    let same : days_from_civil (pos y) d.month d.day ≡ n = rw year at is in
    rw same at (parts y d.month d.day at some)

size_of : (z : ℤ) → pos 1 ≤ℤ z → z ≡ pos (unsigned_abs z)
size_of (pos n) some = refl
size_of (negsuc n) some = absurd (omega (arith, ints, some))

pub date_parts : (d : Date) (n : ℤ) → epoch_day d ≡ n → IsDay n → Parts (unsigned_abs d.year) d.month d.day n
date_parts d n is in_range =
    let some : pos 1 ≤ℤ d.year = positive d.year d.month d.day (civil d) (rw is in_range) in
    let size = size_of d.year some in
    parts_at d (unsigned_abs d.year) n size (omega (arith, signed_arith, size)) is

pub date_text_is : (y m d : ℕ) (n : ℤ) → Parts y m d n → date_text n ≡ parts_text y m d
unfolding date_text
date_text_is y m d n parts = ap (λ k. parts_text k (month_of n) (day_of n)) parts.year ∙ ap (λ k. parts_text y k (day_of n)) parts.month ∙ ap (λ k. parts_text y m k) parts.day
