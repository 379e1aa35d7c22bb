-- Dates of the years 1 to 9999, in the calendar of `jiff`.
use Rattle.std.specs.Prelude.{◌≡◌, IsTrue, ℕ, zero, suc, ◌+◌, ◌==◌, ℤ, pos, ◌-ℤ◌, unsigned_abs, List, length, slice_index, slice_range, Bool, ◌&&◌, nat_le, Option, Some, None, if◌then◌else◌}
use Rattle.std.specs.Ordering.{int_cmp, is_le}
use Rattle.jiff_core.specs.Calendar.{days_in_month, days_from_civil}
use Rattle.dm_types.specs.Then.{◌>>=◌}
use Rattle.dm_text.specs.Numbers.{numeral}

-- the calendar has the day
abbrev pub is_calendar_date : ℕ → ℕ → ℕ → Bool
is_calendar_date y m d =
    nat_le 1 y && nat_le y 9999 && nat_le 1 m && nat_le m 12 && nat_le 1 d && nat_le d (days_in_month (pos y) m)

-- the days from 1970-01-01 to a date
abbrev pub calendar_day : ℕ → ℕ → ℕ → Option ℤ
calendar_day y m d = if is_calendar_date y m d then Some (days_from_civil (pos y) m d) else None

-- the number that the digits from one place of a text to another write
abbrev pub number_in : ℕ → ℕ → List ℕ → Option ℕ
number_in from to text = numeral (slice_range text from to)

-- `yyyy-MM-dd`
unfoldable pub date : List ℕ → Option ℤ
date text =
    if (length text == 10) && (slice_index text 4 == 45) && (slice_index text 7 == 45)
    then (do
      y ← number_in 0 4 text
      m ← number_in 5 7 text
      d ← number_in 8 10 text
      calendar_day y m d)
    else None

-- the greatest number up to a bound that passes a test, or 0
unfoldable pub greatest : (ℕ → Bool) → ℕ → ℕ
greatest test zero = 0
greatest test (suc k) = if test (suc k) then suc k else greatest test k

abbrev pub is_at_or_before : ℤ → ℤ → Bool
is_at_or_before a b = is_le (int_cmp a b)

-- the last year that begins at or before a day
unfoldable pub year_of : ℤ → ℕ
year_of n = greatest (λ y. is_at_or_before (days_from_civil (pos y) 1 1) n) 9999

-- the last month of a year that begins at or before it
unfoldable pub month_in : ℕ → ℤ → ℕ
month_in y n = greatest (λ m. is_at_or_before (days_from_civil (pos y) m 1) n) 12

abbrev pub month_of : ℤ → ℕ
month_of n = month_in (year_of n) n

-- its day in a month, from 1
unfoldable pub day_in : ℕ → ℕ → ℤ → ℕ
day_in y m n = unsigned_abs (n -ℤ days_from_civil (pos y) m 1) + 1

abbrev pub day_of : ℤ → ℕ
day_of n = day_in (year_of n) (month_of n) n

-- a day has this year, month and day of the month
pub record Parts (y m d : ℕ) (n : ℤ) : Type 0 where
  pub known : IsTrue (is_calendar_date y m d)
  pub is : days_from_civil (pos y) m d ≡ n
  pub year : year_of n ≡ y
  pub month : month_of n ≡ m
  pub day : day_of n ≡ d
