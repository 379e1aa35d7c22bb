-- Moments in UTC, as microseconds from 1970-01-01 00:00.
use Rattle.std.specs.Prelude.{ℕ, ◌+◌, ◌-◌, ◌*◌, ◌==◌, ℤ, pos, ◌+ℤ◌, ◌*ℤ◌, List, [], ◌∷◌, length, take, drop, slice_index, slice_range, Bool, ◌&&◌, Option, Some, None, if◌then◌else◌}
use Rattle.dm_types.specs.declared.value.TheConstants.{DAY_MICROS}
use Rattle.dm_types.specs.Then.{◌>>=◌}
use Rattle.dm_text.specs.Numbers.{below, fraction}
use Rattle.dm_text.specs.Calendar.{number_in, date}

-- the number that two digits at a place write, below a limit
abbrev pub two_below : ℕ → ℕ → List ℕ → Option ℕ
two_below limit at text = number_in at (at + 2) text >>= below limit

-- `HH:mm:ss`, hours to 23, minutes and seconds to 59: the seconds of the day
unfoldable pub clock : List ℕ → Option ℕ
clock text =
    if (length text == 8) && (slice_index text 2 == 58) && (slice_index text 5 == 58)
    then (do
      h ← two_below 24 0 text
      m ← two_below 60 3 text
      s ← two_below 60 6 text
      Some ((h * 60 + m) * 60 + s))
    else None

-- nothing, or a point and 1 to 6 digits: the microseconds behind the second
unfoldable pub behind_second : List ℕ → Option ℕ
behind_second [] = Some 0
behind_second (c ∷ digits) = if c == 46 then fraction 6 digits else None

-- a date, and a time of the day
unfoldable pub moment : List ℕ → List ℕ → Option ℤ
moment day time = do
  n ← date day
  s ← clock (take 8 time)
  f ← behind_second (drop 8 time)
  Some (n *ℤ DAY_MICROS +ℤ pos (s * 1_000_000 + f))

-- the last byte is `Z`
abbrev pub ends_in_z : List ℕ → Bool
ends_in_z text = slice_index text (length text - 1) == 90

-- `yyyy-MM-dd HH:mm:ss` with its fraction, or with `T` for the space and `Z` at the end
unfoldable pub timestamp : List ℕ → Option ℤ
timestamp text =
    if slice_index text 10 == 32 then moment (take 10 text) (drop 11 text)
    else if (slice_index text 10 == 84) && ends_in_z text
    then moment (take 10 text) (slice_range text 11 (length text - 1))
    else None
