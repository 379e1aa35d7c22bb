-- Numbers in texts: digits, a sign, a point.
use Rattle.std.specs.Prelude.{ℕ, ◌+◌, ◌-◌, ◌*◌, ◌^◌, ◌==◌, ℤ, pos, neg_ℤ, List, length, take, drop, Bool, ◌&&◌, nat_lt, nat_le, Option, Some, None, option_map, position, if◌then◌else◌}
use Rattle.std.specs.Str.{all_ascii_digits}
use Rattle.std.specs.Str.Parse.{digits_value, starts_with_minus, without_leading_sign}
use Rattle.dm_types.specs.Lanes.{kept_within}
use Rattle.dm_types.specs.Then.{◌>>=◌}

-- the number that one digit or more write, and nothing else
abbrev pub numeral : List ℕ → Option ℕ
numeral text = if nat_lt 0 (length text) && all_ascii_digits text then Some (digits_value 10 text) else None

-- a number, where it is below a bound
abbrev pub below : ℕ → ℕ → Option ℕ
below bound n = if nat_lt n bound then Some n else None

-- the number that digits write, where it is below a bound
abbrev pub numeral_below : ℕ → List ℕ → Option ℕ
numeral_below bound text = numeral text >>= below bound

abbrev pub with_sign : Bool → ℕ → ℤ
with_sign minus n = if minus then neg_ℤ (pos n) else pos n

-- at most one sign, and a size in a form of its own behind it
abbrev pub signed : (List ℕ → Option ℕ) → List ℕ → Option ℤ
signed size text = option_map (with_sign (starts_with_minus text)) (size (without_leading_sign text))

-- an optional sign and digits, where the number has so many bits beside its sign
abbrev pub whole : ℕ → List ℕ → Option ℤ
whole bits text = signed numeral text >>= kept_within bits

-- the digits before a point, of which at most `room` are significant, in units of the last place
abbrev pub front : ℕ → ℕ → List ℕ → Option ℕ
front room places text = do
  n ← numeral_below (10 ^ room) text
  Some (n * 10 ^ places)

-- the digits behind a point, 1 to so many, in units of the last place
abbrev pub fraction : ℕ → List ℕ → Option ℕ
fraction places text = do
  n ← numeral text
  (if nat_le (length text) places then Some (n * 10 ^ (places - length text)) else None)

-- with a point at a place, or none
abbrev pub parted : ℕ → ℕ → List ℕ → Option ℕ → Option ℕ
parted room places text None = front room places text
parted room places text (Some at) = do
  n ← front room places (take at text)
  f ← fraction places (drop (at + 1) text)
  Some (n + f)

-- a number without a sign, with at most so many places behind the point
unfoldable pub fixed_point : ℕ → ℕ → List ℕ → Option ℕ
fixed_point room places text = parted room places text (position (λ c. c == 46) text)

-- an optional sign, digits, and where there is a point 1 to `scale` digits behind it: the unscaled number
abbrev pub decimal_number : ℕ → ℕ → List ℕ → Option ℤ
decimal_number precision scale text = signed (fixed_point (precision - scale) scale) text
