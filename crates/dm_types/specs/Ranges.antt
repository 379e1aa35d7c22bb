-- Which types are well formed, and the ranges of values.
use Rattle.std.specs.Prelude.{◌^◌, ◌<◌, ◌≤◌, ℤ, pos, ◌≤ℤ◌, int_le, ◌&&◌, Bool, unsigned_abs, ⊤}
use Rattle.std.specs.Int.{int_div_euclid}
use Rattle.std.specs.Str.{IsUtf8}
use Rattle.dm_types.specs.declared.value.DataType.{DataType}
use Rattle.dm_types.specs.declared.value.DataType.TheVariants as kind
use Rattle.dm_types.specs.declared.value.Value.{Value}
use Rattle.dm_types.specs.declared.value.Value.TheVariants as value
use Rattle.dm_types.specs.Lanes.{IsOf}
use Rattle.dm_types.specs.declared.value.TheConstants.{MAX_PRECISION, FIRST_DAY, LAST_DAY, DAY_MICROS}

-- a decimal type has a precision from 1 to the greatest and a scale from 0 to its precision
abbrev pub IsWellFormed : DataType → Type 0
IsWellFormed (kind.Decimal precision scale) = (1 ≤ precision) × (precision ≤ MAX_PRECISION) × (scale ≤ precision)
IsWellFormed k = ⊤

-- a day from 0001-01-01 to 9999-12-31
abbrev pub IsDay : ℤ → Type 0
IsDay n = (FIRST_DAY ≤ℤ n) × (n ≤ℤ LAST_DAY)

abbrev pub is_day : ℤ → Bool
is_day n = int_le FIRST_DAY n && int_le n LAST_DAY

-- the day of a moment
abbrev pub day_part : ℤ → ℤ
day_part n = int_div_euclid n DAY_MICROS

-- what the type says of its values beside their kind
abbrev pub IsWithin : DataType → Value → Type 0
IsWithin (kind.Decimal precision scale) (value.Dec d) = unsigned_abs d.unscaled < 10 ^ precision
IsWithin kind.Date (value.Day n) = IsDay n
IsWithin kind.Timestamp (value.Micros n) = IsDay (day_part n)
IsWithin k v = ⊤

-- a value of a type and in its range
abbrev pub IsInRange : DataType → Value → Type 0
IsInRange k v = IsWellFormed k × IsOf k v × IsWithin k v

-- the same, or null
abbrev pub IsNullOrInRange : DataType → Value → Type 0
IsNullOrInRange k value.Null = ⊤
IsNullOrInRange k v = IsInRange k v

-- the day of a date or a moment, and day 0 of other values
abbrev pub the_day : Value → ℤ
the_day (value.Day n) = n
the_day (value.Micros n) = day_part n
the_day v = pos 0

-- texts are UTF-8
abbrev pub IsText : Value → Type 0
IsText (value.Text t) = IsUtf8 t
IsText v = ⊤
