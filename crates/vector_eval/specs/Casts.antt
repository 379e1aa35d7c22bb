-- Casts, and functions of one value.
use Rattle.std.specs.Prelude.{ℕ, ◌^◌, ℤ, pos, ◌*ℤ◌, int_div, unsigned_abs, List, length, ◌++◌, Bool, true, ◌&&◌, nat_lt, nat_le, if◌then◌else◌, Option, Some, None, Ok, Err}
use Rattle.std.specs.Str.{is_utf8, chars}
use Rattle.dm_types.specs.Ranges.{is_day, day_part}
use Rattle.dm_types.specs.declared.value.DataType.{DataType}
use Rattle.dm_types.specs.declared.value.DataType.TheVariants as kind
use Rattle.dm_types.specs.declared.value.Decimal.{Decimal}
use Rattle.dm_types.specs.declared.value.TheConstants.{MAX_PRECISION, DAY_MICROS}
use Rattle.dm_types.specs.declared.value.Value.{Value}
use Rattle.dm_types.specs.declared.value.Value.TheVariants as value
use Rattle.dm_text.specs.Calendar.{year_of, month_of, day_of}
use Rattle.dm_text.specs.Printing.{printed}
use Rattle.dm_text.specs.Reading.{text_value}
use Rattle.typed_expr.specs.Tables.{is_type}
use Rattle.typed_expr.specs.declared.tree.DatePart.{DatePart}
use Rattle.typed_expr.specs.declared.tree.DatePart.TheVariants as part
use Rattle.vector_eval.specs.Numbers.{decimal, at_scale, in_type, fixed}
use Rattle.vector_eval.specs.Outcomes.{Evaluated}
use Rattle.vector_eval.specs.declared.fault.ErrorKind.TheVariants as error

-- ---- what never comes

-- in the range of some type, as each value of a row is
abbrev pub is_ranged : Value → Bool
is_ranged (value.Dec d) = nat_lt (unsigned_abs d.unscaled) (10 ^ MAX_PRECISION) && nat_le d.scale MAX_PRECISION
is_ranged (value.Day n) = is_day n
is_ranged (value.Micros n) = is_day (day_part n)
is_ranged v = true

-- ---- casts

-- to a whole number cut towards zero, to a decimal with half rounded away from zero
abbrev pub number_as : DataType → Decimal → Evaluated
number_as (kind.Decimal p s) d = fixed p s (at_scale s d)
number_as k d = in_type k (int_div d.unscaled (pos (10 ^ d.scale)))

abbrev pub read : Option Value → Evaluated
read None = Err error.BadCast
read (Some v) = Ok v

-- the bytes of a text, and else what the text reads as
abbrev pub text_as : DataType → List ℕ → Evaluated
text_as kind.Binary t = Ok (value.Bytes t)
text_as k t = if is_type k then read (text_value k t) else Ok value.Null

-- the text that bytes spell in UTF-8
abbrev pub spelled : List ℕ → Evaluated
spelled b = if is_utf8 b then Ok (value.Text b) else Err error.BadCast

-- as values are printed, but bytes as the text that they spell
abbrev pub as_text : Value → Evaluated
as_text value.Null = Ok value.Null
as_text (value.Text t) = Ok (value.Text t)
as_text (value.Bytes b) = spelled b
as_text v = spelled (printed v)

-- a day is its midnight, a moment its day
abbrev pub converted : DataType → Value → Evaluated
converted kind.Str v = as_text v
converted k (value.Text t) = text_as k t
converted k (value.Int n) = number_as k (decimal n 0)
converted k (value.Dec d) = number_as k d
converted kind.Timestamp (value.Day n) = Ok (value.Micros (n *ℤ DAY_MICROS))
converted kind.Date (value.Micros n) = Ok (value.Day (day_part n))
converted k v = Ok value.Null

abbrev pub cast : DataType → Value → Evaluated
cast k v = if is_ranged v then converted k v else Ok value.Null

-- ---- functions

abbrev pub part_number : DatePart → ℤ → ℕ
part_number part.Year n = year_of n
part_number part.Month n = month_of n
part_number part.Day n = day_of n

-- a part of a day of the calendar, as an INT
abbrev pub day_number : DatePart → ℤ → Evaluated
day_number p n = if is_day n then in_type kind.Integer (pos (part_number p n)) else Ok value.Null

-- YEAR, MONTH, DAY
abbrev pub date_part : DatePart → Value → Evaluated
date_part p (value.Day n) = day_number p n
date_part p (value.Micros n) = day_number p (day_part n)
date_part p v = Ok value.Null

-- the number of characters
abbrev pub text_length : Value → Evaluated
text_length (value.Text t) = in_type kind.Integer (pos (length (chars t)))
text_length v = Ok value.Null

abbrev pub joined_text : List ℕ → List ℕ → Value
joined_text a b = value.Text (a ++ b)

-- one text behind the other
abbrev pub joined : Value → Value → Value
joined (value.Text a) (value.Text b) = joined_text a b
joined a b = value.Null
