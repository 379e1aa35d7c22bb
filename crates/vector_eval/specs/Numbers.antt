-- Arithmetic. A number is exact, of any size, and is then asked whether it is in the range of its type.
use Rattle.std.specs.Prelude.{ℕ, min, ◌+◌, ◌-◌, ◌/◌, ◌^◌, ℤ, pos, ◌+ℤ◌, ◌-ℤ◌, ◌*ℤ◌, neg_ℤ, int_div, int_rem, unsigned_abs, nat_lt, if◌then◌else◌, Option, Some, None, Result, Ok, Err}
use Rattle.std.specs.Int.{is_negative}
use Rattle.std.specs.Ordering.{int_eq}
use Rattle.dm_types.specs.Lanes.{is_within}
use Rattle.dm_types.specs.Then.{go}
use Rattle.dm_types.specs.declared.value.DataType.{DataType}
use Rattle.dm_types.specs.declared.value.DataType.TheVariants as kind
use Rattle.dm_types.specs.declared.value.Decimal.{Decimal}
use Rattle.dm_types.specs.declared.value.TheConstants.{MAX_PRECISION}
use Rattle.dm_types.specs.declared.value.Value.{Value}
use Rattle.dm_types.specs.declared.value.Value.TheVariants as value
use Rattle.dm_text.specs.Numbers.{with_sign}
use Rattle.typed_expr.specs.Tables.{places}
use Rattle.vector_eval.specs.Outcomes.{Evaluated}
use Rattle.vector_eval.specs.declared.fault.ErrorKind.{ErrorKind}
use Rattle.vector_eval.specs.declared.fault.ErrorKind.TheVariants as error

-- ---- numbers

-- n / 10^s
abbrev pub decimal : ℤ → ℕ → Decimal
decimal n s = record { unscaled = n; scale = s }

-- the number that a value is: a whole number has no places behind the point
abbrev pub number : Value → Option Decimal
number (value.Int n) = Some (decimal n 0)
number (value.Dec d) = Some d
number v = None

-- n / 10^k, where half is rounded away from zero
abbrev pub rounded : ℕ → ℤ → ℤ
rounded k n = with_sign (is_negative n) ((unsigned_abs n + 10 ^ k / 2) / 10 ^ k)

-- a number in units of so many places behind the point: of `-`, which stops at 0, one is 0
abbrev pub at_scale : ℕ → Decimal → ℤ
at_scale s d = rounded (d.scale - s) (d.unscaled *ℤ pos (10 ^ (s - d.scale)))

-- ---- ranges of types

-- a whole number of so many bits beside its sign
abbrev pub whole : ℕ → ℤ → Evaluated
whole bits n = if is_within bits n then Ok (value.Int n) else Err error.Overflow

-- a number of at most so many digits, and never of more than a decimal has
abbrev pub digits_kept : ℕ → ℤ → Result ℤ ErrorKind
digits_kept p n = if nat_lt (unsigned_abs n) (10 ^ min MAX_PRECISION p) then Ok n else Err error.Overflow

-- n / 10^s with at most p digits
abbrev pub fixed : ℕ → ℕ → ℤ → Evaluated
fixed p s n = go (digits_kept p n) λ m. Ok (value.Dec (decimal m s))

-- a number as a value of a type, in units of the type's last place. Other types than numbers never come
abbrev pub in_type : DataType → ℤ → Evaluated
in_type kind.Byte n = whole 7 n
in_type kind.Short n = whole 15 n
in_type kind.Integer n = whole 31 n
in_type kind.Long n = whole 63 n
in_type (kind.Decimal p s) n = fixed p s n
in_type k n = Ok value.Null

-- ---- operators, by the type of what comes out

-- an operand of a sum, in units of the last place of the sum. More digits than a decimal has never come
abbrev pub summand : DataType → Decimal → Result ℤ ErrorKind
summand k d = digits_kept MAX_PRECISION (at_scale (places k) d)

abbrev pub sum : DataType → Decimal → Decimal → Evaluated
sum k a b = go (summand k a) λ x. go (summand k b) λ y. in_type k (x +ℤ y)

abbrev pub difference : DataType → Decimal → Decimal → Evaluated
difference k a b = go (summand k a) λ x. go (summand k b) λ y. in_type k (x -ℤ y)

-- the places of a product are those of both factors
abbrev pub product : DataType → Decimal → Decimal → Evaluated
product k a b = in_type k (a.unscaled *ℤ b.unscaled)

-- of whole numbers, cut towards zero
abbrev pub quotient : DataType → Decimal → Decimal → Evaluated
quotient k a b =
    if int_eq b.unscaled (pos 0) then Err error.DivideByZero else in_type k (int_div a.unscaled b.unscaled)

-- what is left of that division, with the sign of the dividend
abbrev pub remainder : DataType → Decimal → Decimal → Evaluated
remainder k a b =
    if int_eq b.unscaled (pos 0) then Err error.DivideByZero else in_type k (int_rem a.unscaled b.unscaled)

abbrev pub opposite : DataType → Decimal → Evaluated
opposite k a = in_type k (neg_ℤ a.unscaled)

-- an operator on numbers; an operand that is null makes it null
abbrev pub on_number : (Decimal → Evaluated) → Option Decimal → Evaluated
on_number f None = Ok value.Null
on_number f (Some a) = f a

abbrev pub on_numbers : (Decimal → Decimal → Evaluated) → Value → Value → Evaluated
on_numbers f a b = on_number (λ x. on_number (f x) (number b)) (number a)

-- a number with the other sign
abbrev pub negated : DataType → Value → Evaluated
negated k a = on_number (opposite k) (number a)
