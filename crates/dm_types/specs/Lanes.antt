-- Which values are of a type, and how each lane keeps them.
use Rattle.std.specs.Prelude.{◌≡◌, ℕ, ◌^◌, ℤ, pos, negsuc, List, Bool, true, false, nat_lt, Option, Some, None, ⊤, FitsSigned, if◌then◌else◌}
use Rattle.std.specs.Int.{w8, w16, w32, w64}
use Rattle.dm_types.specs.declared.value.DataType.{DataType}
use Rattle.dm_types.specs.declared.value.DataType.TheVariants as kind
use Rattle.dm_types.specs.declared.value.Value.{Value}
use Rattle.dm_types.specs.declared.value.Value.TheVariants as value

-- a value of a type ("Primitive Types"): a whole number is of the type's width, a decimal has the type's scale. Null
-- is of no type
abbrev pub IsOf : DataType → Value → Type 0
IsOf kind.Boolean (value.Bool b) = ⊤
IsOf kind.Byte (value.Int n) = FitsSigned w8 n
IsOf kind.Short (value.Int n) = FitsSigned w16 n
IsOf kind.Integer (value.Int n) = FitsSigned w32 n
IsOf kind.Long (value.Int n) = FitsSigned w64 n
IsOf (kind.Decimal precision scale) (value.Dec d) = d.scale ≡ scale
IsOf kind.Str (value.Text t) = ⊤
IsOf kind.Binary (value.Bytes b) = ⊤
IsOf kind.Date (value.Day n) = FitsSigned w32 n
IsOf kind.Timestamp (value.Micros n) = FitsSigned w64 n
IsOf k v = ⊥

-- what stands in a column of a type: null, or a value of the type
abbrev pub IsNullOrOf : DataType → Value → Type 0
IsNullOrOf k value.Null = ⊤
IsNullOrOf k v = IsOf k v

-- a number of so many bits beside its sign
abbrev pub is_within : ℕ → ℤ → Bool
is_within bits (pos n) = nat_lt n (2 ^ bits)
is_within bits (negsuc n) = nat_lt n (2 ^ bits)

abbrev pub kept_within : ℕ → ℤ → Option ℤ
kept_within bits n = if is_within bits n then Some n else None

-- ---- the types that a lane serves

abbrev pub is_bool : DataType → Bool
is_bool kind.Boolean = true
is_bool kind.Void = true
is_bool k = false

abbrev pub is_byte : DataType → Bool
is_byte kind.Byte = true
is_byte k = false

abbrev pub is_short : DataType → Bool
is_short kind.Short = true
is_short k = false

abbrev pub is_int : DataType → Bool
is_int kind.Integer = true
is_int kind.Date = true
is_int k = false

abbrev pub is_long : DataType → Bool
is_long kind.Long = true
is_long kind.Timestamp = true
is_long k = false

abbrev pub is_decimal : DataType → Bool
is_decimal (kind.Decimal precision scale) = true
is_decimal k = false

abbrev pub is_text : DataType → Bool
is_text kind.Str = true
is_text k = false

abbrev pub is_bytes : DataType → Bool
is_bytes kind.Binary = true
is_bytes k = false

-- ---- the value of what is kept, in a column of a type

abbrev pub int_value : ℤ → DataType → Value
int_value n kind.Date = value.Day n
int_value n k = value.Int n

abbrev pub long_value : ℤ → DataType → Value
long_value n kind.Timestamp = value.Micros n
long_value n k = value.Int n

-- the type says the scale
abbrev pub decimal_value : ℤ → DataType → Value
decimal_value n (kind.Decimal precision scale) = value.Dec (record { unscaled = n; scale = scale })
decimal_value n k = value.Dec (record { unscaled = n; scale = 0 })

-- ---- what is kept of a value

abbrev pub kept_bool : Value → Option Bool
kept_bool (value.Bool b) = Some b
kept_bool v = None

abbrev pub kept_byte : Value → Option ℤ
kept_byte (value.Int n) = kept_within 7 n
kept_byte v = None

abbrev pub kept_short : Value → Option ℤ
kept_short (value.Int n) = kept_within 15 n
kept_short v = None

abbrev pub kept_int : Value → Option ℤ
kept_int (value.Int n) = kept_within 31 n
kept_int (value.Day n) = Some n
kept_int v = None

abbrev pub kept_long : Value → Option ℤ
kept_long (value.Int n) = Some n
kept_long (value.Micros n) = Some n
kept_long v = None

abbrev pub kept_decimal : Value → Option ℤ
kept_decimal (value.Dec d) = Some d.unscaled
kept_decimal v = None

abbrev pub kept_text : Value → Option (List ℕ)
kept_text (value.Text t) = Some t
kept_text v = None

abbrev pub kept_bytes : Value → Option (List ℕ)
kept_bytes (value.Bytes b) = Some b
kept_bytes v = None
