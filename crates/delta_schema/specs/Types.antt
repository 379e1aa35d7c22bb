-- The types of columns by their names (PROTOCOL.md, "Schema Serialization Format", "Primitive Types").
use Rattle.std.specs.Prelude.{ℕ, ◌+◌, ◌-◌, ◌*◌, Bool, List, [], ◌∷◌, ◌++◌, length, take, drop, Option, Some, None, option_map, codes, decimal, nat_le, not, ◌==◌, ◌&&◌, if◌then◌else◌}
use Rattle.std.specs.List.{position}
use Rattle.std.specs.Map.{lookup}
use Rattle.std.specs.Option.{option_or}
use Rattle.std.specs.Str.{bytes_eq}
use Rattle.serde_json.specs.Data.{Data, null, boolean, number, string, array, object}
use Rattle.dm_types.specs.Then.{◌>>=◌}
use Rattle.dm_types.specs.declared.value.DataType.{DataType}
use Rattle.dm_types.specs.declared.value.DataType.TheVariants as kind

-- the name of a type; `void` is none that a column may have
abbrev pub type_name : DataType → List ℕ
type_name kind.Void = codes "void"
type_name kind.Boolean = codes "boolean"
type_name kind.Byte = codes "byte"
type_name kind.Short = codes "short"
type_name kind.Integer = codes "integer"
type_name kind.Long = codes "long"
type_name (kind.Decimal precision scale) =
    codes "decimal(" ++ decimal precision ++ codes "," ++ decimal scale ++ codes ")"
type_name kind.Str = codes "string"
type_name kind.Binary = codes "binary"
type_name kind.Date = codes "date"
type_name kind.Timestamp = codes "timestamp"

abbrev pub with_name : DataType → List ℕ × DataType
with_name k = (type_name k, k)

-- the types without parameters that a column may have
abbrev pub plain_types : List (List ℕ × DataType)
plain_types =
    with_name kind.Str ∷ with_name kind.Long ∷ with_name kind.Integer ∷ with_name kind.Short ∷ with_name kind.Byte
    ∷ with_name kind.Boolean ∷ with_name kind.Binary ∷ with_name kind.Date ∷ with_name kind.Timestamp ∷ []

-- what stands behind this front
abbrev pub behind : List ℕ → List ℕ → Option (List ℕ)
behind front text = if bytes_eq (take (length front) text) front then Some (drop (length front) text) else None

-- what stands before this end
abbrev pub before : List ℕ → List ℕ → Option (List ℕ)
before end text =
    let rest = length text - length end in
    if bytes_eq (drop rest text) end then Some (take rest text) else None

abbrev pub is_digit : ℕ → Bool
is_digit b = nat_le 48 b && nat_le b 57

-- a number below 100 in its digits, with no zero before them
abbrev pub small_number : List ℕ → Option ℕ
small_number [] = None
small_number (one ∷ []) = if is_digit one then Some (one - 48) else None
small_number (ten ∷ one ∷ []) =
    if is_digit ten && not (ten == 48) && is_digit one then Some (10 * (ten - 48) + (one - 48)) else None
small_number (a ∷ b ∷ c ∷ more) = None

-- a decimal of a precision from 1 to 38 and a scale from 0 to the precision
abbrev pub decimal_type : ℕ → ℕ → Option DataType
decimal_type precision scale =
    if nat_le 1 precision && nat_le precision 38 && nat_le scale precision
    then Some (kind.Decimal precision scale) else None

-- what stands between the brackets of `decimal(..)`
abbrev pub parameters : List ℕ → Option (List ℕ)
parameters text = behind (codes "decimal(") text >>= before (codes ")")

-- what stands before the first comma, and what behind it
abbrev pub halves : List ℕ → Option (List ℕ × List ℕ)
halves text = option_map (λ comma. (take comma text, drop (comma + 1) text)) (position (λ b. b == 44) text)

-- `decimal(p,s)`, in exactly this spelling
abbrev pub decimal_of : List ℕ → Option DataType
decimal_of text = do
  inner ← parameters text
  parts ← halves inner
  precision ← small_number parts.0
  scale ← small_number parts.1
  decimal_type precision scale

-- the type of this name; None is a type that no column may have
unfoldable pub kind_of : List ℕ → Option DataType
kind_of text = option_or (lookup (bytes_eq text) plain_types) (decimal_of text)

-- a type: a name, or an object, which is a nested type that no column may have; None is no type
abbrev pub type_of : Data → Option (Option DataType)
type_of null = None
type_of (boolean b) = None
type_of (number n) = None
type_of (string s) = Some (kind_of s)
type_of (array ds) = None
type_of (object ms) = Some None
