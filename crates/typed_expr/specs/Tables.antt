-- The tables of types: what operators and casts take, and what they give.
use Rattle.std.specs.Prelude.{ℕ, max, ◌+◌, ◌-◌, Bool, true, false, not, ◌&&◌, ◌||◌, nat_lt, nat_le, ◌==◌, if◌then◌else◌, List, [], ◌∷◌, Option, Some, None, Result, Ok, Err}
use Rattle.std.specs.List.{fold}
use Rattle.std.specs.Option.{option_and_then}
use Rattle.dm_types.specs.declared.value.DataType.{DataType}
use Rattle.dm_types.specs.declared.value.DataType.TheVariants as kind
use Rattle.dm_types.specs.declared.value.TheConstants.{MAX_PRECISION}
use Rattle.sql_tree.specs.declared.tree.Operator.{Operator}
use Rattle.sql_tree.specs.declared.tree.Operator.TheVariants as o

-- ---- types

abbrev pub is_void : DataType → Bool
is_void kind.Void = true
is_void k = false

abbrev pub is_boolean : DataType → Bool
is_boolean kind.Boolean = true
is_boolean k = false

-- what a condition may be: BOOLEAN or NULL
abbrev pub is_condition : DataType → Bool
is_condition k = is_boolean k || is_void k

abbrev pub is_string : DataType → Bool
is_string kind.Str = true
is_string k = false

abbrev pub is_binary : DataType → Bool
is_binary kind.Binary = true
is_binary k = false

-- DATE or TIMESTAMP
abbrev pub is_dated : DataType → Bool
is_dated kind.Date = true
is_dated kind.Timestamp = true
is_dated k = false

-- TINYINT, SMALLINT, INT or BIGINT
abbrev pub is_integer : DataType → Bool
is_integer kind.Byte = true
is_integer kind.Short = true
is_integer kind.Integer = true
is_integer kind.Long = true
is_integer k = false

abbrev pub is_decimal : DataType → Bool
is_decimal (kind.Decimal p s) = true
is_decimal k = false

abbrev pub is_number : DataType → Bool
is_number k = is_integer k || is_decimal k

abbrev pub is_same : DataType → DataType → Bool
is_same kind.Void kind.Void = true
is_same kind.Boolean kind.Boolean = true
is_same kind.Byte kind.Byte = true
is_same kind.Short kind.Short = true
is_same kind.Integer kind.Integer = true
is_same kind.Long kind.Long = true
is_same (kind.Decimal p s) (kind.Decimal q t) = (p == q) && (s == t)
is_same kind.Str kind.Str = true
is_same kind.Binary kind.Binary = true
is_same kind.Date kind.Date = true
is_same kind.Timestamp kind.Timestamp = true
is_same a b = false

-- a type that there is: a decimal has 1 to 38 digits, and no more of them behind the point
abbrev pub is_type : DataType → Bool
is_type (kind.Decimal p s) = nat_le 1 p && nat_le p MAX_PRECISION && nat_le s p
is_type k = true

-- ---- numbers as decimals

-- the digits of a number of the type: TINYINT, SMALLINT, INT and BIGINT have 3, 5, 10 and 19
abbrev pub digits : DataType → ℕ
digits kind.Byte = 3
digits kind.Short = 5
digits kind.Integer = 10
digits kind.Long = 19
digits (kind.Decimal p s) = p
digits k = 0

-- those behind the point
abbrev pub places : DataType → ℕ
places (kind.Decimal p s) = s
places k = 0

-- those before it
abbrev pub whole_digits : DataType → ℕ
whole_digits k = digits k - places k

-- a decimal type, where there is one
abbrev pub decimal : ℕ → ℕ → Option DataType
decimal p s = if is_type (kind.Decimal p s) then Some (kind.Decimal p s) else None

-- of two integer types the one of more digits
abbrev pub wider : DataType → DataType → DataType
wider a b = if nat_lt (digits a) (digits b) then b else a

abbrev pub sum_type : DataType → DataType → Option DataType
sum_type a b =
    decimal (max (whole_digits a) (whole_digits b) + max (places a) (places b) + 1) (max (places a) (places b))

abbrev pub product_type : DataType → DataType → Option DataType
product_type a b = decimal (digits a + digits b) (places a + places b)

-- the type that holds the numbers of both
abbrev pub joint_type : DataType → DataType → Option DataType
joint_type a b = decimal (max (whole_digits a) (whole_digits b) + max (places a) (places b)) (max (places a) (places b))

-- ---- the common type of two

abbrev pub common : DataType → DataType → Option DataType
common a b =
    if is_same a b then Some a
    else if is_void a then Some b
    else if is_void b then Some a
    else if is_integer a && is_integer b then Some (wider a b)
    else if is_number a && is_number b then joint_type a b
    else None

-- the type that is common so far, and of one more
abbrev pub with_kind : Option DataType → DataType → Option DataType
with_kind joint k = option_and_then (λ j. common j k) joint

-- the common type of a list; of no type it is that of NULL
abbrev pub common_of : List DataType → Option DataType
common_of kinds = fold with_kind (Some kind.Void) kinds

-- ---- operators on two operands

-- NULL stands for the other operand's type, in AND and OR for BOOLEAN, in || for STRING
abbrev pub wanted : Operator → DataType → DataType
wanted o.Or other = kind.Boolean
wanted o.And other = kind.Boolean
wanted o.Concat other = kind.Str
wanted operator other = other

abbrev pub stands_for : DataType → DataType → DataType
stands_for place k = if is_void k then place else k

-- two numbers, or two values of one type
abbrev pub are_comparable : DataType → DataType → Bool
are_comparable a b = (is_number a && is_number b) || is_same a b

-- .. where NULL compares with each
abbrev pub meets : DataType → DataType → Bool
meets a b = is_void a || is_void b || are_comparable a b

abbrev pub are_integers : DataType → DataType → Bool
are_integers a b = is_integer a && is_integer b

-- a decimal and a decimal or integer type, in either order
abbrev pub have_decimal : DataType → DataType → Bool
have_decimal a b = is_number a && is_number b && (is_decimal a || is_decimal b)

abbrev pub are_strings : DataType → DataType → Bool
are_strings a b = is_string a && is_string b

abbrev pub are_booleans : DataType → DataType → Bool
are_booleans a b = is_boolean a && is_boolean b

-- a line of the table: the operands that it is for, and the type of what comes out, where that is one
pub record Line : Type 0 where
  pub takes : DataType → DataType → Bool
  pub gives : DataType → DataType → Option DataType

abbrev pub line : (DataType → DataType → Bool) → (DataType → DataType → Option DataType) → Line
line takes gives = record { takes = takes; gives = gives }

abbrev pub always : DataType → DataType → DataType → Option DataType
always k a b = Some k

abbrev pub the_wider : DataType → DataType → Option DataType
the_wider a b = Some (wider a b)

abbrev pub lines_of : Operator → List Line
lines_of o.Plus = line are_integers the_wider ∷ line have_decimal sum_type ∷ []
lines_of o.Minus = line are_integers the_wider ∷ line have_decimal sum_type ∷ []
lines_of o.Times = line are_integers the_wider ∷ line have_decimal product_type ∷ []
lines_of o.Divide = line are_integers (always kind.Long) ∷ []
lines_of o.Remainder = line are_integers the_wider ∷ []
lines_of o.Concat = line are_strings (always kind.Str) ∷ []
lines_of o.Or = line are_booleans (always kind.Boolean) ∷ []
lines_of o.And = line are_booleans (always kind.Boolean) ∷ []
lines_of comparison = line are_comparable (always kind.Boolean) ∷ []

-- a type that isn't there breaks rule 4, that a precision is at most 38
abbrev pub kept : Option DataType → Result DataType ℕ
kept None = Err 4
kept (Some k) = Ok k

-- the type by the first line that takes the operands, or the broken rule: 3 where there is none
abbrev pub by_lines : List Line → DataType → DataType → Result DataType ℕ
by_lines [] a b = Err 3
by_lines (l ∷ ls) a b = if l.takes a b then kept (l.gives a b) else by_lines ls a b

-- ---- casts

-- what CAST allows
abbrev pub castable : DataType → DataType → Bool
castable from to =
    is_same from to || is_void from || (is_number from && is_number to)
    || (is_string from || is_string to) || is_dated from && is_dated to

-- what an assignment allows: a cast, but no text as another type, and no bytes as a text
abbrev pub assignable : DataType → DataType → Bool
assignable from to = is_same from to || castable from to && not (is_string from) && not (is_binary from)
