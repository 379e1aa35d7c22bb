-- What private functions do on the way.
use Rattle.std.specs.Prelude.{◌≡◌, ⊤, ℕ, All, slice_get, ℤ, pos, ◌^◌, ◌*ℤ◌, int_div, List, if◌then◌else◌, Option, Some, None, Result, Ok, Err}
use Rattle.dm_types.specs.declared.value.DataType.{DataType}
use Rattle.dm_types.specs.declared.value.Decimal.{Decimal}
use Rattle.dm_types.specs.declared.value.TheConstants.{DAY_MICROS}
use Rattle.dm_types.specs.declared.value.Value.{Value}
use Rattle.dm_types.specs.declared.value.Value.TheVariants as value
use Rattle.typed_expr.specs.Tables.{is_number}
use Rattle.typed_expr.specs.declared.tree.Op.{Op}
use Rattle.typed_expr.specs.declared.tree.Op.TheVariants as op
use Rattle.typed_expr.specs.declared.tree.DatePart.{DatePart}
use Rattle.typed_expr.specs.declared.tree.TypedExpr.{TypedExpr}
use Rattle.typed_expr.specs.declared.tree.TypedExpr.TheOpen.{TypedExpr-F}
use Rattle.sql_tree.specs.declared.tree.Truth.{Truth}
use Rattle.std.specs.Ordering.{is_le}
use Rattle.dm_types.specs.Then.{go}
use Rattle.vector_eval.specs.Numbers.{number, in_type, sum, difference, product, quotient, remainder}
use Rattle.vector_eval.specs.Outcomes.{Evaluated}
use Rattle.vector_eval.specs.Truths.{compared}
use Rattle.vector_eval.specs.Values.{OnRow, value_of, value_at, and_then}
use Rattle.column_vectors.specs.Cells.{Cells}
use Rattle.dm_types.specs.Lanes.{IsNullOrOf}
use Rattle.std.specs.declared.alloc.AllocError.{AllocError}
use Rattle.vector_eval.specs.declared.fault.ErrorKind.{ErrorKind}
use Rattle.vector_eval.specs.declared.fault.ErrorKind.TheVariants as error
use Rattle.vector_eval.specs.declared.fault.EvalFault.{EvalFault}
use Rattle.vector_eval.specs.declared.fault.EvalFault.TheVariants as fault
use Rattle.vector_eval.specs.declared.found.Found.{Found}
use Rattle.vector_eval.specs.declared.found.Found.TheVariants as found
use Rattle.vector_eval.specs.declared.found.Line.{Line}
use Rattle.vector_eval.specs.declared.found.Line.TheVariants as lines
use Rattle.vector_eval.specs.Rows.{row_at}

-- ---- numbers

-- what comes of a number past every range
abbrev pub past : DataType → Evaluated
past k = if is_number k then Err error.Overflow else Ok value.Null

abbrev pub counted : DataType → Option ℤ → Evaluated
counted k None = past k
counted k (Some n) = in_type k n

-- cut towards zero
abbrev pub truncated : Decimal → ℤ
truncated d = int_div d.unscaled (pos (10 ^ d.scale))

-- both numbers
abbrev pub with_second : Decimal → Option Decimal → Option (Decimal × Decimal)
with_second a None = None
with_second a (Some b) = Some (a, b)

abbrev pub with_first : Option Decimal → Value → Option (Decimal × Decimal)
with_first None b = None
with_first (Some a) b = with_second a (number b)

abbrev pub numbers : Value → Value → Option (Decimal × Decimal)
numbers a b = with_first (number a) b

abbrev pub calculated : Op → DataType → Decimal → Decimal → Evaluated
calculated op.Add = sum
calculated op.Subtract = difference
calculated op.Multiply = product
calculated op.Quotient = quotient
calculated op.Remainder = remainder
calculated operator = λ k a b. Ok value.Null

abbrev pub of_pair : (Decimal → Decimal → Evaluated) → Option (Decimal × Decimal) → Evaluated
of_pair f None = Ok value.Null
of_pair f (Some p) = f p.0 p.1

abbrev pub arithmetic : Op → DataType → Value → Value → Evaluated
arithmetic operator k a b = of_pair (calculated operator k) (numbers a b)

-- ---- casts

abbrev pub midnight : ℤ → ℤ
midnight n = n *ℤ DAY_MICROS

-- ---- values that are lent

abbrev pub shown : Found → Value
shown (found.Lent v) = v.now
shown (found.Made v) = v

abbrev pub line : Line → List Value
line (lines.Values values) = values.now
line (lines.Cells columns row) = row_at columns.now row

-- a call lends what comes of it; want of memory is free
abbrev pub Lends : Evaluated → Result Found EvalFault → Type 0
Lends outcome (Ok f) = outcome ≡ Ok (shown f)
Lends outcome (Err (fault.Kind k)) = outcome ≡ Err k
Lends outcome (Err fault.Memory) = ⊤

-- a branch of CASE
abbrev pub branch_of : TypedExpr × TypedExpr → OnRow × OnRow
branch_of b = (value_of b.0, value_of b.1)

-- ---- forms over expressions

abbrev pub negate_of : DataType → TypedExpr → OnRow
negate_of k x = value_at (TypedExpr-F.Negate k (value_of x))

abbrev pub not_of : TypedExpr → OnRow
not_of x = value_at (TypedExpr-F.Not (value_of x))

abbrev pub binary_of : DataType → Op → TypedExpr → TypedExpr → OnRow
binary_of k operator x y = value_at (TypedExpr-F.Binary k operator (value_of x) (value_of y))

abbrev pub same_of : TypedExpr → TypedExpr → OnRow
same_of x y = value_at (TypedExpr-F.SameAs (value_of x) (value_of y))

abbrev pub and_of : TypedExpr → TypedExpr → OnRow
and_of x y = value_at (TypedExpr-F.And (value_of x) (value_of y))

abbrev pub or_of : TypedExpr → TypedExpr → OnRow
or_of x y = value_at (TypedExpr-F.Or (value_of x) (value_of y))

abbrev pub concat_of : TypedExpr → TypedExpr → OnRow
concat_of x y = value_at (TypedExpr-F.Concat (value_of x) (value_of y))

abbrev pub is_of : Truth → TypedExpr → OnRow
is_of truth x = value_at (TypedExpr-F.Is truth (value_of x))

abbrev pub upper_of : Value → Value → TypedExpr → OnRow
upper_of first a high row = and_then first (go (value_of high row) λ c. Ok (compared is_le a c))

abbrev pub cast_of : DataType → TypedExpr → OnRow
cast_of k x = value_at (TypedExpr-F.Cast k (value_of x))

abbrev pub part_of : DatePart → TypedExpr → OnRow
part_of wanted x = value_at (TypedExpr-F.Part wanted (value_of x))

abbrev pub length_of : TypedExpr → OnRow
length_of x = value_at (TypedExpr-F.Length (value_of x))

-- ---- rows of columns

-- an answer apart from want of memory
abbrev pub split_of : {A : Type 0} → Result A EvalFault → Result (Result A ErrorKind) AllocError
split_of (Ok a) = Ok (Ok a)
split_of (Err (fault.Kind k)) = Ok (Err k)
split_of (Err fault.Memory) = Err (record {})

-- each column has values of its type
abbrev pub AreTyped : List Cells → Type 0
AreTyped columns = (place : ℕ) (c : Cells) → slice_get columns place ≡ Some c → All (IsNullOrOf c.kind) c.values
