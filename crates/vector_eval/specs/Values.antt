-- The value of a typed expression on one row, a clause for each form. What the clause doesn't apply to the row isn't
-- evaluated; of several errors the first from the left is the expression's.
use Rattle.std.specs.Prelude.{ℕ, false, List, [], ◌∷◌, slice_get, if◌then◌else◌, Option, Some, None, Ok}
use Rattle.std.specs.Ordering.{is_eq, is_ne, is_lt, is_le, is_gt, is_ge}
use Rattle.dm_types.specs.Then.{go}
use Rattle.dm_types.specs.declared.value.DataType.{DataType}
use Rattle.dm_types.specs.declared.value.Value.{Value}
use Rattle.dm_types.specs.declared.value.Value.TheVariants as value
use Rattle.typed_expr.specs.declared.tree.Op.{Op}
use Rattle.typed_expr.specs.declared.tree.Op.TheVariants as op
use Rattle.typed_expr.specs.declared.tree.TypedExpr.{TypedExpr, fold-TypedExpr}
use Rattle.typed_expr.specs.declared.tree.TypedExpr.TheOpen.{TypedExpr-F}
use Rattle.vector_eval.specs.Casts.{cast, date_part, text_length, joined}
use Rattle.vector_eval.specs.Numbers.{on_numbers, sum, difference, product, quotient, remainder, negated}
use Rattle.vector_eval.specs.Outcomes.{Evaluated}
use Rattle.vector_eval.specs.Truths.{is_null, is_true, is_false, is, compared, is_same, denied, both, either}

-- what comes of an expression on each row
abbrev pub OnRow : Type 0
OnRow = List Value → Evaluated

-- ---- columns and operators

-- a column that the row lacks never comes
abbrev pub known : Option Value → Value
known None = value.Null
known (Some v) = v

abbrev pub column : ℕ → List Value → Value
column place row = known (slice_get row place)

abbrev pub binary : Op → DataType → Value → Value → Evaluated
binary op.Add k a b = on_numbers (sum k) a b
binary op.Subtract k a b = on_numbers (difference k) a b
binary op.Multiply k a b = on_numbers (product k) a b
binary op.Quotient k a b = on_numbers (quotient k) a b
binary op.Remainder k a b = on_numbers (remainder k) a b
binary op.Equal k a b = Ok (compared is_eq a b)
binary op.Unequal k a b = Ok (compared is_ne a b)
binary op.Less k a b = Ok (compared is_lt a b)
binary op.LessEqual k a b = Ok (compared is_le a b)
binary op.Greater k a b = Ok (compared is_gt a b)
binary op.GreaterEqual k a b = Ok (compared is_ge a b)

-- ---- forms that stop

-- AND: what stands behind false isn't evaluated
abbrev pub and_then : Value → Evaluated → Evaluated
and_then a b = if is_false a then Ok a else go b λ v. Ok (both a v)

-- OR: what stands behind true isn't evaluated
abbrev pub or_else : Value → Evaluated → Evaluated
or_else a b = if is_true a then Ok a else go b λ v. Ok (either a v)

-- at least the second and at most the third, as AND says it
abbrev pub between : OnRow → OnRow → OnRow → OnRow
between x low high row =
    go (x row) λ a. go (low row) λ b. and_then (compared is_ge a b) (go (high row) λ c. Ok (compared is_le a c))

-- whether an item equals a value, by OR; the items behind the first that does aren't evaluated
abbrev pub among : Value → Value → List OnRow → OnRow
among a found [] row = Ok found
among a found (x ∷ xs) row =
    if is_true found then Ok found else go (x row) λ b. among a (either found (compared is_eq a b)) xs row

-- null is in no list, and then no item is evaluated
abbrev pub in_list : OnRow → List OnRow → OnRow
in_list x items row = go (x row) λ a. if is_null a then Ok value.Null else among a (value.Bool false) items row

-- the value of ELSE, else null
abbrev pub last : Option OnRow → OnRow
last None row = Ok value.Null
last (Some x) row = x row

-- the value behind the first condition that is true, else the last one
abbrev pub chosen : List (OnRow × OnRow) → Option OnRow → OnRow
chosen [] otherwise row = last otherwise row
chosen (branch ∷ branches) otherwise row =
    go (branch.0 row) λ c. if is_true c then branch.1 row else chosen branches otherwise row

-- the first value that isn't null
abbrev pub first_known : List OnRow → OnRow
first_known [] row = Ok value.Null
first_known (x ∷ xs) row = go (x row) λ v. if is_null v then first_known xs row else Ok v

-- ---- all forms

abbrev pub value_at : TypedExpr-F OnRow → OnRow
value_at (TypedExpr-F.Constant k v) row = Ok v
value_at (TypedExpr-F.Column k place) row = Ok (column place row)
value_at (TypedExpr-F.Negate k x) row = go (x row) λ a. negated k a
value_at (TypedExpr-F.Not x) row = go (x row) λ a. Ok (denied a)
value_at (TypedExpr-F.Binary k operator x y) row = go (x row) λ a. go (y row) λ b. binary operator k a b
value_at (TypedExpr-F.SameAs x y) row = go (x row) λ a. go (y row) λ b. Ok (value.Bool (is_same a b))
value_at (TypedExpr-F.And x y) row = go (x row) λ a. and_then a (y row)
value_at (TypedExpr-F.Or x y) row = go (x row) λ a. or_else a (y row)
value_at (TypedExpr-F.Concat x y) row = go (x row) λ a. go (y row) λ b. Ok (joined a b)
value_at (TypedExpr-F.Is truth x) row = go (x row) λ a. Ok (value.Bool (is truth a))
value_at (TypedExpr-F.Between x low high) row = between x low high row
value_at (TypedExpr-F.In x items) row = in_list x items row
value_at (TypedExpr-F.Case k branches otherwise) row = chosen branches otherwise row
value_at (TypedExpr-F.Coalesce k xs) row = first_known xs row
value_at (TypedExpr-F.Cast k x) row = go (x row) λ a. cast k a
value_at (TypedExpr-F.Part wanted x) row = go (x row) λ a. date_part wanted a
value_at (TypedExpr-F.Length x) row = go (x row) λ a. text_length a

-- the value of an expression on a row, or the kind of its first error
abbrev pub value_of : TypedExpr → OnRow
value_of = fold-TypedExpr OnRow value_at
