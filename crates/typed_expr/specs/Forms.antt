-- Forms whose parts have types.
use Rattle.std.specs.Prelude.{⊤, ℕ, Bool, not, ◌&&◌, ◌||◌, if◌then◌else◌, List, [], ◌∷◌, map, Option, Some, None, option_map, Result, Ok, Err}
use Rattle.std.specs.List.{fold, list_all}
use Rattle.std.specs.Str.{str_eq_ignore_ascii_case}
use Rattle.std.specs.Prelude.{codes}
use Rattle.std.specs.Option.{option_and_then}
use Rattle.dm_types.specs.declared.value.DataType.{DataType}
use Rattle.dm_types.specs.declared.value.DataType.TheVariants as kind
use Rattle.sql_tree.specs.declared.token.Span.{Span}
use Rattle.sql_tree.specs.declared.tree.Name.{Name}
use Rattle.sql_tree.specs.declared.tree.Operator.{Operator}
use Rattle.sql_tree.specs.declared.tree.Operator.TheVariants as o
use Rattle.sql_tree.specs.declared.tree.Prefix.{Prefix}
use Rattle.sql_tree.specs.declared.tree.Prefix.TheVariants as p
use Rattle.sql_tree.specs.declared.tree.Truth.{Truth}
use Rattle.sql_tree.specs.declared.tree.Truth.TheVariants as t
use Rattle.sql_tree.specs.declared.tree.WrittenKind.{WrittenKind}
use Rattle.sql_tree.specs.declared.tree.WrittenKind.TheVariants as w
use Rattle.sql_tree.specs.declared.tree.WrittenType.{WrittenType}
use Rattle.typed_expr.specs.declared.tree.Op.TheVariants as op
use Rattle.typed_expr.specs.declared.tree.DatePart.{DatePart}
use Rattle.typed_expr.specs.declared.tree.DatePart.TheVariants as part
use Rattle.typed_expr.specs.declared.tree.TypedExpr.{TypedExpr}
use Rattle.typed_expr.specs.declared.tree.TypedExpr.TheVariants as e
use Rattle.typed_expr.specs.declared.choice.Branch.{Branch}
use Rattle.typed_expr.specs.Kinds.{kind_of}
use Rattle.typed_expr.specs.Rules.{Typing, breaks, given, both, ◌>>=◌}
use Rattle.typed_expr.specs.Tables.{is_void, is_condition, is_number, is_string, is_dated, is_same, wanted, stands_for, meets, lines_of, by_lines, common, common_of, is_type, castable, assignable}

-- the value as one of a type: a cast, where it is of another
abbrev pub as_kind : DataType → TypedExpr → TypedExpr
as_kind k x = if is_same k (kind_of x) then x else e.Cast k x

-- NULL as a value of a type; another value as it is
abbrev pub unless_null : DataType → TypedExpr → TypedExpr
unless_null k x = as_kind (stands_for k (kind_of x)) x

abbrev pub is_truth : TypedExpr → Bool
is_truth x = is_condition (kind_of x)

abbrev pub negated : Bool → TypedExpr → TypedExpr
negated not x = if not then e.Not x else x

-- ---- signs and NOT

abbrev pub unary : Prefix → Span → TypedExpr → Typing TypedExpr
unary p.Not place x = if is_truth x then Ok (e.Not (unless_null kind.Boolean x)) else breaks 3 place.start
unary p.Minus place x = if is_number (kind_of x) then Ok (e.Negate (kind_of x) x) else breaks 3 place.start
unary p.Plus place x = if is_number (kind_of x) then Ok x else breaks 3 place.start

-- ---- operators

abbrev pub binary_tree : Operator → DataType → TypedExpr → TypedExpr → TypedExpr
binary_tree o.Or k x y = e.Or x y
binary_tree o.And k x y = e.And x y
binary_tree o.Concat k x y = e.Concat x y
binary_tree o.SameAs k x y = e.SameAs x y
binary_tree o.Equal k x y = e.Binary k op.Equal x y
binary_tree o.NotEqual k x y = e.Binary k op.Unequal x y
binary_tree o.Less k x y = e.Binary k op.Less x y
binary_tree o.LessOrEqual k x y = e.Binary k op.LessEqual x y
binary_tree o.Greater k x y = e.Binary k op.Greater x y
binary_tree o.GreaterOrEqual k x y = e.Binary k op.GreaterEqual x y
binary_tree o.Plus k x y = e.Binary k op.Add x y
binary_tree o.Minus k x y = e.Binary k op.Subtract x y
binary_tree o.Times k x y = e.Binary k op.Multiply x y
binary_tree o.Remainder k x y = e.Binary k op.Remainder x y
binary_tree o.Divide k x y = e.Binary k op.Quotient x y

-- each operand, where it is NULL, as one of the type that it stands for
abbrev pub left_of : Operator → TypedExpr → TypedExpr → TypedExpr
left_of operator x y = unless_null (wanted operator (kind_of y)) x

abbrev pub right_of : Operator → TypedExpr → TypedExpr → TypedExpr
right_of operator x y = unless_null (wanted operator (kind_of x)) y

abbrev pub binary_kind : Operator → DataType → DataType → Result DataType ℕ
binary_kind operator a b =
    by_lines (lines_of operator) (stands_for (wanted operator b) a) (stands_for (wanted operator a) b)

abbrev pub of_rule : {A : Type 0} → ℕ → Result A ℕ → Typing A
of_rule at (Ok a) = Ok a
of_rule at (Err rule) = breaks rule at

abbrev pub binary : Operator → Span → TypedExpr → TypedExpr → Typing TypedExpr
binary operator place x y =
    of_rule place.start (binary_kind operator (kind_of x) (kind_of y)) >>= λ k.
    Ok (binary_tree operator k (left_of operator x y) (right_of operator x y))

-- ---- tests

abbrev pub is_test : Truth → Bool → Span → TypedExpr → Typing TypedExpr
is_test t.Null not place x = Ok (negated not (e.Is t.Null x))
is_test truth not place x =
    if is_truth x then Ok (negated not (e.Is truth (unless_null kind.Boolean x))) else breaks 3 place.start

abbrev pub compares_with : TypedExpr → TypedExpr → Bool
compares_with x y = meets (kind_of x) (kind_of y)

abbrev pub between : Bool → Span → TypedExpr → TypedExpr → TypedExpr → Typing TypedExpr
between not place x low high =
    if compares_with x low && compares_with x high
    then Ok (negated not (e.Between x (unless_null (kind_of x) low) (unless_null (kind_of x) high)))
    else breaks 3 place.start

abbrev pub in_list : Bool → Span → TypedExpr → List TypedExpr → Typing TypedExpr
in_list not place x items =
    if list_all (compares_with x) items
    then Ok (negated not (e.In x (map (unless_null (kind_of x)) items)))
    else breaks 3 place.start

-- ---- choices

-- each condition is BOOLEAN or NULL, else rule 5
abbrev pub condition_holds : Branch → Typing ⊤
condition_holds branch = if is_truth branch.condition then Ok tt else breaks 5 branch.at

abbrev pub Found : Type 0
Found = Typing ⊤

abbrev pub with_condition : Found → Branch → Found
with_condition found branch = both found (condition_holds branch) >>= λ _. Ok tt

abbrev pub conditions : List Branch → Found
conditions branches = fold with_condition (Ok tt) branches

-- with the value of ELSE, if any
abbrev pub with_last : Option TypedExpr → DataType → Option DataType
with_last None k = Some k
with_last (Some x) k = common k (kind_of x)

-- the common type of all values
abbrev pub value_kind : List Branch → Option TypedExpr → Option DataType
value_kind branches otherwise = option_and_then (with_last otherwise) (common_of (map (λ b. kind_of b.value) branches))

abbrev pub typed_branch : DataType → Branch → TypedExpr × TypedExpr
typed_branch k branch = (unless_null kind.Boolean branch.condition, as_kind k branch.value)

abbrev pub choice_of : DataType → List Branch → Option TypedExpr → TypedExpr
choice_of k branches otherwise = e.Case k (map (typed_branch k) branches) (option_map (as_kind k) otherwise)

-- CASE and IF: conditions that aren't BOOLEAN break rule 5, values without a common type break rule 3 at the word
abbrev pub choice_kind : ℕ → List Branch → Option TypedExpr → Typing DataType
choice_kind at branches otherwise =
    both (conditions branches) (given 3 at (value_kind branches otherwise)) >>= λ p. Ok p.1

abbrev pub choice : ℕ → List Branch → Option TypedExpr → Typing TypedExpr
choice at branches otherwise =
    choice_kind at branches otherwise >>= λ k. Ok (choice_of k branches otherwise)

-- ---- casts

abbrev pub cast_as : Span → DataType → TypedExpr → Typing TypedExpr
cast_as place k x = if castable (kind_of x) k then Ok (as_kind k x) else breaks 11 place.start

-- a type that there isn't breaks rule 11 where it stands
abbrev pub cast_to : Span → Span → WrittenKind → TypedExpr → Typing TypedExpr
cast_to place type_place (w.BadDecimal precision scale) x = breaks 11 type_place.start
cast_to place type_place (w.Type k) x = if is_type k then cast_as place k x else breaks 11 type_place.start

abbrev pub cast : Span → WrittenType → TypedExpr → Typing TypedExpr
cast place written x = cast_to place written.span written.kind x

abbrev pub assignment : ℕ → DataType → TypedExpr → Typing TypedExpr
assignment at k x = if assignable (kind_of x) k then Ok (as_kind k x) else breaks 6 at

-- ---- functions

abbrev pub is_function : List ℕ → Name → Bool
is_function word name = str_eq_ignore_ascii_case name.text word

abbrev pub coalesce : ℕ → List TypedExpr → Typing TypedExpr
coalesce at xs = given 3 at (common_of (map kind_of xs)) >>= λ k. Ok (e.Coalesce k (map (as_kind k) xs))

abbrev pub date_part : ℕ → DatePart → TypedExpr → Typing TypedExpr
date_part at wanted_part x =
    if is_dated (kind_of x) || is_void (kind_of x)
    then Ok (e.Part wanted_part (unless_null kind.Date x))
    else breaks 3 at

abbrev pub text_length : ℕ → TypedExpr → Typing TypedExpr
text_length at x =
    if is_string (kind_of x) || is_void (kind_of x) then Ok (e.Length (unless_null kind.Str x)) else breaks 3 at

-- the argument of a function of one
abbrev pub the_one : ℕ → List TypedExpr → Typing TypedExpr
the_one at (x ∷ []) = Ok x
the_one at xs = breaks 13 at

-- the arguments of IF
abbrev pub the_three : ℕ → List TypedExpr → Typing (TypedExpr × (TypedExpr × TypedExpr))
the_three at (c ∷ a ∷ b ∷ []) = Ok (c, (a, b))
the_three at xs = breaks 13 at

-- IF(c, a, b) is CASE WHEN c THEN a ELSE b END
abbrev pub if_of : ℕ → ℕ → TypedExpr × (TypedExpr × TypedExpr) → Typing TypedExpr
if_of at place three =
    choice at (record { at = place; condition = three.0; value = three.1.0 } ∷ []) (Some three.1.1)

-- COALESCE has one argument and more
abbrev pub some_of : ℕ → List TypedExpr → Typing (List TypedExpr)
some_of at [] = breaks 13 at
some_of at (x ∷ xs) = Ok (x ∷ xs)

abbrev pub call_if : ℕ → ℕ → List TypedExpr → Typing TypedExpr
call_if at place xs = the_three at xs >>= if_of at place

abbrev pub call_coalesce : ℕ → List TypedExpr → Typing TypedExpr
call_coalesce at xs = some_of at xs >>= coalesce at

abbrev pub call_part : ℕ → DatePart → List TypedExpr → Typing TypedExpr
call_part at wanted_part xs = the_one at xs >>= date_part at wanted_part

abbrev pub call_length : ℕ → List TypedExpr → Typing TypedExpr
call_length at xs = the_one at xs >>= text_length at

-- a call of a function, whose first argument begins at a place
abbrev pub call_at : ℕ → Name → ℕ → List TypedExpr → Typing TypedExpr
call_at at name place xs =
    if is_function (codes "IF") name then call_if at place xs
    else if is_function (codes "COALESCE") name then call_coalesce at xs
    else if is_function (codes "YEAR") name then call_part at part.Year xs
    else if is_function (codes "MONTH") name then call_part at part.Month xs
    else if is_function (codes "DAY") name then call_part at part.Day xs
    else if is_function (codes "LENGTH") name then call_length at xs
    else breaks 13 at

abbrev pub call : Name → ℕ → List TypedExpr → Typing TypedExpr
call name place xs = call_at name.span.start name place xs
