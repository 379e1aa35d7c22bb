-- What an expression comes to over a scope.
use Rattle.std.specs.Prelude.{ℕ, ◌∷◌, [], ◌++◌, if◌then◌else◌, List, map, Option, Some, None, Ok}
use Rattle.dm_types.specs.declared.value.DataType.{DataType}
use Rattle.sql_tree.specs.declared.tree.Expr.{Expr, fold-Expr}
use Rattle.sql_tree.specs.declared.tree.Expr.TheOpen.{Expr-F}
use Rattle.sql_tree.specs.declared.tree.Operator.TheVariants as o
use Rattle.sql_tree.specs.Spans.{span_of}
use Rattle.typed_expr.specs.declared.scope.ScopeColumn.{ScopeColumn}
use Rattle.typed_expr.specs.declared.choice.Branch.{Branch}
use Rattle.typed_expr.specs.declared.tree.TypedExpr.{TypedExpr, out-TypedExpr}
use Rattle.typed_expr.specs.declared.tree.TypedExpr.TheOpen.{TypedExpr-F}
use Rattle.typed_expr.specs.Rules.{Typing, ◌>>=◌, both, all, breaks}
use Rattle.typed_expr.specs.Literals.{literal}
use Rattle.typed_expr.specs.Columns.{column}
use Rattle.typed_expr.specs.Forms as form

-- a part of an expression: where it begins, and what it comes to
pub record Part : Type 0 where
  pub start : ℕ
  pub typing : Typing TypedExpr

abbrev pub branch_of : Part × Part → Typing Branch
branch_of branch =
    both branch.0.typing branch.1.typing >>= λ p.
    Ok (record { at = branch.0.start; condition = p.0; value = p.1 })

abbrev pub otherwise_of : Option Part → Typing (Option TypedExpr)
otherwise_of None = Ok None
otherwise_of (Some part) = part.typing >>= λ x. Ok (Some x)

-- where the first argument begins
abbrev pub first_start : List Part → ℕ
first_start [] = 0
first_start (part ∷ parts) = part.start

-- a form over its parts. A form with a part that doesn't type has no fault of its own
abbrev pub form_of : List ScopeColumn → Expr-F Part → Typing TypedExpr
form_of scope (Expr-F.Literal span value) = literal span value
form_of scope (Expr-F.Column span qualifier name) = column scope span qualifier name
form_of scope (Expr-F.Group span inner) = inner.typing
form_of scope (Expr-F.Unary span prefix place x) = x.typing >>= form.unary prefix place
form_of scope (Expr-F.Binary span operator place x y) =
    both x.typing y.typing >>= λ p. form.binary operator place p.0 p.1
form_of scope (Expr-F.Is span truth not place x) = x.typing >>= form.is_test truth not place
form_of scope (Expr-F.Between span not place x low high) =
    both x.typing (both low.typing high.typing) >>= λ p. form.between not place p.0 p.1.0 p.1.1
form_of scope (Expr-F.In span not place x items) =
    both x.typing (all (map (λ i. i.typing) items)) >>= λ p. form.in_list not place p.0 p.1
form_of scope (Expr-F.Case span place branches otherwise) =
    both (all (map branch_of branches)) (otherwise_of otherwise) >>= λ p. form.choice place.start p.0 p.1
form_of scope (Expr-F.Cast span place x written) = x.typing >>= form.cast place written
form_of scope (Expr-F.Call span function arguments) =
    all (map (λ a. a.typing) arguments) >>= form.call function (first_start arguments)

abbrev pub start_of : Expr-F Part → ℕ
start_of (Expr-F.Literal span value) = span.start
start_of (Expr-F.Column span qualifier name) = span.start
start_of (Expr-F.Group span inner) = span.start
start_of (Expr-F.Unary span prefix place x) = span.start
start_of (Expr-F.Binary span operator place x y) = span.start
start_of (Expr-F.Is span truth not place x) = span.start
start_of (Expr-F.Between span not place x low high) = span.start
start_of (Expr-F.In span not place x items) = span.start
start_of (Expr-F.Case span place branches otherwise) = span.start
start_of (Expr-F.Cast span place x written) = span.start
start_of (Expr-F.Call span function arguments) = span.start

abbrev pub part_of : List ScopeColumn → Expr-F Part → Part
part_of scope layer = record { start = start_of layer; typing = form_of scope layer }

-- the expression, at each of its nodes
abbrev pub parted : List ScopeColumn → Expr → Part
parted scope = fold-Expr Part (part_of scope)

-- the tree of an expression over a scope, or all that is broken in it
abbrev pub typing : List ScopeColumn → Expr → Typing TypedExpr
typing scope x = (parted scope x).typing

-- ---- conditions and assignments

abbrev pub operands_of : (TypedExpr → List TypedExpr) → (TypedExpr → List TypedExpr) → TypedExpr
    → TypedExpr-F TypedExpr → List TypedExpr
operands_of x y tree (TypedExpr-F.And a b) = x a ++ y b
operands_of x y tree layer = tree ∷ []

-- the operands of the chain of ANDs at the top, from the left. What stands in brackets is one of them
abbrev pub chained : Expr-F (TypedExpr → List TypedExpr) → TypedExpr → List TypedExpr
chained (Expr-F.Binary span o.And place x y) tree = operands_of x y tree (out-TypedExpr tree)
chained layer tree = tree ∷ []

abbrev pub conjuncts : Expr → TypedExpr → List TypedExpr
conjuncts = fold-Expr (TypedExpr → List TypedExpr) chained

-- a condition is BOOLEAN or NULL, else rule 5
abbrev pub condition : List ScopeColumn → Expr → Typing (List TypedExpr)
condition scope x =
    typing scope x >>= λ tree. if form.is_truth tree then Ok (conjuncts x tree) else breaks 5 (span_of x).start

abbrev pub assigned : List ScopeColumn → Expr → DataType → Typing TypedExpr
assigned scope x k = typing scope x >>= form.assignment (span_of x).start k
