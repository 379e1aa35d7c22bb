-- How the answer of a call is taken apart: what private functions do.
use Rattle.std.specs.Prelude.{Bool, List, map, Option, option_map}
use Rattle.sql_tree.specs.declared.token.Span.{Span}
use Rattle.sql_tree.specs.declared.tree.Expr.{Expr}
use Rattle.sql_tree.specs.declared.tree.Name.{Name}
use Rattle.sql_tree.specs.declared.tree.Operator.{Operator}
use Rattle.sql_tree.specs.declared.tree.Prefix.{Prefix}
use Rattle.sql_tree.specs.declared.tree.Truth.{Truth}
use Rattle.sql_tree.specs.declared.tree.WrittenType.{WrittenType}
use Rattle.typed_expr.specs.declared.choice.Branch.{Branch}
use Rattle.typed_expr.specs.declared.scope.ScopeColumn.{ScopeColumn}
use Rattle.typed_expr.specs.declared.tree.TypedExpr.{TypedExpr}
use Rattle.typed_expr.specs.Forms as form
use Rattle.typed_expr.specs.Judging.{first_at}
use Rattle.typed_expr.specs.Rules.{Typing, both, all, ◌>>=◌}
use Rattle.typed_expr.specs.Typing.{typing, parted, branch_of, otherwise_of}

-- ---- a form of an expression over what its parts come to

abbrev pub unary_of : List ScopeColumn → Prefix → Span → Expr → Typing TypedExpr
unary_of scope prefix place x = typing scope x >>= form.unary prefix place

abbrev pub binary_of : List ScopeColumn → Operator → Span → Expr → Expr → Typing TypedExpr
binary_of scope operator place x y =
    both (typing scope x) (typing scope y) >>= λ p. form.binary operator place p.0 p.1

abbrev pub is_of : List ScopeColumn → Truth → Bool → Span → Expr → Typing TypedExpr
is_of scope truth not place x = typing scope x >>= form.is_test truth not place

abbrev pub between_of : List ScopeColumn → Bool → Span → Expr → Expr → Expr → Typing TypedExpr
between_of scope not place x low high =
    both (typing scope x) (both (typing scope low) (typing scope high)) >>= λ p. form.between not place p.0 p.1.0 p.1.1

abbrev pub in_of : List ScopeColumn → Bool → Span → Expr → List Expr → Typing TypedExpr
in_of scope not place x items =
    both (typing scope x) (all (map (typing scope) items)) >>= λ p. form.in_list not place p.0 p.1

abbrev pub typed_branch : List ScopeColumn → Expr × Expr → Typing Branch
typed_branch scope branch = branch_of (parted scope branch.0, parted scope branch.1)

abbrev pub typed_last : List ScopeColumn → Option Expr → Typing (Option TypedExpr)
typed_last scope otherwise = otherwise_of (option_map (parted scope) otherwise)

abbrev pub parts_of_case : List ScopeColumn → List (Expr × Expr) → Option Expr → Typing (List Branch × Option TypedExpr)
parts_of_case scope branches otherwise = both (all (map (typed_branch scope) branches)) (typed_last scope otherwise)

abbrev pub case_of : List ScopeColumn → Span → List (Expr × Expr) → Option Expr → Typing TypedExpr
case_of scope place branches otherwise =
    parts_of_case scope branches otherwise >>= λ p. form.choice place.start p.0 p.1

abbrev pub cast_of : List ScopeColumn → Span → WrittenType → Expr → Typing TypedExpr
cast_of scope place written x = typing scope x >>= form.cast place written

abbrev pub call_of : List ScopeColumn → Name → List Expr → Typing TypedExpr
call_of scope function arguments =
    all (map (typing scope) arguments) >>= form.call function (first_at arguments)
