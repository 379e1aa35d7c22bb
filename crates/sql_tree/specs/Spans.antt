-- Where expressions stand.
use Rattle.sql_tree.specs.declared.token.Span.{Span}
use Rattle.sql_tree.specs.declared.tree.Expr.{Expr, out-Expr}
use Rattle.sql_tree.specs.declared.tree.Expr.TheOpen.{Expr-F}

-- an expression, opened at its top
abbrev pub Layer : Type 0
Layer = Expr-F Expr

abbrev pub span_at : Layer → Span
span_at (Expr-F.Literal s l) = s
span_at (Expr-F.Column s q n) = s
span_at (Expr-F.Group s x) = s
span_at (Expr-F.Unary s p at x) = s
span_at (Expr-F.Binary s o at x y) = s
span_at (Expr-F.Is s t not at x) = s
span_at (Expr-F.Between s not at x y z) = s
span_at (Expr-F.In s not at x ys) = s
span_at (Expr-F.Case s at bs x) = s
span_at (Expr-F.Cast s at x wanted) = s
span_at (Expr-F.Call s at xs) = s

-- where an expression stands
abbrev pub span_of : Expr → Span
span_of x = span_at (out-Expr x)
