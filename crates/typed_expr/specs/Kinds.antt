-- The type of a typed expression.
use Rattle.dm_types.specs.declared.value.DataType.{DataType}
use Rattle.dm_types.specs.declared.value.DataType.TheVariants as kind
use Rattle.typed_expr.specs.declared.tree.TypedExpr.{TypedExpr, out-TypedExpr}
use Rattle.typed_expr.specs.declared.tree.TypedExpr.TheOpen.{TypedExpr-F}

-- a typed expression, opened at its top
abbrev pub TypedLayer : Type 0
TypedLayer = TypedExpr-F TypedExpr

abbrev pub kind_at : TypedLayer → DataType
kind_at (TypedExpr-F.Constant k v) = k
kind_at (TypedExpr-F.Column k place) = k
kind_at (TypedExpr-F.Negate k x) = k
kind_at (TypedExpr-F.Not x) = kind.Boolean
kind_at (TypedExpr-F.Binary k op x y) = k
kind_at (TypedExpr-F.SameAs x y) = kind.Boolean
kind_at (TypedExpr-F.And x y) = kind.Boolean
kind_at (TypedExpr-F.Or x y) = kind.Boolean
kind_at (TypedExpr-F.Concat x y) = kind.Str
kind_at (TypedExpr-F.Is truth x) = kind.Boolean
kind_at (TypedExpr-F.Between x low high) = kind.Boolean
kind_at (TypedExpr-F.In x items) = kind.Boolean
kind_at (TypedExpr-F.Case k branches otherwise) = k
kind_at (TypedExpr-F.Coalesce k xs) = k
kind_at (TypedExpr-F.Cast k x) = k
kind_at (TypedExpr-F.Part part x) = kind.Integer
kind_at (TypedExpr-F.Length x) = kind.Integer

abbrev pub kind_of : TypedExpr → DataType
kind_of x = kind_at (out-TypedExpr x)
