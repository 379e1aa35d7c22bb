-- Which typed expressions fit a row of columns: what typing gives, and what evaluation rests on.
use Rattle.std.specs.Prelude.{◌≡◌, ⊤, true, All, List, [], ◌∷◌, ◌++◌, map, slice_get, Option, Some, None, IfSome, Ok}
use Rattle.std.specs.List.{AllByRecursion, flat_map}
use Rattle.dm_types.specs.Ranges.{IsNullOrInRange, IsWellFormed}
use Rattle.dm_types.specs.declared.value.DataType.{DataType}
use Rattle.dm_types.specs.declared.value.DataType.TheVariants as kind
use Rattle.sql_tree.specs.declared.tree.Operator.{Operator}
use Rattle.sql_tree.specs.declared.tree.Operator.TheVariants as o
use Rattle.sql_tree.specs.declared.tree.Truth.{Truth}
use Rattle.sql_tree.specs.declared.tree.Truth.TheVariants as t
use Rattle.typed_expr.specs.declared.scope.ScopeColumn.{ScopeColumn}
use Rattle.typed_expr.specs.declared.tree.Op.{Op}
use Rattle.typed_expr.specs.declared.tree.Op.TheVariants as op
use Rattle.typed_expr.specs.declared.tree.TypedExpr.{TypedExpr, out-TypedExpr}
use Rattle.typed_expr.specs.declared.tree.TypedExpr.TheOpen.{TypedExpr-F}
use Rattle.typed_expr.specs.Kinds.{TypedLayer, kind_of}
use Rattle.typed_expr.specs.Tables.{is_number, is_dated, are_comparable, meets, castable, lines_of, by_lines}

-- the types of the columns that an expression sees
abbrev pub kinds_in : List ScopeColumn → List DataType
kinds_in scope = map (λ c. c.kind) scope

-- each column has a type that there is
abbrev pub AreWellFormed : List ScopeColumn → Type 0
AreWellFormed scope = All (λ c. IsWellFormed c.kind) scope

-- the operator that is written so
abbrev pub written : Op → Operator
written op.Add = o.Plus
written op.Subtract = o.Minus
written op.Multiply = o.Times
written op.Quotient = o.Divide
written op.Remainder = o.Remainder
written op.Equal = o.Equal
written op.Unequal = o.NotEqual
written op.Less = o.Less
written op.LessEqual = o.LessOrEqual
written op.Greater = o.Greater
written op.GreaterEqual = o.GreaterOrEqual

-- an expression of a type
abbrev pub Has : DataType → TypedExpr → Type 0
Has k x = kind_of x ≡ k

abbrev pub IsComparable : TypedExpr → TypedExpr → Type 0
IsComparable x y = are_comparable (kind_of x) (kind_of y) ≡ true

-- .. where NULL compares with each
abbrev pub ComparesWith : TypedExpr → TypedExpr → Type 0
ComparesWith x y = meets (kind_of x) (kind_of y) ≡ true

-- the type by the first line of the table that takes the operands
abbrev pub IsBinary : DataType → Op → TypedExpr → TypedExpr → Type 0
IsBinary k operator x y = by_lines (lines_of (written operator)) (kind_of x) (kind_of y) ≡ Ok k

-- what IS TRUE and IS FALSE take
abbrev pub IsTested : Truth → TypedExpr → Type 0
IsTested t.Null x = ⊤
IsTested truth x = Has kind.Boolean x

-- a condition, and a value of the common type
abbrev pub IsBranch : DataType → TypedExpr × TypedExpr → Type 0
IsBranch k branch = Has kind.Boolean branch.0 × Has k branch.1

-- a node: values in the range of their types, columns in their places, operands of types that the tables take
abbrev pub FitsNode : List DataType → TypedLayer → Type 0
FitsNode kinds (TypedExpr-F.Constant k v) = IsNullOrInRange k v
FitsNode kinds (TypedExpr-F.Column k place) = slice_get kinds place ≡ Some k
FitsNode kinds (TypedExpr-F.Negate k x) = IsWellFormed k × (is_number k ≡ true) × Has k x
FitsNode kinds (TypedExpr-F.Not x) = Has kind.Boolean x
FitsNode kinds (TypedExpr-F.Binary k operator x y) = IsWellFormed k × IsBinary k operator x y
FitsNode kinds (TypedExpr-F.SameAs x y) = IsComparable x y
FitsNode kinds (TypedExpr-F.And x y) = Has kind.Boolean x × Has kind.Boolean y
FitsNode kinds (TypedExpr-F.Or x y) = Has kind.Boolean x × Has kind.Boolean y
FitsNode kinds (TypedExpr-F.Concat x y) = Has kind.Str x × Has kind.Str y
FitsNode kinds (TypedExpr-F.Is truth x) = IsTested truth x
FitsNode kinds (TypedExpr-F.Between x low high) = ComparesWith x low × ComparesWith x high
FitsNode kinds (TypedExpr-F.In x items) = AllByRecursion (ComparesWith x) items
FitsNode kinds (TypedExpr-F.Case k branches otherwise) = AllByRecursion (IsBranch k) branches × IfSome otherwise (Has k)
FitsNode kinds (TypedExpr-F.Coalesce k xs) = AllByRecursion (Has k) xs
FitsNode kinds (TypedExpr-F.Cast k x) = IsWellFormed k × (castable (kind_of x) k ≡ true)
FitsNode kinds (TypedExpr-F.Part part x) = is_dated (kind_of x) ≡ true
FitsNode kinds (TypedExpr-F.Length x) = Has kind.Str x

abbrev pub listed : Option TypedExpr → List TypedExpr
listed None = []
listed (Some x) = x ∷ []

abbrev pub both_of : TypedExpr × TypedExpr → List TypedExpr
both_of branch = branch.0 ∷ branch.1 ∷ []

-- the parts of a typed expression, from the left
abbrev pub parts_of : TypedLayer → List TypedExpr
parts_of (TypedExpr-F.Constant k v) = []
parts_of (TypedExpr-F.Column k place) = []
parts_of (TypedExpr-F.Negate k x) = x ∷ []
parts_of (TypedExpr-F.Not x) = x ∷ []
parts_of (TypedExpr-F.Binary k operator x y) = x ∷ y ∷ []
parts_of (TypedExpr-F.SameAs x y) = x ∷ y ∷ []
parts_of (TypedExpr-F.And x y) = x ∷ y ∷ []
parts_of (TypedExpr-F.Or x y) = x ∷ y ∷ []
parts_of (TypedExpr-F.Concat x y) = x ∷ y ∷ []
parts_of (TypedExpr-F.Is truth x) = x ∷ []
parts_of (TypedExpr-F.Between x low high) = x ∷ low ∷ high ∷ []
parts_of (TypedExpr-F.In x items) = x ∷ items
parts_of (TypedExpr-F.Case k branches otherwise) = flat_map both_of branches ++ listed otherwise
parts_of (TypedExpr-F.Coalesce k xs) = xs
parts_of (TypedExpr-F.Cast k x) = x ∷ []
parts_of (TypedExpr-F.Part part x) = x ∷ []
parts_of (TypedExpr-F.Length x) = x ∷ []

-- an expression over columns of these types, at each of its nodes
mutual
  pub data Fits (kinds : List DataType) : TypedExpr → Type 0 where
    formed : {x : TypedExpr} → FitsNode kinds (out-TypedExpr x) → AllFit kinds (parts_of (out-TypedExpr x))
        → Fits kinds x

  pub data AllFit (kinds : List DataType) : List TypedExpr → Type 0 where
    none : AllFit kinds []
    more : {x : TypedExpr} {xs : List TypedExpr} → Fits kinds x → AllFit kinds xs → AllFit kinds (x ∷ xs)
