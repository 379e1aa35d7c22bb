-- What an expression comes to, against the relation: what private laws say of it.
use Rattle.std.specs.Prelude.{◌≡◌, List, Ok, Err}
use Rattle.dm_types.specs.declared.value.DataType.{DataType}
use Rattle.sql_tree.specs.declared.tree.Expr.{Expr}
use Rattle.typed_expr.specs.declared.broken.Broken.{Broken}
use Rattle.typed_expr.specs.declared.scope.ScopeColumn.{ScopeColumn}
use Rattle.typed_expr.specs.declared.tree.TypedExpr.{TypedExpr}
use Rattle.typed_expr.specs.HasType.{HasType, Breaks, IsSoonest}
use Rattle.typed_expr.specs.Kinds.{kind_of}
use Rattle.typed_expr.specs.Rules.{Typing}

-- nothing is broken, or this one is the soonest of what is
abbrev pub Soonest : {A : Type 0} → (Broken → Type 0) → Typing A → Type 0
Soonest Broke (Ok a) = (b : Broken) → Broke b → ⊥
Soonest Broke (Err b) = IsSoonest Broke b

-- it has the type of this tree and no other, or none
abbrev pub IsTyped : List ScopeColumn → Expr → Typing TypedExpr → Type 0
IsTyped scope x (Ok tree) = HasType scope x (kind_of tree) × ((k : DataType) → HasType scope x k → k ≡ kind_of tree)
IsTyped scope x (Err b) = (k : DataType) → HasType scope x k → ⊥

pub record Comes (scope : List ScopeColumn) (x : Expr) (found : Typing TypedExpr) : Type 0 where
  pub typed : IsTyped scope x found
  pub soonest : Soonest (Breaks scope x) found
