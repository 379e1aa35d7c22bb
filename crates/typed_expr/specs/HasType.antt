-- In this scope this expression has this type; and the rules that an expression breaks, and where.
use Rattle.std.specs.Prelude.{◌≡◌, ◌⊎◌, ℕ, Bool, true, false, List, [], ◌∷◌, Result, Ok, Err, ⊤}
use Rattle.std.specs.List.{Contains}
use Rattle.dm_types.specs.declared.value.DataType.{DataType}
use Rattle.sql_tree.specs.Spans.{span_of}
use Rattle.sql_tree.specs.declared.tree.Expr.{Expr, out-Expr}
use Rattle.typed_expr.specs.declared.broken.Broken.{Broken}
use Rattle.typed_expr.specs.declared.fault.TypeFault.{TypeFault}
use Rattle.typed_expr.specs.declared.fault.TypeFault.TheVariants as fault
use Rattle.typed_expr.specs.declared.scope.ScopeColumn.{ScopeColumn}
use Rattle.typed_expr.specs.Judging.{judged, parts_of, broken}
use Rattle.typed_expr.specs.Rules.{comes_before}

-- the expression has the type that its form gives over the types of its parts
mutual
  pub data HasType (scope : List ScopeColumn) : Expr → DataType → Type 0 where
    formed : {x : Expr} {kinds : List DataType} {k : DataType} → HaveTypes scope (parts_of (out-Expr x)) kinds
        → judged scope (out-Expr x) kinds ≡ Ok k → HasType scope x k

  pub data HaveTypes (scope : List ScopeColumn) : List Expr → List DataType → Type 0 where
    none : HaveTypes scope [] []
    more : {x : Expr} {k : DataType} {xs : List Expr} {kinds : List DataType} → HasType scope x k
        → HaveTypes scope xs kinds → HaveTypes scope (x ∷ xs) (k ∷ kinds)

-- a rule is broken by the form itself, where its parts have types, or within a part
mutual
  pub data Breaks (scope : List ScopeColumn) : Expr → Broken → Type 0 where
    itself : {x : Expr} {kinds : List DataType} {all : List Broken} {b : Broken}
        → HaveTypes scope (parts_of (out-Expr x)) kinds → judged scope (out-Expr x) kinds ≡ Err all
        → Contains all b → Breaks scope x b
    within : {x : Expr} {b : Broken} → BreakOne scope (parts_of (out-Expr x)) b → Breaks scope x b

  pub data BreakOne (scope : List ScopeColumn) : List Expr → Broken → Type 0 where
    first : {x : Expr} {xs : List Expr} {b : Broken} → Breaks scope x b → BreakOne scope (x ∷ xs) b
    later : {x : Expr} {xs : List Expr} {b : Broken} → BreakOne scope xs b → BreakOne scope (x ∷ xs) b

-- of what is broken, the one at the least place, and there of the least rule
pub record IsSoonest (Broke : Broken → Type 0) (b : Broken) : Type 0 where
  pub broke : Broke b
  pub least : (other : Broken) → Broke other → comes_before other b ≡ false

-- ---- where the type must pass a test

-- the expression has a type that passes
abbrev pub HasTypeThat : List ScopeColumn → Expr → (DataType → Bool) → Type 0
HasTypeThat scope x test = (k : DataType) × HasType scope x k × (test k ≡ true)

-- it breaks a rule, or its type doesn't pass, which breaks this one at its first byte
abbrev pub BreaksUnless : List ScopeColumn → Expr → (DataType → Bool) → ℕ → Broken → Type 0
BreaksUnless scope x test rule b =
    Breaks scope x b ⊎ ((k : DataType) × HasType scope x k × (test k ≡ false) × (b ≡ broken rule (span_of x).start))

-- ---- answers

-- an answer that tells no broken rule, and whose value, if memory sufficed, is so
abbrev pub Accepts : {A : Type 0} → (A → Type 0) → Result A TypeFault → Type 0
Accepts IsSo (Ok a) = IsSo a
Accepts IsSo (Err (fault.Rule rule at)) = ⊥
Accepts IsSo (Err fault.Memory) = ⊤

-- the rule that is told is the soonest of those that are broken
abbrev pub TellsSoonest : {A : Type 0} → (Broken → Type 0) → Result A TypeFault → Type 0
TellsSoonest Broke (Ok a) = ⊤
TellsSoonest Broke (Err (fault.Rule rule at)) = IsSoonest Broke (broken rule at)
TellsSoonest Broke (Err fault.Memory) = ⊤
