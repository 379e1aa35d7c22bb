-- The conjuncts of a condition are conditions.
use Rattle.std.proofs.Common.{◌≡◌, Bool, true, false, List, [], ◌∷◌, ◌++◌, refl, sym, ap, subst, ◌∙◌}
use Rattle.std.specs.Prelude.{◌&&◌, if◌then◌else◌, All, Some, None, Ok, Err}
use Rattle.std.proofs.lemmas.List.Elements.{All-append, All-cons, All-nil}
use Rattle.dm_types.specs.declared.value.DataType.{DataType}
use Rattle.dm_types.specs.declared.value.DataType.TheVariants as kind
use Rattle.sql_tree.specs.Spans.{Layer}
use Rattle.sql_tree.specs.declared.token.Span.{Span}
use Rattle.sql_tree.specs.declared.tree.Expr.{Expr}
use Rattle.sql_tree.specs.declared.tree.Expr.TheFolds.{map-Expr, fold-roll-Expr, ind-Expr}
use Rattle.sql_tree.specs.declared.tree.Expr.TheOpen.{Expr-F}
use Rattle.sql_tree.specs.declared.tree.Expr.TheViews.{roll-Expr}
use Rattle.sql_tree.specs.declared.tree.Operator.TheVariants as o
use Rattle.typed_expr.specs.declared.scope.ScopeColumn.{ScopeColumn}
use Rattle.typed_expr.specs.declared.tree.TypedExpr.{TypedExpr}
use Rattle.typed_expr.specs.declared.tree.TypedExpr.TheVariants as e
use Rattle.typed_expr.specs.declared.tree.TypedExpr.TheVariants.{outs-And}
use Rattle.typed_expr.specs.Forms as form
use Rattle.typed_expr.specs.Tables.{is_condition}
use Rattle.typed_expr.specs.Kinds.{kind_of, kind_at}
use Rattle.typed_expr.specs.Rules.{Typing, both, ◌>>=◌}
use Rattle.typed_expr.specs.Tables as table
use Rattle.typed_expr.specs.Typing.{Part, part_of, typing, conjuncts, chained, operands_of}
use Rattle.typed_expr.proofs.FormTypes.{cast_kind}

abbrev pub IsCondition : TypedExpr → Type 0
IsCondition tree = is_condition (kind_of tree) ≡ true

abbrev pub AreConditions : List TypedExpr → Type 0
AreConditions trees = All IsCondition trees

-- ---- NULL as a condition

-- a condition that is no BOOLEAN is NULL, and stands for one that is
stands_is : (k : DataType) → is_condition k ≡ true → is_condition (table.stands_for kind.Boolean k) ≡ true
stands_is kind.Void h = refl
stands_is kind.Boolean h = refl
stands_is _ h = h

lifted_is : (tree : TypedExpr) → IsCondition tree → IsCondition (form.unless_null kind.Boolean tree)
lifted_is tree h = subst (λ k. is_condition k ≡ true) (sym (cast_kind (table.stands_for kind.Boolean (kind_of tree)) tree)) (stands_is (kind_of tree) h)

-- an operand of AND is one
takes_condition : (k : DataType) → table.is_boolean (table.stands_for kind.Boolean k) ≡ true → is_condition k ≡ true
takes_condition kind.Void h = refl
takes_condition kind.Boolean h = refl
takes_condition _ h = absurd (cc)

both_true : (a b : Bool) → (a && b) ≡ true → (a ≡ true) × (b ≡ true)
both_true true true h = (refl, refl)
both_true true false h = absurd (cc)
both_true false b h = absurd (cc)

-- ---- the operands of AND

abbrev joined : TypedExpr → TypedExpr → TypedExpr
joined x y = e.And (form.unless_null kind.Boolean x) (form.unless_null kind.Boolean y)

-- what AND is made of
abbrev IsJoined : TypedExpr → TypedExpr → TypedExpr → Type 0
IsJoined x y tree = IsCondition x × IsCondition y × (tree ≡ joined x y)

join_is : (place : Span) (x y tree : TypedExpr) → form.binary o.And place x y ≡ Ok tree → IsJoined x y tree
join_is place x y tree h = by_test (table.are_booleans a b) refl h
  where
    a : DataType
    a = table.stands_for kind.Boolean (kind_of x)

    b : DataType
    b = table.stands_for kind.Boolean (kind_of y)

    by_test : (t : Bool) → table.are_booleans a b ≡ t → (form.of_rule place.start (if t then table.kept (Some kind.Boolean) else Err 3) >>= λ k. Ok (joined x y)) ≡ Ok tree → IsJoined x y tree
    by_test true e f = let p = both_true (table.is_boolean a) (table.is_boolean b) e in let is : joined x y ≡ tree = cc in (takes_condition (kind_of x) p.0, takes_condition (kind_of y) p.1, sym is)
    by_test false e f = absurd (cc)

abbrev Split : Typing TypedExpr → Typing TypedExpr → TypedExpr → Type 0
Split s t tree = (x : TypedExpr) × (y : TypedExpr) × (s ≡ Ok x) × (t ≡ Ok y) × IsJoined x y tree

split_is : (place : Span) (s t : Typing TypedExpr) (tree : TypedExpr) → (both s t >>= λ p. form.binary o.And place p.0 p.1) ≡ Ok tree → Split s t tree
split_is place (Ok x) (Ok y) tree h = (x, y, refl, refl, join_is place x y tree h)
split_is place (Ok x) (Err b) tree h = absurd (cc)
split_is place (Err b) (Ok y) tree h = absurd (cc)
split_is place (Err b) (Err d) tree h = absurd (cc)

-- ---- all conjuncts

module _ (scope : List ScopeColumn) where
  -- of a condition, and of one that stands for NULL
  abbrev Claim : Expr → Type 0
  Claim x = (tree : TypedExpr) → typing scope x ≡ Ok tree → IsCondition tree → AreConditions (conjuncts x tree) × AreConditions (conjuncts x (form.unless_null kind.Boolean tree))

  abbrev Shown : Type 0
  Shown = (x : Expr) × Claim x

  conjuncts_are : (l : Layer) (tree : TypedExpr) → conjuncts (roll-Expr l) tree ≡ chained (map-Expr Expr (TypedExpr → List TypedExpr) conjuncts l) tree
  conjuncts_are l tree = ap (λ f. f tree) (fold-roll-Expr (TypedExpr → List TypedExpr) chained l)

  one : (tree : TypedExpr) → IsCondition tree → AreConditions (tree ∷ [])
  one tree h = All-cons IsCondition tree [] h (All-nil IsCondition)

  -- a form that is no AND
  alone : (l : Layer) → ((tree : TypedExpr) → chained (map-Expr Expr (TypedExpr → List TypedExpr) conjuncts l) tree ≡ tree ∷ []) → Claim (roll-Expr l)
  alone l is tree e h = (
    subst AreConditions (sym (conjuncts_are l tree ∙ is tree)) (one tree h),
    let next = form.unless_null kind.Boolean tree in
        subst AreConditions (sym (conjuncts_are l next ∙ is next)) (one next (lifted_is tree h)),
  )

  and_form : (span place : Span) (x y : Shown) → Claim (roll-Expr (Expr-F.Binary span o.And place x.0 y.0))
  and_form span place x y tree e h =
      let l = Expr-F.Binary span o.And place x.0 y.0 in
      let opened = sym (ap (λ p. p.typing) (fold-roll-Expr Part (part_of scope) l)) ∙ e in
      let s = split_is place (typing scope x.0) (typing scope y.0) tree opened in
      let left = form.unless_null kind.Boolean s.0 in
      let right = form.unless_null kind.Boolean s.1 in
      let all = All-append IsCondition (conjuncts x.0 left) (conjuncts y.0 right) (x.1 s.0 s.2 s.4.0).1 (y.1 s.1 s.3 s.4.1).1 in
      let parts : conjuncts (roll-Expr l) (joined s.0 s.1) ≡ conjuncts x.0 left ++ conjuncts y.0 right = conjuncts_are l (joined s.0 s.1) ∙ ap (operands_of (conjuncts x.0) (conjuncts y.0) (joined s.0 s.1)) (outs-And left right) in
      let these = subst (λ t. AreConditions (conjuncts (roll-Expr l) t)) (sym s.4.2) (subst AreConditions (sym parts) all) in
      (these, subst (λ t. AreConditions (conjuncts (roll-Expr l) t)) (sym (same tree (ap kind_of s.4.2 ∙ ap kind_at (outs-And left right)))) these)
    where
      same : (tree : TypedExpr) → kind_of tree ≡ kind.Boolean → form.unless_null kind.Boolean tree ≡ tree
      same tree k = rw k refl

  by_layer : (y : Expr-F Shown) → Claim (roll-Expr (map-Expr Shown Expr (λ e. e.0) y))
  by_layer (Expr-F.Binary span o.And place x y) = and_form span place x y
  by_layer (Expr-F.Case span place bs None) = alone _ (λ t. refl)
  by_layer (Expr-F.Case span place bs (Some z)) = alone _ (λ t. refl)
  by_layer y = alone _ (λ t. refl)

pub are_conditions : (scope : List ScopeColumn) (x : Expr) (tree : TypedExpr) → typing scope x ≡ Ok tree → IsCondition tree → AreConditions (conjuncts x tree)
are_conditions scope x tree e h = (ind-Expr (Claim scope) (λ l y is. subst (λ z. Claim scope (roll-Expr z)) is (by_layer scope y)) x tree e h).0
