-- What an answer says of the type of an expression, and of what is broken in it.
use Rattle.std.proofs.Common.{◌≡◌, inl, inr, ℕ, Bool, true, false, List, refl, sym, subst, ◌∙◌}
use Rattle.std.specs.Prelude.{if◌then◌else◌, IfOk, Result, Ok, Err}
use Rattle.dm_types.specs.declared.value.DataType.{DataType}
use Rattle.sql_tree.specs.Spans.{span_of}
use Rattle.sql_tree.specs.declared.tree.Expr.{Expr}
use Rattle.typed_expr.specs.declared.broken.Broken.{Broken}
use Rattle.typed_expr.specs.declared.fault.TypeFault.{TypeFault}
use Rattle.typed_expr.specs.declared.fault.TypeFault.TheVariants as fault
use Rattle.typed_expr.specs.declared.scope.ScopeColumn.{ScopeColumn}
use Rattle.typed_expr.specs.declared.tree.TypedExpr.{TypedExpr}
use Rattle.typed_expr.specs.Comes.{Soonest, IsTyped, Comes}
use Rattle.typed_expr.specs.HasType.{HasType, HasTypeThat, Breaks, BreaksUnless, IsSoonest, Accepts, TellsSoonest}
use Rattle.typed_expr.specs.Judging.{broken}
use Rattle.typed_expr.specs.Kinds.{kind_of}
use Rattle.typed_expr.specs.Rules.{Typing, Answers, breaks, comes_before, ◌>>=◌}
use Rattle.typed_expr.specs.Typing.{typing}
use Rattle.typed_expr.proofs.Agreeing.{comes}
use Rattle.typed_expr.proofs.Soonest.{not_before_itself}

module _ (scope : List ScopeColumn) (x : Expr) where
  -- ---- a whole expression

  pub has_type : (result : Result TypedExpr TypeFault) → Answers (typing scope x) result → IfOk result (λ tree. HasType scope x (kind_of tree))
  has_type (Ok tree) h = (subst (IsTyped scope x) h (comes scope x).typed).0
  has_type (Err f) h = tt

  pub one_type : (result : Result TypedExpr TypeFault) → Answers (typing scope x) result → (k : DataType) → HasType scope x k → Accepts (λ tree. kind_of tree ≡ k) result
  one_type (Ok tree) h k g = sym ((subst (IsTyped scope x) h (comes scope x).typed).1 k g)
  one_type (Err (fault.Rule rule at)) h k g = subst (IsTyped scope x) h (comes scope x).typed k g
  one_type (Err fault.Memory) h k g = tt

  pub tells : (result : Result TypedExpr TypeFault) → Answers (typing scope x) result → TellsSoonest (Breaks scope x) result
  tells (Ok tree) h = tt
  tells (Err (fault.Rule rule at)) h = subst (Soonest (Breaks scope x)) h (comes scope x).soonest
  tells (Err fault.Memory) h = tt

  -- ---- an expression whose type must pass a test

  module _ {A : Type 0} (test : DataType → Bool) (rule : ℕ) (g : TypedExpr → A) where
    abbrev tested : TypedExpr → Typing A
    tested tree = if test (kind_of tree) then Ok (g tree) else breaks rule (span_of x).start

    abbrev Passes : A → Type 0
    Passes a = (tree : TypedExpr) × HasType scope x (kind_of tree) × (test (kind_of tree) ≡ true) × (typing scope x ≡ Ok tree) × (a ≡ g tree)

    -- what is known of an answer
    abbrev Told : Typing A → Type 0
    Told (Ok a) = Passes a
    Told (Err b) = IsSoonest (BreaksUnless scope x test rule) b × (HasTypeThat scope x test → ⊥)

    by_test : (tree : TypedExpr) → typing scope x ≡ Ok tree → Comes scope x (Ok tree) → (t : Bool) → test (kind_of tree) ≡ t → Told (if t then Ok (g tree) else breaks rule (span_of x).start)
    by_test tree e c true h = (tree, c.typed.0, h, e, refl)
    by_test tree e c false h = (
      record { broke = inr (kind_of tree, c.typed.0, h, refl); least = least },
      λ p. let same : test (kind_of tree) ≡ true = subst (λ k. test k ≡ true) (c.typed.1 p.0 p.1) p.2 in let no : false ≡ true = sym h ∙ same in cc,
    )
      where
        least : (other : Broken) → BreaksUnless scope x test rule other → comes_before other (broken rule (span_of x).start) ≡ false
        least other (inl b) = absurd (c.soonest other b)
        least other (inr (k, p, f, is)) = subst (λ o. comes_before o (broken rule (span_of x).start) ≡ false) (sym is) (not_before_itself (broken rule (span_of x).start))

    untyped : (b : Broken) → Comes scope x (Err b) → Told (Err b)
    untyped b c = (record { broke = inl c.soonest.broke; least = least }, λ p. c.typed p.0 p.1)
      where
        least : (other : Broken) → BreaksUnless scope x test rule other → comes_before other b ≡ false
        least other (inl h) = c.soonest.least other h
        least other (inr (k, p, f, is)) = absurd (c.typed k p)

    told : (t : Typing TypedExpr) → typing scope x ≡ t → Comes scope x t → Told (t >>= tested)
    told (Ok tree) e c = by_test tree e c (test (kind_of tree)) refl
    told (Err b) e c = untyped b c

    all_told : Told (typing scope x >>= tested)
    all_told = told (typing scope x) refl (comes scope x)

    pub passes : (result : Result A TypeFault) → Answers (typing scope x >>= tested) result → IfOk result (λ a. HasTypeThat scope x test)
    passes (Ok a) h = let p = subst Told h all_told in (kind_of p.0, p.1, p.2)
    passes (Err f) h = tt

    module _ (So : A → Type 0) (so : (tree : TypedExpr) → typing scope x ≡ Ok tree → test (kind_of tree) ≡ true → So (g tree)) where
      pub passes_so : (result : Result A TypeFault) → Answers (typing scope x >>= tested) result → IfOk result So
      passes_so (Ok a) h = let p = subst Told h all_told in subst So (sym p.4) (so p.0 p.3 p.2)
      passes_so (Err f) h = tt

    pub accepts : (result : Result A TypeFault) → Answers (typing scope x >>= tested) result → HasTypeThat scope x test → Accepts {A = A} (λ a. Unit {0}) result
    accepts (Ok a) h p = tt
    accepts (Err (fault.Rule r at)) h p = (subst Told h all_told).1 p
    accepts (Err fault.Memory) h p = tt

    pub tells_tested : (result : Result A TypeFault) → Answers (typing scope x >>= tested) result → TellsSoonest (BreaksUnless scope x test rule) result
    tells_tested (Ok a) h = tt
    tells_tested (Err (fault.Rule r at)) h = (subst Told h all_told).0
    tells_tested (Err fault.Memory) h = tt
