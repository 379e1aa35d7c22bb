-- The items of a SELECT fit the columns that it was typed over.
use Rattle.std.proofs.Common.{◌≡◌, ℕ, ◌+◌, List, [], ◌∷◌, ◌++◌, Option, Some, None, refl, ap, subst}
use Rattle.std.specs.Prelude.{All, IfOk, IfSome, Ok, Err}
use Rattle.std.specs.List.{AllByRecursion, fold}
use Rattle.std.proofs.lemmas.List.Elements.{All-from_recursion}
use Rattle.select_rows.specs.Queries.{items_from, typed_item, typed_items, typed_list}
use Rattle.select_rows.specs.declared.query.QueryItem.{QueryItem}
use Rattle.sql_statements.specs.declared.SelectItem.{SelectItem}
use Rattle.sql_statements.specs.declared.SelectItems.{SelectItems}
use Rattle.sql_statements.specs.declared.SelectItems.TheVariants as items
use Rattle.typed_expr.specs.Fits.{AreWellFormed, Fits, kinds_in}
use Rattle.typed_expr.specs.Rules.{Typing, all, both, collected, ◌>>=◌}
use Rattle.typed_expr.specs.Typing.{typing}
use Rattle.typed_expr.specs.declared.broken.Broken.{Broken}
use Rattle.typed_expr.specs.declared.scope.ScopeColumn.{ScopeColumn}
use Rattle.typed_expr.specs.declared.tree.TypedExpr.{TypedExpr}
use Rattle.typed_expr.proofs.Fitting.{tree_fits}
use Rattle.typed_expr.proofs.FormFits.{Reads}

-- ---- parts that are collected

nothing_collected : {A : Type 0} (parts : List (Typing A)) (broken : Broken) (found : List A) → fold collected (Err broken) parts ≡ Ok found → ⊥
nothing_collected [] broken found e = cc
nothing_collected (Ok a ∷ parts) broken found e = nothing_collected parts broken found e
nothing_collected (Err other ∷ parts) broken found e = nothing_collected parts _ found e

all_collected : {A : Type 0} (P : A → Type 0) (parts : List (Typing A)) (before found : List A) → AllByRecursion (λ part. IfOk part P) parts → AllByRecursion P before
    → fold collected (Ok before) parts ≡ Ok found → AllByRecursion P found
all_collected P [] before found each sofar e = let is : before ≡ found = cc in subst (AllByRecursion P) is sofar
all_collected {A} P (Ok a ∷ parts) before found each sofar e = all_collected P parts (before ++ a ∷ []) found each.1 (behind before sofar) e
  where
    behind : (xs : List A) → AllByRecursion P xs → AllByRecursion P (xs ++ a ∷ [])
    behind [] all = (each.0, tt)
    behind (x ∷ xs) all = (all.0, behind xs all.1)
all_collected P (Err broken ∷ parts) before found each sofar e = absurd (nothing_collected parts broken found e)

first_of : {A B : Type 0} (p q : A × B) → ◌≡◌ {A = Typing (A × B)} (Ok p) (Ok q) → p.0 ≡ q.0
first_of {A} {B} p q e = let same : p ≡ q = cc in ap (λ (r : A × B). r.0) same

-- ---- items

module _ (scope : List ScopeColumn) (reads : Reads) (formed : AreWellFormed scope) where
  abbrev ItemFits : QueryItem → Type 0
  ItemFits item = Fits (kinds_in scope) item.value

  item_fits : (place : ℕ) (item : SelectItem) → IfOk (typed_item scope place item) ItemFits
  item_fits place item = by (typing scope item.expr) refl
    where
      by : (t : Typing TypedExpr) → typing scope item.expr ≡ t → IfOk (typed_item scope place item) ItemFits
      by (Ok tree) e = rw e (tree_fits scope reads formed item.expr (Ok tree) e)
      by (Err broken) e = rw e tt

  items_fit : (place : ℕ) (its : List SelectItem) → AllByRecursion (λ part. IfOk part ItemFits) (items_from scope place its)
  items_fit place [] = tt
  items_fit place (item ∷ more) = (item_fits place item, items_fit (place + 1) more)

  list_fits : (its : List SelectItem) (found : List QueryItem) → typed_list scope its ≡ Ok found → All ItemFits found
  list_fits its found e = All-from_recursion ItemFits found (all_collected ItemFits (items_from scope 0 its) [] found (items_fit 0 its) tt e)

  found_fit : (its : SelectItems) (found : Option (List QueryItem)) → typed_items scope its ≡ Ok found → IfSome found (All ItemFits)
  found_fit items.All found e = let is : None ≡ found = cc in subst (λ (o : Option (List QueryItem)). IfSome o (All ItemFits)) is tt
  found_fit (items.Listed its) found e = by (typed_list scope its) refl e
    where
      by : (t : Typing (List QueryItem)) → typed_list scope its ≡ t → (t >>= λ all. Ok (Some all)) ≡ Ok found → IfSome found (All ItemFits)
      by (Ok all) is same = let some : Some all ≡ found = cc in subst (λ (o : Option (List QueryItem)). IfSome o (All ItemFits)) some (list_fits its all is)
      by (Err broken) is same = absurd cc

  pub query_fits : {B : Type 0} (its : SelectItems) (conjuncts : Typing B) (found : Option (List QueryItem)) (b : B) → both (typed_items scope its) conjuncts ≡ Ok (found, b) → IfSome found (All ItemFits)
  query_fits {B} its conjuncts found b e = found_fit its found (by (typed_items scope its) conjuncts e)
    where
      by : (t : Typing (Option (List QueryItem))) (c : Typing B) → both t c ≡ Ok (found, b) → t ≡ Ok found
      by (Ok a) (Ok d) is = ap Ok (first_of (a, d) (found, b) is)
      by (Ok a) (Err broken) is = absurd cc
      by (Err broken) (Ok d) is = absurd cc
      by (Err broken) (Err other) is = absurd cc
