-- Items with their types, one after the other.
use Rattle.std.proofs.Common.{◌≡◌, ℕ, suc, ◌+◌, ◌<◌, List, ◌∷◌, length, drop, Some, sym, ap, ◌∙◌, add-one}
use Rattle.std.specs.Prelude.{slice_get}
use Rattle.std.specs.List.{fold}
use Rattle.std.proofs.Math.Seq.{drop-cons}
use Rattle.std.proofs.lemmas.Option.{get_or_from_slice_get}
use Rattle.select_rows.specs.Queries.{items_from, typed_item}
use Rattle.select_rows.specs.declared.query.QueryItem.{QueryItem}
use Rattle.sql_statements.specs.declared.SelectItem.{SelectItem}
use Rattle.typed_expr.specs.Rules.{Typing, collected}
use Rattle.typed_expr.specs.declared.scope.ScopeColumn.{ScopeColumn}

next_item : (items : List SelectItem) (place : ℕ) (item : SelectItem) → place < length items → slice_get items place ≡ Some item → drop place items ≡ item ∷ drop (place + 1) items
next_item items place item less e =
    drop-cons items place item less
    ∙ ap (λ it. it ∷ drop (suc place) items) (get_or_from_slice_get items place item item e)
    ∙ ap (λ (k : ℕ). item ∷ drop k items) (sym (add-one place))

pub one_more : (scope : List ScopeColumn) (items : List SelectItem) (place : ℕ) (item : SelectItem) (found all total : Typing (List QueryItem)) (part : Typing QueryItem)
    → place < length items → slice_get items place ≡ Some item → part ≡ typed_item scope place item → all ≡ collected found part
    → fold collected found (items_from scope place (drop place items)) ≡ total → fold collected all (items_from scope (place + 1) (drop (place + 1) items)) ≡ total
one_more scope items place item found all total part less e typed taken so_far =
    ap (λ it. fold collected it (items_from scope (place + 1) (drop (place + 1) items))) (taken ∙ ap (collected found) typed)
    ∙ sym (ap (λ its. fold collected found (items_from scope place its)) (next_item items place item less e))
    ∙ so_far
