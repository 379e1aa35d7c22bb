-- A value that was read has the members of each object in order.
use Rattle.std.proofs.Common.{◌≡◌, ℕ, List, Option, Some, None, option_map, option_and_then, Ordering, Less, Equal, Greater, nat_cmp, refl, ap, ◌∙◌, subst}
use Rattle.std.specs.Prelude.{⊤, IfSome}
use Rattle.std.specs.Ordering.{match_ordering, ordering_reverse}
use Rattle.std.specs.Cmp.Lexicographic.{slice_cmp}
use Rattle.std.proofs.lemmas.Cmp.{nat_list_cmp_total}
use Rattle.json.specs.Json as json
use Rattle.serde_json.specs.Data.{Data, number, array, object, item, Members, no_members, member, put}
use Rattle.serde_json.specs.Read.{number_of, of_json, of_items, of_members, max_depth, read}
use Rattle.json.specs.Lex.{tokens}
use Rattle.json_text.specs.Plain.{IsSorted, AreSortedItems, AreSorted}
use Rattle.json_text.proofs.Plain.{above_more, IsAbove-put}

AreSorted-by : (o : Ordering) (k l : List ℕ) (d e : Data) (ms : Members) → slice_cmp nat_cmp k l ≡ o → IsSorted d → AreSorted (member l e ms) → AreSorted (put k d ms)
    → AreSorted (match_ordering o (member k d (member l e ms)) (member l d ms) (member l e (put k d ms)))
AreSorted-by Less k l d e ms is x h later = (x, (is, above_more k l ms is h.1), h)
AreSorted-by Equal k l d e ms is x h later = (x, h.1, h.2)
AreSorted-by Greater k l d e ms is x h later =
    let below : slice_cmp nat_cmp l k ≡ Less = nat_list_cmp_total.antisymm l k ∙ ap ordering_reverse is in
    (h.0, IsAbove-put l k d ms below h.1, later)

AreSorted-put : (k : List ℕ) (d : Data) (ms : Members) → IsSorted d → AreSorted ms → AreSorted (put k d ms)
AreSorted-put k d no_members x h = (x, tt, tt)
AreSorted-put k d (member l e ms) x h = AreSorted-by _ k l d e ms refl x h (AreSorted-put k d ms x h.2)

if_map : {A B : Type 0} (P : A → Type 0) (Q : B → Type 0) (f : A → B) (o : Option A) → ((a : A) → P a → Q (f a)) → IfSome o P → IfSome (option_map f o) Q
if_map P Q f None k h = tt
if_map P Q f (Some a) k h = k a h

if_then : {A B : Type 0} (P : A → Type 0) (Q : B → Type 0) (f : A → Option B) (o : Option A) → ((a : A) → P a → IfSome (f a) Q) → IfSome o P → IfSome (option_and_then f o) Q
if_then P Q f None k h = tt
if_then P Q f (Some a) k h = k a h

any : {A : Type 0} (o : Option A) → IfSome o (λ _. ⊤)
any None = tt
any (Some a) = tt

mutual
  of_json_sorted : (j : json.Json) → IfSome (of_json j) IsSorted
  of_json_sorted json.null = tt
  of_json_sorted (json.boolean b) = tt
  of_json_sorted (json.number s) = if_map (λ _. ⊤) IsSorted number (number_of s) (λ a h. tt) (any (number_of s))
  of_json_sorted (json.string s) = tt
  of_json_sorted (json.array js) = if_map AreSortedItems IsSorted array (of_items js) (λ a h. h) (of_items_sorted js)
  of_json_sorted (json.object ms) = if_map AreSorted IsSorted object (of_members ms no_members) (λ a h. h) (of_members_sorted ms no_members tt)

  of_items_sorted : (js : json.Items) → IfSome (of_items js) AreSortedItems
  of_items_sorted json.no_items = tt
  of_items_sorted (json.item j js) =
      if_then IsSorted AreSortedItems (λ d. option_map (item d) (of_items js)) (of_json j) (λ d x. if_map AreSortedItems AreSortedItems (item d) (of_items js) (λ ds y. (x, y)) (of_items_sorted js)) (of_json_sorted j)

  of_members_sorted : (ms : json.Members) (found : Members) → AreSorted found → IfSome (of_members ms found) AreSorted
  of_members_sorted json.no_members found h = h
  of_members_sorted (json.member k j ms) found h =
      if_then IsSorted AreSorted (λ d. of_members ms (put k d found)) (of_json j) (λ d x. of_members_sorted ms (put k d found) (AreSorted-put k d found x h)) (of_json_sorted j)

-- what was read has each object in order
pub sorted-read : (text : List ℕ) (d : Data) → read text ≡ Some d → IsSorted d
sorted-read text d e =
    subst (λ o. IfSome o IsSorted) e (if_then (λ _. ⊤) IsSorted of_json (option_and_then (λ p. json.if_last p.0 p.1) (json.value max_depth (tokens text))) (λ j _. of_json_sorted j) (any _))
