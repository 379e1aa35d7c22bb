-- Sorted ids with their places give the places in the order of the ids.
use Rattle.std.proofs.Common.{◌≡◌, ℕ, ◌+◌, ◌<◌, ℤ, List, [], ◌∷◌, ◌++◌, length, get_or, map, Option, None, refl, sym, subst, ap, ◌∙◌, arith, is_lt, int_cmp, nat_cmp}
use Rattle.std.specs.Cmp.Lexicographic.{options_total}
use Rattle.std.specs.List.{All, range_with_len}
use Rattle.std.specs.List.Sorted.{IsPermutation, IsSorted}
use Rattle.std.specs.Option.{option_cmp}
use Rattle.std.specs.Ordering.{MatchOrdering, ordering_then}
use Rattle.std.specs.declared.cmp.Ordering.{Ordering}
use Rattle.std.specs.declared.cmp.Ordering.TheVariants.{Less, Equal, Greater}
use Rattle.std.proofs.lemmas.Cmp.{ranked, int_cmp_total, nat_cmp_total, on_total, then_total}
use Rattle.std.proofs.lemmas.List.{get_or-map, length-map}
use Rattle.std.proofs.lemmas.List.FromFn.{map-range_with_len_more}
use Rattle.std.proofs.lemmas.List.Sorted.{All-permutation, IsPermutation-map}
use Rattle.row_tracking.specs.Checked.{id_at}
use Rattle.row_tracking.specs.Order.{by_id, placed, ordered, in_id_order}
use Rattle.row_tracking.specs.StepsOrder.{keyed, all_keyed}
use Rattle.row_tracking.specs.declared.row_id.RowId.{RowId}
use Rattle.row_tracking.proofs.Sorting.{IsLinear, inserted, sorted, sorted_is}

pub same_number : (a b : ℕ) (o : Ordering) → MatchOrdering o (a < b) (a ≡ b) (b < a) → o ≡ Equal → a ≡ b
same_number a b Less is equal = absurd cc
same_number a b Equal is equal = is
same_number a b Greater is equal = absurd cc

pub second_ties : (o p : Ordering) → ordering_then o p ≡ Equal → p ≡ Equal
second_ties Less p equal = absurd cc
second_ties Equal p equal = equal
second_ties Greater p equal = absurd cc

linear_by_id : (rows : List RowId) → IsLinear (by_id rows)
linear_by_id rows = record {
  total = then_total (on_total (id_at rows) (options_total int_cmp_total)) nat_cmp_total;
  same = λ a b equal. same_number a b (nat_cmp a b) (ranked a b (nat_cmp a b) refl) (second_ties (option_cmp int_cmp (id_at rows a) (id_at rows b)) (nat_cmp a b) equal);
}

pub placed-inserted : (rows : List RowId) (place : ℕ) (places : List ℕ) → placed rows place places ≡ inserted (by_id rows) place places
unfolding placed inserted
placed-inserted rows place [] = refl
placed-inserted rows place (first ∷ rest) = rw (placed-inserted rows place rest) refl

pub ordered-sorted : (rows : List RowId) (places : List ℕ) → ordered rows places ≡ sorted (by_id rows) places
unfolding ordered sorted
ordered-sorted rows [] = refl
ordered-sorted rows (place ∷ places) = rw (ordered-sorted rows places) (placed-inserted rows place (sorted (by_id rows) places))

-- ---- ids with places

abbrev by_key : Option ℤ × ℕ → Option ℤ × ℕ → Ordering
by_key a b = ordering_then (option_cmp int_cmp a.0 b.0) (nat_cmp a.1 b.1)

abbrev IsKeyed : List RowId → Option ℤ × ℕ → Type 0
IsKeyed rows key = key ≡ keyed rows key.1

all_are_keyed : (rows : List RowId) (places : List ℕ) → All (IsKeyed rows) (map (keyed rows) places)
all_are_keyed rows places k d within =
    let e : get_or (map (keyed rows) places) k d ≡ keyed rows (get_or places k 0) = get_or-map (keyed rows) places k 0 d (simp length-map at within) in
    rw e refl

places_back : (rows : List RowId) (places : List ℕ) → map (λ (key : Option ℤ × ℕ). key.1) (map (keyed rows) places) ≡ places
places_back rows [] = refl
places_back rows (place ∷ places) = ap (λ (ps : List ℕ). place ∷ ps) (places_back rows places)

keyed_alike : (rows : List RowId) (x y : Option ℤ × ℕ) → IsKeyed rows x → IsKeyed rows y → by_key x y ≡ by_id rows x.1 y.1
keyed_alike rows x y of_x of_y =
    let first : x.0 ≡ id_at rows x.1 = ap (λ (key : Option ℤ × ℕ). key.0) of_x in
    let second : y.0 ≡ id_at rows y.1 = ap (λ (key : Option ℤ × ℕ). key.0) of_y in
    rw (first, second) refl

sorted_places : (rows : List RowId) (keys : List (Option ℤ × ℕ)) → All (IsKeyed rows) keys → IsSorted by_key keys → IsSorted (by_id rows) (map (λ (key : Option ℤ × ℕ). key.1) keys)
sorted_places rows keys are up k d low high =
    let within : k + 1 < length keys = simp length-map at high in
    let key : Option ℤ × ℕ = (None, d) in
    let later : get_or (map (λ (key : Option ℤ × ℕ). key.1) keys) (k + 1) d ≡ (get_or keys (k + 1) key).1 = get_or-map (λ (key : Option ℤ × ℕ). key.1) keys (k + 1) key d within in
    let earlier : get_or (map (λ (key : Option ℤ × ℕ). key.1) keys) k d ≡ (get_or keys k key).1 = get_or-map (λ (key : Option ℤ × ℕ). key.1) keys k key d (omega arith) in
    let alike = keyed_alike rows (get_or keys (k + 1) key) (get_or keys k key) (are (k + 1) key within) (are k key (omega arith)) in
    rw (later, earlier) (ap is_lt (sym alike) ∙ up k key low within)

pub sorted_keys : (rows : List RowId) (keys : List (Option ℤ × ℕ)) → IsPermutation (all_keyed rows) keys → IsSorted by_key keys → map (λ (key : Option ℤ × ℕ). key.1) keys ≡ in_id_order rows
unfolding in_id_order
sorted_keys rows keys same up =
    let places : List ℕ = range_with_len 0 (length rows) in
    let are : All (IsKeyed rows) keys = All-permutation (IsKeyed rows) (all_keyed rows) keys same (all_are_keyed rows places) in
    let moved : IsPermutation places (map (λ (key : Option ℤ × ℕ). key.1) keys) = subst (λ (ps : List ℕ). IsPermutation ps (map (λ (key : Option ℤ × ℕ). key.1) keys)) (places_back rows places) (IsPermutation-map (λ (key : Option ℤ × ℕ). key.1) (all_keyed rows) keys same) in
    sorted_is (by_id rows) (linear_by_id rows) places (map (λ (key : Option ℤ × ℕ). key.1) keys) moved (sorted_places rows keys are up)
    ∙ sym (ordered-sorted rows places)

pub keyed_more : (rows : List RowId) (place : ℕ) (keys : List (Option ℤ × ℕ)) → keys ≡ map (keyed rows) (range_with_len 0 place) → keys ++ keyed rows place ∷ [] ≡ map (keyed rows) (range_with_len 0 (place + 1))
keyed_more rows place keys is = rw is (sym (map-range_with_len_more (keyed rows) 0 place place (omega arith)))
