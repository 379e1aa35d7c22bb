-- Sorted lists of bytes are those that `in_byte_order` gives.
use Rattle.std.proofs.Common.{◌≡◌, ℕ, ◌+◌, ◌<◌, List, [], ◌∷◌, length, get_or, map, refl, sym, ap, ◌∙◌, arith}
use Rattle.std.specs.Cmp.Lexicographic.{slice_cmp}
use Rattle.std.specs.List.Sorted.{IsPermutation, IsSorted}
use Rattle.std.specs.Ordering.{nat_cmp, is_eq}
use Rattle.std.proofs.lemmas.Cmp.{nat_list_cmp_total}
use Rattle.std.proofs.lemmas.List.{get_or-map, length-map}
use Rattle.std.proofs.lemmas.List.Sorted.{IsPermutation-map}
use Rattle.std.proofs.lemmas.Map.Text.{is_eq-slice_cmp}
use Rattle.std.proofs.lemmas.Slice.Eq.{bytes_eq-Decides}
use Rattle.dm_types.specs.Order.{placed, in_byte_order}
use Rattle.row_tracking.proofs.Sorting.{IsLinear, inserted, sorted, sorted_is}

by_bytes : IsLinear (slice_cmp nat_cmp)
by_bytes = record {
  total = nat_list_cmp_total;
  same = λ a b equal. (bytes_eq-Decides a b).0 (sym (is_eq-slice_cmp a b) ∙ ap is_eq equal);
}

placed-inserted : (text : List ℕ) (texts : List (List ℕ)) → placed text texts ≡ inserted (slice_cmp nat_cmp) text texts
unfolding placed inserted
placed-inserted text [] = refl
placed-inserted text (first ∷ rest) = rw (placed-inserted text rest) refl

order-sorted : (texts : List (List ℕ)) → in_byte_order texts ≡ sorted (slice_cmp nat_cmp) texts
unfolding in_byte_order sorted
order-sorted [] = refl
order-sorted (text ∷ texts) = rw (order-sorted texts) (placed-inserted text (sorted (slice_cmp nat_cmp) texts))

sorted_mapped : {X : Type 0} (f : X → List ℕ) (xs : List X) → IsSorted (λ x y. slice_cmp nat_cmp (f x) (f y)) xs → IsSorted (slice_cmp nat_cmp) (map f xs)
sorted_mapped f [] up k d low high = absurd (omega arith)
sorted_mapped f (x ∷ xs) up k d low high =
    let within : k + 1 < length (x ∷ xs) = rw (length-map (x ∷ xs) f) at high in
    let later : get_or (map f (x ∷ xs)) (k + 1) d ≡ f (get_or (x ∷ xs) (k + 1) x) = get_or-map f (x ∷ xs) (k + 1) x d within in
    let earlier : get_or (map f (x ∷ xs)) k d ≡ f (get_or (x ∷ xs) k x) = get_or-map f (x ∷ xs) k x d (omega arith) in
    rw (later, earlier) (up k x low within)

pub sorted_lines : {X : Type 0} (f : X → List ℕ) (old new : List X) → IsPermutation old new → IsSorted (λ x y. slice_cmp nat_cmp (f x) (f y)) new → map f new ≡ in_byte_order (map f old)
sorted_lines f old new same up =
    sorted_is (slice_cmp nat_cmp) by_bytes (map f old) (map f new) (IsPermutation-map f old new same) (sorted_mapped f new up)
    ∙ sym (order-sorted (map f old))
