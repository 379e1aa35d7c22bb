-- What sorting and `dedup` leave, and what a listing with further names says.
use Rattle.std.proofs.Common.{◌≡◌, ℕ, List, [], ◌∷◌, ◌++◌, Bool, true, false, cond, ◌||◌, Ok, refl, ap, sym, ◌∙◌}
use Rattle.std.specs.List.{IsDistinct, AllByRecursion, list_any, dedup, dedup_from}
use Rattle.std.specs.List.Sorted.{IsSorted, IsPermutation}
use Rattle.std.specs.Str.{bytes_eq}
use Rattle.std.specs.Cmp.Lexicographic.{slice_cmp, texts_ties, nat_list_cmp_total}
use Rattle.std.specs.Ordering.{nat_cmp, eq_by_cmp}
use Rattle.std.proofs.lemmas.List.Folds.{list_any-append}
use Rattle.std.proofs.lemmas.List.Kept.{IsStrictlySortedBy-dedup}
use Rattle.std.proofs.lemmas.List.Sorted.{list_any-IsPermutation}
use Rattle.std.proofs.lemmas.Map.Keys.{IsDistinct-from_sorted}
use Rattle.std.proofs.lemmas.Slice.Eq.{bytes_eq-Decides}
use Rattle.dm_store.specs.Files.{Files, is_among, names_below, ListsBoth}

apart_by : {X : Type 0} (E F : X → X → Bool) → ((x y : X) → E x y ≡ F x y) → (x : X) (xs : List X) → AllByRecursion (λ y. F x y ≡ false) xs → AllByRecursion (λ y. E x y ≡ false) xs
apart_by E F same x [] apart = tt
apart_by E F same x (y ∷ ys) apart = (same x y ∙ apart.0, apart_by E F same x ys apart.1)

-- equal tests find the same lists distinct
distinct_by : {X : Type 0} (E F : X → X → Bool) → ((x y : X) → E x y ≡ F x y) → (xs : List X) → IsDistinct F xs → IsDistinct E xs
unfolding IsDistinct
distinct_by E F same [] apart = tt
distinct_by E F same (x ∷ xs) apart = (apart_by E F same x xs apart.0, distinct_by E F same xs apart.1)

-- what `dedup` leaves of sorted texts is distinct
pub distinct-dedup : (texts : List (List ℕ)) → IsSorted (slice_cmp nat_cmp) texts → IsDistinct bytes_eq (dedup bytes_eq texts)
distinct-dedup texts sorted =
    distinct_by bytes_eq (eq_by_cmp (slice_cmp nat_cmp)) texts_ties (dedup bytes_eq texts) (IsDistinct-from_sorted (slice_cmp nat_cmp) (dedup bytes_eq texts) (IsStrictlySortedBy-dedup nat_list_cmp_total texts_ties texts sorted))

or_again : (b c : Bool) → (b || c) ≡ (b || (b || c))
or_again true c = refl
or_again false c = refl

kept_cases : {X : Type 0} (p : X → Bool) (k x : X) (rest : Bool) (ks xs : List X) (same : Bool) → (same ≡ true → x ≡ k) → list_any p ks ≡ (p k || rest) → list_any p xs ≡ (p x || rest) → list_any p (cond same ks (k ∷ xs)) ≡ (p k || (p x || rest))
kept_cases p k x rest ks xs true is kept next = kept ∙ or_again (p k) rest ∙ ap (λ z. p k || (p z || rest)) (sym (is refl))
kept_cases p k x rest ks xs false is kept next = ap (λ b. p k || b) next

kept_from : {X : Type 0} (E : X → X → Bool) → ((x y : X) → E x y ≡ true → x ≡ y) → (p : X → Bool) (k : X) (xs : List X) → list_any p (dedup_from E k xs) ≡ (p k || list_any p xs)
kept_from E decides p k [] = refl
kept_from E decides p k (x ∷ xs) = kept_cases p k x (list_any p xs) (dedup_from E k xs) (dedup_from E x xs) (E x k) (decides x k) (kept_from E decides p k xs) (kept_from E decides p x xs)

-- `dedup` leaves the texts that were there
pub among-dedup : (text : List ℕ) (texts : List (List ℕ)) → is_among text (dedup bytes_eq texts) ≡ is_among text texts
among-dedup text [] = refl
among-dedup text (t ∷ ts) = kept_from bytes_eq (λ x y. (bytes_eq-Decides x y).0) (bytes_eq text) t ts

-- a listing whose names were joined to further ones, and then each left once
pub lists-both : (dir : List ℕ) (files : Files) (names added once : List (List ℕ)) → IsPermutation (names_below dir files) names → IsDistinct bytes_eq once → ((text : List ℕ) → is_among text once ≡ is_among text (names ++ added)) → ListsBoth dir files added (Ok once)
lists-both dir files names added once listed distinct same = (
  distinct,
  λ name.
      same name ∙ list_any-append (bytes_eq name) names added ∙ ap (λ b. b || is_among name added) (sym (list_any-IsPermutation (bytes_eq name) (names_below dir files) names listed)),
)
