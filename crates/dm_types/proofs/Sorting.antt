-- A sorted list of the same texts is the one that `in_byte_order` gives.
use Rattle.std.proofs.Common.{◌≡◌, ◌⊎◌, ℕ, zero, suc, ◌+◌, ◌<◌, List, [], ◌∷◌, length, get_or, refl, sym, ap, ◌∙◌, inl, inr, Bool, true, false, arith}
use Rattle.std.proofs.Math.ListN.{set}
use Rattle.std.specs.List.{swap}
use Rattle.std.specs.List.Sorted.{IsPermutation, IsSorted}
use Rattle.std.specs.Cmp.Lexicographic.{slice_cmp}
use Rattle.std.specs.Ordering.{nat_cmp, is_eq, ordering_reverse}
use Rattle.std.specs.Str.{bytes_eq}
use Rattle.std.specs.declared.cmp.Ordering.{Ordering}
use Rattle.std.specs.declared.cmp.Ordering.TheVariants.{Less, Equal, Greater}
use Rattle.std.proofs.lemmas.Cmp.{nat_list_cmp_total}
use Rattle.std.proofs.lemmas.List.Sorted.{IsPermutation-keeps}
use Rattle.std.proofs.lemmas.Map.Text.{is_eq-slice_cmp}
use Rattle.std.proofs.lemmas.Slice.Eq.{bytes_eq-Decides}
use Rattle.dm_types.specs.Order.{is_below, placed, in_byte_order}

-- the first text stands before the second, and not the other way round
pub record Before (a b : List ℕ) : Type 0 where
  pub is : is_below a b ≡ true
  pub other : is_below b a ≡ false

compared : (a b : List ℕ) (o p : Ordering) → slice_cmp nat_cmp a b ≡ o → slice_cmp nat_cmp b a ≡ p → o ≡ ordering_reverse p → ((a ≡ b) ⊎ (Before a b ⊎ Before b a))
compared a b Less Less ab ba turned = absurd cc
compared a b Less Equal ab ba turned = absurd cc
compared a b Less Greater ab ba turned = inr (inl (record { is = rw ab refl; other = rw ba refl }))
compared a b Equal p ab ba turned =
    let equal : bytes_eq a b ≡ true = sym (is_eq-slice_cmp a b) ∙ ap is_eq ab in
    inl ((bytes_eq-Decides a b).0 equal)
compared a b Greater Less ab ba turned = inr (inr (record { is = rw ba refl; other = rw ab refl }))
compared a b Greater Equal ab ba turned = absurd cc
compared a b Greater Greater ab ba turned = absurd cc

either_order : (a b : List ℕ) → ((a ≡ b) ⊎ (Before a b ⊎ Before b a))
either_order a b = compared a b (slice_cmp nat_cmp a b) (slice_cmp nat_cmp b a) refl refl (nat_list_cmp_total.antisymm a b)

-- what stands before a text stands before all that are behind it
below_by : (x a b : List ℕ) (o p q : Ordering) → slice_cmp nat_cmp x a ≡ o → slice_cmp nat_cmp a b ≡ p → slice_cmp nat_cmp x b ≡ q → (o ≡ Less → p ≡ Less → q ≡ Less) → is_below x a ≡ true → is_below a b ≡ true → is_below x b ≡ true
below_by x a b Less Less q xa ab xb less h k = let e : q ≡ Less = less refl refl in rw (xb, e) refl
below_by x a b Less Equal q xa ab xb less h k = let z = rw ab at k in absurd cc
below_by x a b Less Greater q xa ab xb less h k = let z = rw ab at k in absurd cc
below_by x a b Equal p q xa ab xb less h k = let z = rw xa at h in absurd cc
below_by x a b Greater p q xa ab xb less h k = let z = rw xa at h in absurd cc

below_all : (x a b : List ℕ) → is_below x a ≡ true → is_below a b ≡ true → is_below x b ≡ true
below_all x a b xa ab =
    below_by x a b (slice_cmp nat_cmp x a) (slice_cmp nat_cmp a b) (slice_cmp nat_cmp x b) refl refl refl (nat_list_cmp_total.trans x a b) xa ab

-- two texts of which the first stands before the second go to their places in either order
placed_step : (a b x : List ℕ) (texts : List (List ℕ)) (s t : Bool) → is_below x b ≡ s → is_below x a ≡ t → Before a b → placed a (placed b texts) ≡ placed b (placed a texts) → placed a (placed b (x ∷ texts)) ≡ placed b (placed a (x ∷ texts))
unfolding placed
placed_step a b x texts true true xb xa ab rest = rw (xb, xa, xb) (ap (λ (ts : List (List ℕ)). x ∷ ts) rest)
placed_step a b x texts true false xb xa ab rest = rw (xb, xa, ab.is, xb) refl
placed_step a b x texts false true xb xa ab rest = let z = below_all x a b xa ab.is in absurd cc
placed_step a b x texts false false xb xa ab rest = rw (xb, xa, ab.other, ab.is, xb) refl

placed_before : (a b : List ℕ) (texts : List (List ℕ)) → Before a b → placed a (placed b texts) ≡ placed b (placed a texts)
unfolding placed
placed_before a b [] ab = rw (ab.other, ab.is) refl
placed_before a b (x ∷ texts) ab = placed_step a b x texts (is_below x b) (is_below x a) refl refl ab (placed_before a b texts ab)

-- two texts go to their places in either order
placed-placed : (a b : List ℕ) (texts : List (List ℕ)) → placed a (placed b texts) ≡ placed b (placed a texts)
placed-placed a b texts =
    elim (either_order a b) [
      | inl same ↦ rw same refl
      | inr apart ↦ elim apart [ inl ab ↦ placed_before a b texts ab | inr ba ↦ sym (placed_before b a texts ba) ]
    ]

-- the other elements
without : List (List ℕ) → ℕ → List (List ℕ)
without [] i = []
without (x ∷ xs) zero = xs
without (x ∷ xs) (suc i) = x ∷ without xs i

order-at : (texts : List (List ℕ)) (i : ℕ) (d : List ℕ) → i < length texts → in_byte_order texts ≡ placed (get_or texts i d) (in_byte_order (without texts i))
unfolding in_byte_order without
order-at [] i d within = absurd (omega arith)
order-at (x ∷ xs) zero d within = refl
order-at (x ∷ xs) (suc i) d within = ap (placed x) (order-at xs i d (omega arith)) ∙ placed-placed x (get_or xs i d) (in_byte_order (without xs i))

order-set : (texts : List (List ℕ)) (i : ℕ) (y : List ℕ) → i < length texts → in_byte_order (set texts i y) ≡ placed y (in_byte_order (without texts i))
unfolding in_byte_order without
order-set [] i y within = absurd (omega arith)
order-set (x ∷ xs) zero y within = refl
order-set (x ∷ xs) (suc i) y within = ap (placed x) (order-set xs i y (omega arith)) ∙ placed-placed x y (in_byte_order (without xs i))

order-exchange : (x : List ℕ) (xs : List (List ℕ)) (j : ℕ) (d : List ℕ) → j < length xs → in_byte_order (get_or xs j d ∷ set xs j x) ≡ in_byte_order (x ∷ xs)
unfolding in_byte_order
order-exchange x xs j d within =
    ap (placed (get_or xs j d)) (order-set xs j x within) ∙ placed-placed (get_or xs j d) x (in_byte_order (without xs j)) ∙ ap (placed x) (sym (order-at xs j d within))

order-sets : (texts : List (List ℕ)) (i j : ℕ) (d : List ℕ) → i < length texts → j < length texts → in_byte_order (set (set texts i (get_or texts j d)) j (get_or texts i d)) ≡ in_byte_order texts
unfolding in_byte_order
order-sets [] i j d first second = absurd (omega arith)
order-sets (x ∷ xs) zero zero d first second = refl
order-sets (x ∷ xs) zero (suc j) d first second = order-exchange x xs j d (omega arith)
order-sets (x ∷ xs) (suc i) zero d first second = order-exchange x xs i d (omega arith)
order-sets (x ∷ xs) (suc i) (suc j) d first second = ap (placed x) (order-sets xs i j d (omega arith) (omega arith))

order-swap : (texts : List (List ℕ)) (i j : ℕ) → i < length texts → j < length texts → in_byte_order (swap texts i j) ≡ in_byte_order texts
order-swap [] i j first second = refl
order-swap (x ∷ xs) i j first second = order-sets (x ∷ xs) i j x first second

sorted_tail : (x : List ℕ) (xs : List (List ℕ)) → IsSorted (slice_cmp nat_cmp) (x ∷ xs) → IsSorted (slice_cmp nat_cmp) xs
sorted_tail x xs up k d low high =
    let next : suc k + 1 ≡ suc (k + 1) = omega arith in
    rw next at (up (suc k) d (omega arith) (omega arith))

-- what is sorted stays as it is
order-sorted : (texts : List (List ℕ)) → IsSorted (slice_cmp nat_cmp) texts → in_byte_order texts ≡ texts
unfolding in_byte_order placed
order-sorted [] up = refl
order-sorted (x ∷ []) up = refl
order-sorted (x ∷ y ∷ more) up =
    let first : is_below y x ≡ false = up 0 x (omega arith) (omega arith) in
    rw (order-sorted (y ∷ more) (sorted_tail x (y ∷ more) up), first) refl

pub sorted-in_byte_order : (old new : List (List ℕ)) → IsPermutation old new → IsSorted (slice_cmp nat_cmp) new → new ≡ in_byte_order old
sorted-in_byte_order old new same up =
    sym (order-sorted new up) ∙ IsPermutation-keeps old (λ texts. in_byte_order texts ≡ in_byte_order old) refl (λ texts i j first second is. order-swap texts i j first second ∙ is) new same
