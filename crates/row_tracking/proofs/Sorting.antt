-- A sorted list of the same elements is the one that insertion gives, in an order in which two different elements never
-- tie.
use Rattle.std.proofs.Common.{◌≡◌, ◌⊎◌, ℕ, zero, suc, ◌+◌, ◌<◌, List, [], ◌∷◌, length, get_or, refl, sym, ap, ◌∙◌, inl, inr, Bool, true, false, cond, arith, is_lt}
use Rattle.std.proofs.Math.ListN.{set}
use Rattle.std.specs.Cmp.{IsTotalOrder}
use Rattle.std.specs.List.{swap}
use Rattle.std.specs.List.Sorted.{IsPermutation, IsSorted}
use Rattle.std.specs.Ordering.{ordering_reverse}
use Rattle.std.specs.declared.cmp.Ordering.{Ordering}
use Rattle.std.specs.declared.cmp.Ordering.TheVariants.{Less, Equal, Greater}
use Rattle.std.proofs.lemmas.List.Sorted.{IsPermutation-keeps}

-- an order in which two elements tie only where they are the same
pub record IsLinear {X : Type 0} (R : X → X → Ordering) : Type 0 where
  pub total : IsTotalOrder R
  pub same : (a b : X) → R a b ≡ Equal → a ≡ b

-- an element at its position among elements in order
unfoldable pub inserted : {X : Type 0} → (X → X → Ordering) → X → List X → List X
inserted R x [] = x ∷ []
inserted R x (first ∷ rest) = cond (is_lt (R first x)) (first ∷ inserted R x rest) (x ∷ first ∷ rest)

unfoldable pub sorted : {X : Type 0} → (X → X → Ordering) → List X → List X
sorted R [] = []
sorted R (x ∷ xs) = inserted R x (sorted R xs)

-- the first element stands before the second, and not the other way round
record Before {X : Type 0} (R : X → X → Ordering) (a b : X) : Type 0 where
  is : is_lt (R a b) ≡ true
  other : is_lt (R b a) ≡ false

compared : {X : Type 0} (R : X → X → Ordering) → IsLinear R → (a b : X) (o p : Ordering) → R a b ≡ o → R b a ≡ p → o ≡ ordering_reverse p → ((a ≡ b) ⊎ (Before R a b ⊎ Before R b a))
compared R linear a b Less Less ab ba turned = absurd cc
compared R linear a b Less Equal ab ba turned = absurd cc
compared R linear a b Less Greater ab ba turned = inr (inl (record { is = rw ab refl; other = rw ba refl }))
compared R linear a b Equal p ab ba turned = inl (linear.same a b ab)
compared R linear a b Greater Less ab ba turned = inr (inr (record { is = rw ba refl; other = rw ab refl }))
compared R linear a b Greater Equal ab ba turned = absurd cc
compared R linear a b Greater Greater ab ba turned = absurd cc

either_order : {X : Type 0} (R : X → X → Ordering) → IsLinear R → (a b : X) → ((a ≡ b) ⊎ (Before R a b ⊎ Before R b a))
either_order R linear a b = compared R linear a b (R a b) (R b a) refl refl (linear.total.antisymm a b)

-- what stands before an element stands before all that are behind it
below_by : {X : Type 0} (R : X → X → Ordering) → (x a b : X) (o p q : Ordering) → R x a ≡ o → R a b ≡ p → R x b ≡ q → (o ≡ Less → p ≡ Less → q ≡ Less) → is_lt (R x a) ≡ true → is_lt (R a b) ≡ true → is_lt (R x b) ≡ true
below_by R x a b Less Less q xa ab xb less h k = let e : q ≡ Less = less refl refl in rw (xb, e) refl
below_by R x a b Less Equal q xa ab xb less h k = let z = rw ab at k in absurd cc
below_by R x a b Less Greater q xa ab xb less h k = let z = rw ab at k in absurd cc
below_by R x a b Equal p q xa ab xb less h k = let z = rw xa at h in absurd cc
below_by R x a b Greater p q xa ab xb less h k = let z = rw xa at h in absurd cc

below_all : {X : Type 0} (R : X → X → Ordering) → IsLinear R → (x a b : X) → is_lt (R x a) ≡ true → is_lt (R a b) ≡ true → is_lt (R x b) ≡ true
below_all R linear x a b xa ab = below_by R x a b (R x a) (R a b) (R x b) refl refl refl (linear.total.trans x a b) xa ab

-- two elements of which the first stands before the second go to their positions in either order
inserted_step : {X : Type 0} (R : X → X → Ordering) → IsLinear R → (a b x : X) (xs : List X) (s t : Bool) → is_lt (R x b) ≡ s → is_lt (R x a) ≡ t → Before R a b → inserted R a (inserted R b xs) ≡ inserted R b (inserted R a xs) → inserted R a (inserted R b (x ∷ xs)) ≡ inserted R b (inserted R a (x ∷ xs))
unfolding inserted
inserted_step R linear a b x xs true true xb xa ab rest = rw (xb, xa, xb) (ap (λ ys. x ∷ ys) rest)
inserted_step R linear a b x xs true false xb xa ab rest = rw (xb, xa, ab.is, xb) refl
inserted_step R linear a b x xs false true xb xa ab rest = let z = below_all R linear x a b xa ab.is in absurd cc
inserted_step R linear a b x xs false false xb xa ab rest = rw (xb, xa, ab.other, ab.is, xb) refl

inserted_before : {X : Type 0} (R : X → X → Ordering) → IsLinear R → (a b : X) (xs : List X) → Before R a b → inserted R a (inserted R b xs) ≡ inserted R b (inserted R a xs)
unfolding inserted
inserted_before R linear a b [] ab = rw (ab.other, ab.is) refl
inserted_before R linear a b (x ∷ xs) ab = inserted_step R linear a b x xs (is_lt (R x b)) (is_lt (R x a)) refl refl ab (inserted_before R linear a b xs ab)

-- two elements go to their positions in either order
inserted-inserted : {X : Type 0} (R : X → X → Ordering) → IsLinear R → (a b : X) (xs : List X) → inserted R a (inserted R b xs) ≡ inserted R b (inserted R a xs)
inserted-inserted R linear a b xs =
    elim (either_order R linear a b) [
      | inl same ↦ rw same refl
      | inr apart ↦ elim apart [ inl ab ↦ inserted_before R linear a b xs ab | inr ba ↦ sym (inserted_before R linear b a xs ba) ]
    ]

-- the other elements
without : {X : Type 0} → List X → ℕ → List X
without [] i = []
without (x ∷ xs) zero = xs
without (x ∷ xs) (suc i) = x ∷ without xs i

sorted-at : {X : Type 0} (R : X → X → Ordering) → IsLinear R → (xs : List X) (i : ℕ) (d : X) → i < length xs → sorted R xs ≡ inserted R (get_or xs i d) (sorted R (without xs i))
unfolding sorted without
sorted-at R linear [] i d within = absurd (omega arith)
sorted-at R linear (x ∷ xs) zero d within = refl
sorted-at R linear (x ∷ xs) (suc i) d within = ap (inserted R x) (sorted-at R linear xs i d (omega arith)) ∙ inserted-inserted R linear x (get_or xs i d) (sorted R (without xs i))

sorted-set : {X : Type 0} (R : X → X → Ordering) → IsLinear R → (xs : List X) (i : ℕ) (y : X) → i < length xs → sorted R (set xs i y) ≡ inserted R y (sorted R (without xs i))
unfolding sorted without
sorted-set R linear [] i y within = absurd (omega arith)
sorted-set R linear (x ∷ xs) zero y within = refl
sorted-set R linear (x ∷ xs) (suc i) y within = ap (inserted R x) (sorted-set R linear xs i y (omega arith)) ∙ inserted-inserted R linear x y (sorted R (without xs i))

sorted-exchange : {X : Type 0} (R : X → X → Ordering) → IsLinear R → (x : X) (xs : List X) (j : ℕ) (d : X) → j < length xs → sorted R (get_or xs j d ∷ set xs j x) ≡ sorted R (x ∷ xs)
unfolding sorted
sorted-exchange R linear x xs j d within =
    ap (inserted R (get_or xs j d)) (sorted-set R linear xs j x within)
    ∙ inserted-inserted R linear (get_or xs j d) x (sorted R (without xs j))
    ∙ ap (inserted R x) (sym (sorted-at R linear xs j d within))

sorted-sets : {X : Type 0} (R : X → X → Ordering) → IsLinear R → (xs : List X) (i j : ℕ) (d : X) → i < length xs → j < length xs → sorted R (set (set xs i (get_or xs j d)) j (get_or xs i d)) ≡ sorted R xs
unfolding sorted
sorted-sets R linear [] i j d first second = absurd (omega arith)
sorted-sets R linear (x ∷ xs) zero zero d first second = refl
sorted-sets R linear (x ∷ xs) zero (suc j) d first second = sorted-exchange R linear x xs j d (omega arith)
sorted-sets R linear (x ∷ xs) (suc i) zero d first second = sorted-exchange R linear x xs i d (omega arith)
sorted-sets R linear (x ∷ xs) (suc i) (suc j) d first second = ap (inserted R x) (sorted-sets R linear xs i j d (omega arith) (omega arith))

sorted-swap : {X : Type 0} (R : X → X → Ordering) → IsLinear R → (xs : List X) (i j : ℕ) → i < length xs → j < length xs → sorted R (swap xs i j) ≡ sorted R xs
sorted-swap R linear [] i j first second = refl
sorted-swap R linear (x ∷ xs) i j first second = sorted-sets R linear (x ∷ xs) i j x first second

-- the same elements in another order
pub sorted-permutation : {X : Type 0} (R : X → X → Ordering) → IsLinear R → (old new : List X) → IsPermutation old new → sorted R new ≡ sorted R old
sorted-permutation R linear old new same =
    IsPermutation-keeps old (λ xs. sorted R xs ≡ sorted R old) refl (λ xs i j first second is. sorted-swap R linear xs i j first second ∙ is) new same

sorted_tail : {X : Type 0} (R : X → X → Ordering) → (x : X) (xs : List X) → IsSorted R (x ∷ xs) → IsSorted R xs
sorted_tail R x xs up k d low high =
    let next : suc k + 1 ≡ suc (k + 1) = omega arith in
    rw next at (up (suc k) d (omega arith) (omega arith))

-- what is sorted stays as it is
pub sorted-sorted : {X : Type 0} (R : X → X → Ordering) → (xs : List X) → IsSorted R xs → sorted R xs ≡ xs
unfolding sorted inserted
sorted-sorted R [] up = refl
sorted-sorted R (x ∷ []) up = refl
sorted-sorted R (x ∷ y ∷ more) up =
    let first : is_lt (R y x) ≡ false = up 0 x (omega arith) (omega arith) in
    rw (sorted-sorted R (y ∷ more) (sorted_tail R x (y ∷ more) up), first) refl

pub sorted_is : {X : Type 0} (R : X → X → Ordering) → IsLinear R → (old new : List X) → IsPermutation old new → IsSorted R new → new ≡ sorted R old
sorted_is R linear old new same up = sym (sorted-sorted R new up) ∙ sorted-permutation R linear old new same
