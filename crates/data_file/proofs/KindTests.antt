-- Kinds of changes, row after row.
use Rattle.std.proofs.Common.{◌≡◌, ℕ, zero, suc, ◌+◌, ◌<◌, ◌≤◌, Bool, true, false, List, [], ◌∷◌, Some, length, get_or, take, slice_get, refl, sym, ap, ◌∙◌, arith}
use Rattle.std.specs.Prelude.{◌&&◌}
use Rattle.std.specs.List.{list_all}
use Rattle.std.proofs.lemmas.List.{take_all}
use Rattle.std.proofs.lemmas.List.Folds.{list_all_more}
use Rattle.std.proofs.lemmas.Option.{get_or_from_slice_get, slice_get_within}

and-false : (b : Bool) → (b && false) ≡ false
and-false true = refl
and-false false = refl

none_at : {X : Type 0} (p : X → Bool) (xs : List X) (k : ℕ) (d : X) → k < length xs → p (get_or xs k d) ≡ false → list_all p xs ≡ false
none_at p [] k d inside bad = absurd (omega arith)
none_at p (x ∷ xs) zero d inside bad = rw bad refl
none_at p (x ∷ xs) (suc k) d inside bad = let rest : list_all p xs ≡ false = none_at p xs k d (omega arith) bad in rw rest (and-false (p x))

-- an element that fails
pub not_all : {X : Type 0} (p : X → Bool) (xs : List X) (k : ℕ) (x : X) → slice_get xs k ≡ Some x → p x ≡ false → list_all p xs ≡ false
not_all p xs k x is bad = none_at p xs k x (slice_get_within xs k x is) (ap p (get_or_from_slice_get xs k x x is) ∙ bad)

-- one more element that passes
pub all-more : {X : Type 0} (p : X → Bool) (xs : List X) (k : ℕ) (x : X) → list_all p (take k xs) ≡ true → slice_get xs k ≡ Some x → p x ≡ true → list_all p (take (k + 1) xs) ≡ true
all-more p xs k x before is good =
    let here : p (get_or xs k x) ≡ true = ap p (get_or_from_slice_get xs k x x is) ∙ good in
    list_all_more p xs k x (slice_get_within xs k x is) ∙ rw (before, here) refl

pub all-last : {X : Type 0} (p : X → Bool) (xs : List X) (k : ℕ) → length xs ≤ k → list_all p (take k xs) ≡ true → true ≡ list_all p xs
all-last p xs k past before = sym before ∙ ap (list_all p) (take_all k xs past)
