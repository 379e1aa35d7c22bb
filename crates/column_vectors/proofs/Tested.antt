-- Flags by a test of a row's place.
use Rattle.std.proofs.Common.{◌≡◌, ℕ, zero, suc, ◌+◌, ◌<◌, ◌≤◌, List, [], ◌∷◌, ◌++◌, length, take, slice_get, get_or, inl, inr, Bool, false, Some, refl, sym, ap, ◌∙◌, arith, length-append, add-one}
use Rattle.std.proofs.Math.ListN.{get_or-append}
use Rattle.std.proofs.Math.Nat.{le_of_suc-le-suc, eq-or-lt_of_le}
use Rattle.std.proofs.lemmas.List.{take-append-le, take_all, get_or_push}
use Rattle.std.proofs.lemmas.Option.{slice_get-get_or}
use Rattle.column_vectors.proofs.Counts.{count_of-le}
use Rattle.column_vectors.specs.Flags.{count_of, flags_of}

pub length-flags_of : (n : ℕ) (f : ℕ → Bool) → length (flags_of n f) ≡ n
unfolding flags_of
length-flags_of zero f = refl
length-flags_of (suc n) f = omega (arith, length-append (flags_of n f) (f n ∷ []), length-flags_of n f)

pub flags_of-none : (f : ℕ → Bool) → flags_of 0 f ≡ []
unfolding flags_of
flags_of-none f = refl

pub flags_of-more : (n : ℕ) (f : ℕ → Bool) → flags_of (n + 1) f ≡ flags_of n f ++ f n ∷ []
unfolding flags_of
flags_of-more n f = rw add-one refl

-- tests that agree below the number of rows give the same flags
pub flags_of-same : (n : ℕ) (f g : ℕ → Bool) → ((i : ℕ) → i < n → f i ≡ g i) → flags_of n f ≡ flags_of n g
unfolding flags_of
flags_of-same zero f g same = refl
flags_of-same (suc n) f g same =
    ap (λ (b : Bool). flags_of n f ++ b ∷ []) (same n (omega arith)) ∙ ap (λ (fs : List Bool). fs ++ g n ∷ []) (flags_of-same n f g (λ i low. same i (omega arith)))

pub take-flags_of : (n i : ℕ) (f : ℕ → Bool) → i ≤ n → take i (flags_of n f) ≡ flags_of i f
unfolding flags_of
take-flags_of zero i f le = let e : i ≡ 0 = omega arith in rw e refl
take-flags_of (suc n) i f le =
    elim (eq-or-lt_of_le le) [
      | inl e ↦ rw e (take_all (suc n) (flags_of (suc n) f) (omega (arith, length-flags_of (suc n) f)))
      | inr low ↦ take-append-le i (flags_of n f) (f n ∷ []) (omega (arith, length-flags_of n f)) ∙ take-flags_of n i f (omega arith)
    ]

get_or-flags_of : (n i : ℕ) (f : ℕ → Bool) (d : Bool) → i < n → get_or (flags_of n f) i d ≡ f i
unfolding flags_of
get_or-flags_of zero i f d low = absurd (omega arith)
get_or-flags_of (suc n) i f d low =
    elim (eq-or-lt_of_le (le_of_suc-le-suc low)) [
      | inl e ↦ get_or_push (flags_of n f) (f n) d i (length-flags_of n f ∙ sym e) ∙ ap f (sym e)
      | inr less ↦ get_or-append (flags_of n f) (f n ∷ []) d i (omega (arith, length-flags_of n f)) ∙ get_or-flags_of n i f d less
    ]

pub slice_get-flags_of : (n i : ℕ) (f : ℕ → Bool) → i < n → slice_get (flags_of n f) i ≡ Some (f i)
slice_get-flags_of n i f low = slice_get-get_or (flags_of n f) i false (omega (arith, length-flags_of n f)) ∙ ap Some (get_or-flags_of n i f false low)

pub count_of-flags_of-le : (n : ℕ) (f : ℕ → Bool) → count_of (flags_of n f) ≤ n
count_of-flags_of-le n f = omega (arith, count_of-le (flags_of n f), length-flags_of n f)
