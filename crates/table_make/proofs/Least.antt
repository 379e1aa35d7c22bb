-- The least of places that are found one after another.
use Rattle.std.proofs.Common.{◌≡◌, ℕ, ◌+◌, ◌<◌, ◌≤◌, min, List, [], ◌∷◌, ◌++◌, length, drop, get_or, Option, Some, None, refl, sym, ap, ◌∙◌, arith}
use Rattle.std.proofs.Math.ListN.{drop_of_length-le}
use Rattle.std.specs.List.{cons_option, filter_map, fold, reduce}
use Rattle.table_make.proofs.Following.{here}
use Rattle.table_make.specs.Steps.{earlier}

-- ---- the lesser of two

min_moved : (a b c : ℕ) → min (min a b) c ≡ min a (min b c)
min_moved a b c = omega arith

pub moved : (a b c : Option ℕ) → earlier (earlier a b) c ≡ earlier a (earlier b c)
moved None b c = refl
moved (Some a) None c = refl
moved (Some a) (Some b) None = refl
moved (Some a) (Some b) (Some c) = ap Some (min_moved a b c)

pub alone : (a : Option ℕ) → earlier a None ≡ a
alone None = refl
alone (Some a) = refl

-- ---- the least of a list

folded : (a b : ℕ) (xs : List ℕ) → fold min (min a b) xs ≡ min a (fold min b xs)
folded a b [] = refl
folded a b (x ∷ xs) = ap (λ m. fold min m xs) (min_moved a b x) ∙ folded a (min b x) xs

least_of : (a : ℕ) (xs : List ℕ) → reduce min (a ∷ xs) ≡ earlier (Some a) (reduce min xs)
least_of a [] = refl
least_of a (b ∷ xs) = ap Some (folded a b xs)

pub joined : (xs ys : List ℕ) → reduce min (xs ++ ys) ≡ earlier (reduce min xs) (reduce min ys)
joined [] ys = refl
joined (x ∷ xs) ys =
    least_of x (xs ++ ys)
    ∙ ap (earlier (Some x)) (joined xs ys)
    ∙ sym (moved (Some x) (reduce min xs) (reduce min ys))
    ∙ ap (λ (first : Option ℕ). earlier first (reduce min ys)) (sym (least_of x xs))

with_one : (a : Option ℕ) (xs : List ℕ) → reduce min (cons_option a xs) ≡ earlier a (reduce min xs)
with_one None xs = refl
with_one (Some a) xs = least_of a xs

-- ---- one list behind the other

pub then_both : (found : Option ℕ) (a b : List ℕ) → earlier (earlier found (reduce min a)) (reduce min b) ≡ earlier found (reduce min (a ++ b))
then_both found a b = moved found (reduce min a) (reduce min b) ∙ ap (earlier found) (sym (joined a b))

pub five : (a b c d e : List ℕ)
    → earlier (earlier (earlier (earlier (reduce min a) (reduce min b)) (reduce min c)) (reduce min d)) (reduce min e) ≡ reduce min (a ++ b ++ c ++ d ++ e)
five a b c d e =
    ap (λ it. earlier (earlier (earlier it (reduce min c)) (reduce min d)) (reduce min e)) (sym (joined a b))
    ∙ ap (λ it. earlier (earlier it (reduce min d)) (reduce min e)) (sym (joined (a ++ b) c))
    ∙ ap (λ it. earlier it (reduce min e)) (sym (joined (a ++ b ++ c) d))
    ∙ sym (joined (a ++ b ++ c ++ d) e)

pub six : (a b c d e f : List ℕ)
    → earlier (earlier (earlier (earlier (earlier (reduce min a) (reduce min b)) (reduce min c)) (reduce min d)) (reduce min e)) (reduce min f)
    ≡ reduce min (a ++ b ++ c ++ d ++ e ++ f)
six a b c d e f =
    ap (λ it. earlier it (reduce min f)) (five a b c d e)
    ∙ sym (joined (a ++ b ++ c ++ d ++ e) f)

-- ---- in turn

pub then_one : {A : Type 0} (f : A → Option ℕ) (a : A) (more : List A) (found now : Option ℕ) → now ≡ earlier found (f a)
    → earlier found (reduce min (filter_map f (a ∷ more))) ≡ earlier now (reduce min (filter_map f more))
then_one f a more found now is =
    ap (earlier found) (with_one (f a) (filter_map f more))
    ∙ sym (moved found (f a) (reduce min (filter_map f more)))
    ∙ ap (λ (first : Option ℕ). earlier first (reduce min (filter_map f more))) (sym is)

pub step : {A : Type 0} (f : A → Option ℕ) (xs : List A) (a : A) (i : ℕ) (found now total : Option ℕ) → i < length xs → a ≡ get_or xs i a → now ≡ earlier found (f a)
    → total ≡ earlier found (reduce min (filter_map f (drop i xs))) → total ≡ earlier now (reduce min (filter_map f (drop (i + 1) xs)))
step {A = A} f xs a i found now total within is new before =
    before
    ∙ ap (λ (rest : List A). earlier found (reduce min (filter_map f rest))) (here xs i a within is)
    ∙ then_one f a (drop (i + 1) xs) found now new

pub end : {A : Type 0} (f : A → Option ℕ) (xs : List A) (i : ℕ) (found total : Option ℕ) → length xs ≤ i
    → total ≡ earlier found (reduce min (filter_map f (drop i xs))) → found ≡ total
end {A = A} f xs i found total beyond before =
    sym (before ∙ ap (λ (rest : List A). earlier found (reduce min (filter_map f rest))) (drop_of_length-le xs beyond) ∙ alone found)
