-- In ascending numbers equal ones stand side by side.
use Rattle.std.proofs.Common.{◌≡◌, ◌⊎◌, ℕ, ◌+◌, ◌-◌, ◌<◌, ◌≤◌, ℤ, pos, ◌≤ℤ◌, List, length, get_or, Some, None, false, sym, ap, ◌∙◌, inl, inr, arith, int_cmp, is_lt}
use Rattle.std.specs.List.Sorted.{IsSorted}
use Rattle.std.proofs.lemmas.Bool.{cases_lt}
use Rattle.std.proofs.lemmas.Cmp.{int_cmp_total}
use Rattle.std.proofs.lemmas.Int.{ints}
use Rattle.std.proofs.lemmas.List.{get_or_default}
use Rattle.std.proofs.lemmas.List.Sorted.{sorted_far, ranks_by}
use Rattle.row_tracking.specs.Checked.{IsLeast}
use Rattle.row_tracking.specs.StepsChecked.{IsRepeated}

not_above : (x y : ℤ) → is_lt (int_cmp x y) ≡ false → y ≤ℤ x
not_above x y not_less = grind (arith, ints)

ascending : (xs : List ℤ) → IsSorted int_cmp xs → (i j : ℕ) → i ≤ j → j < length xs → get_or xs i (pos 0) ≤ℤ get_or xs j (pos 0)
ascending xs up i j order within =
    not_above (get_or xs j (pos 0)) (get_or xs i (pos 0)) (sorted_far (λ x y. is_lt (int_cmp x y)) (ranks_by int_cmp_total (λ (x : ℤ). x)) xs up i j (pos 0) order within)

-- no two neighbours below a place are equal
abbrev pub AreApart : List ℤ → ℕ → Type 0
AreApart xs high = (k : ℕ) → k + 1 < high → ¬ (get_or xs k (pos 0) ≡ get_or xs (k + 1) (pos 0))

pub apart_more : (xs : List ℤ) (i : ℕ) → 0 < i → AreApart xs i → ¬ (get_or xs (i - 1) (pos 0) ≡ get_or xs i (pos 0)) → AreApart xs (i + 1)
apart_more xs i some apart here k below same = by (cases_lt (k + 1) i)
  where
    by : ((k + 1 < i) ⊎ (i ≤ k + 1)) → ⊥
    by (inl less) = apart k less same
    by (inr past) =
        let e : i ≡ k + 1 = omega arith in
        let f : i - 1 ≡ k = omega arith in
        here (rw (f, e) same)

between : (a b c : ℤ) → a ≤ℤ b → b ≤ℤ c → a ≡ c → b ≡ c
between a b c ab bc same = omega (arith, ints)

-- a repeated number stands beside itself
beside : (xs : List ℤ) → IsSorted int_cmp xs → (n : ℤ) → (is : IsRepeated Some xs n) → get_or xs (is.second - 1) (pos 0) ≡ get_or xs is.second (pos 0)
beside xs up n is =
    let apart = is.apart in
    let within = is.within in
    let same : Some (get_or xs is.first (pos 0)) ≡ Some (get_or xs is.second (pos 0)) = is.at_first (pos 0) ∙ sym (is.at_second (pos 0)) in
    between _ _ _ (ascending xs up is.first (is.second - 1) (omega arith) (omega arith)) (ascending xs up (is.second - 1) is.second (omega arith) within) cc

-- the place of a repeated number isn't among neighbours that are apart
repeated_past : (xs : List ℤ) → IsSorted int_cmp xs → (i : ℕ) → AreApart xs i → (n : ℤ) → (is : IsRepeated Some xs n) → i ≤ is.second
repeated_past xs up i apart n is = by (cases_lt is.second i)
  where
    by : ((is.second < i) ⊎ (i ≤ is.second)) → i ≤ is.second
    by (inl less) =
        let order = is.apart in
        let e : is.second - 1 + 1 ≡ is.second = omega arith in
        absurd (apart (is.second - 1) (omega arith) (beside xs up n is ∙ ap (λ (k : ℕ). get_or xs k (pos 0)) (sym e)))
    by (inr past) = past

pub repeated_nowhere : (xs : List ℤ) → IsSorted int_cmp xs → AreApart xs (length xs) → IsLeast (IsRepeated Some xs) None
repeated_nowhere xs up apart n is =
    let past = repeated_past xs up (length xs) apart n is in
    let within = is.within in
    absurd (omega arith)

pub repeated_here : (xs : List ℤ) → IsSorted int_cmp xs → (i : ℕ) → 0 < i → i < length xs → AreApart xs i → get_or xs (i - 1) (pos 0) ≡ get_or xs i (pos 0) → IsLeast (IsRepeated Some xs) (Some (get_or xs i (pos 0)))
repeated_here xs up i some within apart same = (
  record {
    first = i - 1;
    second = i;
    apart = omega arith;
    within = within;
    at_first = λ d. ap Some (get_or_default xs (i - 1) d (pos 0) (omega arith) ∙ same);
    at_second = λ d. ap Some (get_or_default xs i d (pos 0) within);
  },
  λ n is. least n is,
)
  where
    reads : (n m : ℤ) → Some m ≡ Some n → get_or xs i (pos 0) ≤ℤ m → get_or xs i (pos 0) ≤ℤ n
    reads n m e order = let f : m ≡ n = cc in rw f at order

    least : (n : ℤ) → IsRepeated Some xs n → get_or xs i (pos 0) ≤ℤ n
    least n is =
        reads n (get_or xs is.second (pos 0)) (is.at_second (pos 0)) (ascending xs up i is.second (repeated_past xs up i apart n is) is.within)
