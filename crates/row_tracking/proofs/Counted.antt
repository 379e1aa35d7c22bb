-- A number that two elements have is one that is counted twice, whatever the order of the elements.
use Rattle.std.proofs.Common.{◌≡◌, ℕ, zero, suc, ◌+◌, ◌<◌, ◌≤◌, ℤ, List, [], ◌∷◌, length, get_or, Option, Some, None, Bool, true, false, cond, refl, sym, ap, ◌∙◌, arith, int_eq, zero-add}
use Rattle.std.specs.Prelude.{sum_by, filter_map}
use Rattle.std.specs.List.{cons_option}
use Rattle.std.specs.List.Sorted.{IsPermutation}
use Rattle.std.proofs.lemmas.Bool.Decides.{Decides-int_eq}
use Rattle.std.proofs.lemmas.List.Recursion.{is_sum_by}
use Rattle.std.proofs.lemmas.List.Sorted.{sum_by-IsPermutation}
use Rattle.row_tracking.specs.Checked.{is_number}
use Rattle.row_tracking.specs.StepsChecked.{IsRepeated}

-- how many elements have the number
abbrev count_of : {X : Type 0} → (X → Option ℤ) → ℤ → List X → ℕ
count_of number n [] = 0
count_of number n (x ∷ xs) = cond (is_number n (number x)) 1 0 + count_of number n xs

count_of-is : {X : Type 0} (number : X → Option ℤ) (n : ℤ) (xs : List X) → count_of number n xs ≡ sum_by (λ x. cond (is_number n (number x)) 1 0) xs
count_of-is {X} number n xs = is_sum_by (count_of number n) (λ (x : X). cond (is_number n (number x)) 1 0) refl (λ x ys. refl) xs

is_number-true : (n : ℤ) (o : Option ℤ) → is_number n o ≡ true → o ≡ Some n
is_number-true n None is = absurd cc
is_number-true n (Some m) is = ap Some ((Decides-int_eq m n).0 is)

is_number-some : (n : ℤ) (o : Option ℤ) → o ≡ Some n → is_number n o ≡ true
is_number-some n o is = rw is ((Decides-int_eq n n).1 refl)

-- an element has the number
record HasNumber {X : Type 0} (number : X → Option ℤ) (xs : List X) (n : ℤ) : Type 0 where
  place : ℕ
  within : place < length xs
  at : (d : X) → number (get_or xs place d) ≡ Some n

one_of : {X : Type 0} (number : X → Option ℤ) (n : ℤ) (xs : List X) → 1 ≤ count_of number n xs → HasNumber number xs n
one_of number n [] some = absurd (omega arith)
one_of {X} number n (x ∷ xs) some = by (is_number n (number x)) refl (one_of number n xs)
  where
    by : (is : Bool) → is_number n (number x) ≡ is → (1 ≤ count_of number n xs → HasNumber number xs n) → HasNumber number (x ∷ xs) n
    by true is behind = record { place = 0; within = omega arith; at = λ d. is_number-true n (number x) is }
    by false is behind =
        let some_left : 1 ≤ 0 + count_of number n xs = rw is at some in
        let left = behind (omega arith) in
        record { place = suc left.place; within = let w = left.within in omega arith; at = left.at }

two_of : {X : Type 0} (number : X → Option ℤ) (n : ℤ) (xs : List X) → 2 ≤ count_of number n xs → IsRepeated number xs n
two_of number n [] some = absurd (omega arith)
two_of {X} number n (x ∷ xs) some = by (is_number n (number x)) refl (two_of number n xs)
  where
    by : (is : Bool) → is_number n (number x) ≡ is → (2 ≤ count_of number n xs → IsRepeated number xs n) → IsRepeated number (x ∷ xs) n
    by true is behind =
        let some_left : 2 ≤ 1 + count_of number n xs = rw is at some in
        let left = one_of number n xs (omega arith) in
        record { first = 0; second = suc left.place; apart = omega arith; within = let w = left.within in omega arith; at_first = λ d. is_number-true n (number x) is; at_second = left.at }
    by false is behind =
        let some_left : 2 ≤ 0 + count_of number n xs = rw is at some in
        let left = behind (omega arith) in
        record { first = suc left.first; second = suc left.second; apart = let w = left.apart in omega arith; within = let w = left.within in omega arith; at_first = left.at_first; at_second = left.at_second }

of_one : {X : Type 0} (number : X → Option ℤ) (n : ℤ) (xs : List X) (k : ℕ) → k < length xs → ((d : X) → number (get_or xs k d) ≡ Some n) → 1 ≤ count_of number n xs
of_one number n [] k within at = absurd (omega arith)
of_one number n (x ∷ xs) zero within at = rw (is_number-some n (number x) (at x)) (omega arith)
of_one number n (x ∷ xs) (suc k) within at = let left = of_one number n xs k (omega arith) at in omega arith

of_two : {X : Type 0} (number : X → Option ℤ) (n : ℤ) (xs : List X) (j k : ℕ) → j < k → k < length xs → ((d : X) → number (get_or xs j d) ≡ Some n) → ((d : X) → number (get_or xs k d) ≡ Some n) → 2 ≤ count_of number n xs
of_two number n [] j k apart within at_first at_second = absurd (omega arith)
of_two number n (x ∷ xs) j zero apart within at_first at_second = absurd (omega arith)
of_two number n (x ∷ xs) zero (suc k) apart within at_first at_second =
    let left = of_one number n xs k (omega arith) at_second in
    rw (is_number-some n (number x) (at_first x)) (omega arith)
of_two number n (x ∷ xs) (suc j) (suc k) apart within at_first at_second =
    let left = of_two number n xs j k (omega arith) (omega arith) at_first at_second in omega arith

count-cons_option : (n : ℤ) (o : Option ℤ) (ms : List ℤ) (c : ℕ) → count_of Some n ms ≡ c → count_of Some n (cons_option o ms) ≡ cond (is_number n o) 1 0 + c
count-cons_option n None ms c is = is ∙ sym (zero-add c)
count-cons_option n (Some m) ms c is = ap (λ (k : ℕ). cond (int_eq m n) 1 0 + k) is

count-filter_map : {X : Type 0} (number : X → Option ℤ) (n : ℤ) (xs : List X) → count_of Some n (filter_map number xs) ≡ count_of number n xs
count-filter_map number n [] = refl
count-filter_map number n (x ∷ xs) = count-cons_option n (number x) (filter_map number xs) (count_of number n xs) (count-filter_map number n xs)

pub two_from_count : {X : Type 0} (number : X → Option ℤ) (n : ℤ) (xs : List X) → 1 < sum_by (λ x. cond (is_number n (number x)) 1 0) xs → IsRepeated number xs n
two_from_count number n xs some = two_of number n xs (omega (arith, count_of-is number n xs))

pub count_from_two : {X : Type 0} (number : X → Option ℤ) (n : ℤ) (xs : List X) → IsRepeated number xs n → 1 < sum_by (λ x. cond (is_number n (number x)) 1 0) xs
count_from_two number n xs is =
    let two = of_two number n xs is.first is.second is.apart is.within is.at_first is.at_second in
    omega (arith, count_of-is number n xs)

-- the numbers of some elements, in any order
count-moved : {X : Type 0} (number : X → Option ℤ) (n : ℤ) (xs : List X) (ns : List ℤ) → IsPermutation (filter_map number xs) ns → count_of Some n ns ≡ count_of number n xs
count-moved number n xs ns moved =
    count_of-is Some n ns
    ∙ sum_by-IsPermutation (λ m. cond (is_number n (Some m)) 1 0) (filter_map number xs) ns moved
    ∙ sym (count_of-is Some n (filter_map number xs))
    ∙ count-filter_map number n xs

pub repeated_in_order : {X : Type 0} (number : X → Option ℤ) (xs : List X) (ns : List ℤ) → IsPermutation (filter_map number xs) ns → (n : ℤ) → IsRepeated number xs n → IsRepeated Some ns n
repeated_in_order number xs ns moved n is =
    let two = of_two number n xs is.first is.second is.apart is.within is.at_first is.at_second in
    two_of Some n ns (omega (arith, count-moved number n xs ns moved))

pub repeated_from_order : {X : Type 0} (number : X → Option ℤ) (xs : List X) (ns : List ℤ) → IsPermutation (filter_map number xs) ns → (n : ℤ) → IsRepeated Some ns n → IsRepeated number xs n
repeated_from_order number xs ns moved n is =
    let two = of_two Some n ns is.first is.second is.apart is.within is.at_first is.at_second in
    two_of number n xs (omega (arith, count-moved number n xs ns moved))
