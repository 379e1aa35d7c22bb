-- How many versions there are, the newest of them, and whether one below it is missing.
use Rattle.std.proofs.Common.{◌≡◌, ℕ, zero, suc, ◌+◌, ◌-◌, ◌<◌, ◌≤◌, max, List, [], ◌∷◌, length, add-one, Option, Some, None, Result, Ok, Err, refl, sym, ◌∙◌, subst, Bool, true, false, ◌==◌, cond, nat_lt, ap, inl, inr, ◌⊎◌, arith}
use Rattle.std.specs.List.{AllByRecursion}
use Rattle.std.proofs.lemmas.Bool.{cases_lt, eqb-true}
use Rattle.std.proofs.lemmas.Bool.Decides.{nat_tests}
use Rattle.log_replay.specs.declared.numbers.NumberFault.{NumberFault}
use Rattle.log_replay.specs.declared.numbers.NumberFault.TheVariants as fault
use Rattle.std.specs.List.Sorted.{IsStrictlySortedBy}
use Rattle.std.specs.Ordering.{nat_cmp}
use Rattle.std.specs.declared.cmp.Ordering.TheVariants.{Less}
use Rattle.log_replay.specs.Numbers.{is_in, greatest, count_below, count_of, first_missing, unless_gap, gapless, newest_of}
use Rattle.log_replay.specs.declared.numbers.TheConstants.{MAX_COMMITS}

-- what the last of a set says
pub record IsGreatest (k : ℕ) (ns : List ℕ) : Type 0 where
  pub there : is_in k ns ≡ true
  pub upper : (q : ℕ) → is_in q ns ≡ true → q ≤ k

member_of : (x : ℕ) (xs : List ℕ) → is_in x (x ∷ xs) ≡ true
member_of x xs = grind (arith, nat_tests)

-- ---- the greatest

upper_next : (q n g : ℕ) (ns : List ℕ) → (is_in q ns ≡ true → q ≤ g) → is_in q (n ∷ ns) ≡ true → q ≤ max n g
upper_next q n g ns upper there = grind (arith, nat_tests)

greatest-upper : (q : ℕ) (ns : List ℕ) → is_in q ns ≡ true → q ≤ greatest ns
unfolding greatest
greatest-upper q [] there = absurd (cc)
greatest-upper q (n ∷ ns) there = upper_next q n (greatest ns) ns (greatest-upper q ns) there

max_in : (n g : ℕ) (ns : List ℕ) → is_in g ns ≡ true → is_in (max n g) (n ∷ ns) ≡ true
max_in n g ns there = grind (arith, nat_tests)

pub greatest-in : (n : ℕ) (ns : List ℕ) → is_in (greatest (n ∷ ns)) (n ∷ ns) ≡ true
unfolding greatest
greatest-in n [] = grind (arith, nat_tests)
greatest-in n (m ∷ ns) = max_in n (greatest (m ∷ ns)) (m ∷ ns) (greatest-in m ns)

greatest-is : (ns : List ℕ) (k : ℕ) → is_in k ns ≡ true → ((q : ℕ) → is_in q ns ≡ true → q ≤ k) → greatest ns ≡ k
greatest-is [] k there upper = absurd (cc)
greatest-is (n ∷ ns) k there upper =
    let low = greatest-upper k (n ∷ ns) there in
    let high = upper (greatest (n ∷ ns)) (greatest-in n ns) in
    omega arith

pub greatest-same : (xs ys : List ℕ) → ((n : ℕ) → is_in n xs ≡ is_in n ys) → greatest xs ≡ greatest ys
greatest-same [] [] same = refl
greatest-same [] (y ∷ ys) same = absurd (let off : false ≡ true = same y ∙ member_of y ys in cc)
greatest-same (x ∷ xs) [] same = absurd (let off : true ≡ false = sym (member_of x xs) ∙ same x in cc)
greatest-same (x ∷ xs) (y ∷ ys) same =
    greatest-is (x ∷ xs) (greatest (y ∷ ys)) (same (greatest (y ∷ ys)) ∙ greatest-in y ys) (λ q there. greatest-upper q (y ∷ ys) (sym (same q) ∙ there))

-- ---- what is missing

missing-here : (ns : List ℕ) (k : ℕ) → first_missing ns k ≡ None → is_in k ns ≡ false → first_missing ns (k + 1) ≡ Some k
unfolding first_missing
missing-here ns k below absent = rw (add-one k, below, absent) refl

missing-stays : (ns : List ℕ) (n k m : ℕ) → first_missing ns n ≡ Some m → first_missing ns (n + k) ≡ Some m
unfolding first_missing
missing-stays ns n zero m e = let same : n + 0 ≡ n = omega arith in rw same e
missing-stays ns n (suc k) m e = let same : n + suc k ≡ suc (n + k) = omega arith in rw (same, missing-stays ns n k m e) refl

missing-none : (ns : List ℕ) (k : ℕ) → ((i : ℕ) → i < k → is_in i ns ≡ true) → first_missing ns k ≡ None
unfolding first_missing
missing-none ns zero all = refl
missing-none ns (suc k) all = rw (missing-none ns k (λ i less. all i (omega arith)), all k (omega arith)) refl

-- ---- the newest version, by its members alone

newest_if : (n : ℕ) (ns : List ℕ) (k : ℕ) (missing : Option ℕ) → greatest (n ∷ ns) ≡ k → first_missing (n ∷ ns) k ≡ missing → gapless (n ∷ ns) ≡ unless_gap missing k
unfolding gapless
newest_if n ns k missing top e = rw (top, e) refl

newest_found : (ns : List ℕ) (k : ℕ) → IsGreatest k ns → first_missing ns k ≡ None → gapless ns ≡ Ok k
newest_found [] k last none = absurd (let off = last.there in cc)
newest_found (n ∷ ns) k last none = newest_if n ns k None (greatest-is (n ∷ ns) k last.there last.upper) none

newest_gap : (ns : List ℕ) (n more : ℕ) → is_in more ns ≡ true → n < more → first_missing ns n ≡ None → is_in n ns ≡ false → gapless ns ≡ Err (fault.Gap n)
newest_gap [] n more there above none absent = absurd (cc)
newest_gap (m ∷ ns) n more there above none absent =
    let k : ℕ = greatest (m ∷ ns) in
    let top = greatest-upper more (m ∷ ns) there in
    let e : n + 1 + (k - (n + 1)) ≡ k = omega arith in
    let gap : first_missing (m ∷ ns) k ≡ Some n = subst (λ (i : ℕ). first_missing (m ∷ ns) i ≡ Some n) e (missing-stays (m ∷ ns) (n + 1) (k - (n + 1)) n (missing-here (m ∷ ns) n none absent)) in
    newest_if m ns k (Some n) refl gap

-- two lists of the same members

missing-same : (xs ys : List ℕ) → ((n : ℕ) → is_in n xs ≡ is_in n ys) → (n : ℕ) → first_missing xs n ≡ first_missing ys n
unfolding first_missing
missing-same xs ys same zero = refl
missing-same xs ys same (suc n) = rw (missing-same xs ys same n, same n) refl

gapless-same : (xs ys : List ℕ) → ((n : ℕ) → is_in n xs ≡ is_in n ys) → gapless xs ≡ gapless ys
gapless-same [] [] same = refl
gapless-same [] (y ∷ ys) same = absurd (let off : false ≡ true = same y ∙ member_of y ys in cc)
gapless-same (x ∷ xs) [] same = absurd (let off : true ≡ false = sym (member_of x xs) ∙ same x in cc)
gapless-same (x ∷ xs) (y ∷ ys) same =
    newest_if x xs (greatest (y ∷ ys)) (first_missing (y ∷ ys) (greatest (y ∷ ys))) (greatest-same (x ∷ xs) (y ∷ ys) same) (missing-same (x ∷ xs) (y ∷ ys) same (greatest (y ∷ ys)))
    ∙ sym (newest_if y ys (greatest (y ∷ ys)) (first_missing (y ∷ ys) (greatest (y ∷ ys))) refl refl)

-- ---- numbers that ascend

-- the numbers ascend, each once, and none is below this one
unfoldable pub Ascends : ℕ → List ℕ → Type 0
Ascends low [] = Unit {0}
Ascends low (n ∷ ns) = (low ≤ n) × Ascends (n + 1) ns

above_next : (n m : ℕ) → nat_cmp n m ≡ Less → n + 1 ≤ m
above_next n m less = grind (arith, nat_tests)

all_above : (n : ℕ) (ns : List ℕ) → AllByRecursion (λ m. nat_cmp n m ≡ Less) ns → AllByRecursion (λ m. n + 1 ≤ m) ns
all_above n [] all = tt
all_above n (m ∷ ns) all = (above_next n m all.0, all_above n ns all.1)

sorted_ascends : (low : ℕ) (ns : List ℕ) → AllByRecursion (λ m. low ≤ m) ns → IsStrictlySortedBy nat_cmp ns → Ascends low ns
unfolding Ascends IsStrictlySortedBy
sorted_ascends low [] above sorted = tt
sorted_ascends low (n ∷ ns) above sorted = (above.0, sorted_ascends (n + 1) ns (all_above n ns sorted.0) sorted.1)

all_from_zero : (ns : List ℕ) → AllByRecursion (λ m. 0 ≤ m) ns
all_from_zero [] = tt
all_from_zero (n ∷ ns) = (omega arith, all_from_zero ns)

-- the first numbers are 0, 1, 2 and so on, and the others ascend from here
pub record IsCounted (all : List ℕ) (next : ℕ) (rest : List ℕ) : Type 0 where
  pub below : (i : ℕ) → i < next → is_in i all ≡ true
  pub others : (i : ℕ) → next ≤ i → is_in i all ≡ is_in i rest
  pub ascends : Ascends next rest

pub counted_none : (all : List ℕ) → IsStrictlySortedBy nat_cmp all → IsCounted all 0 all
counted_none all sorted = record { below = λ i less. absurd (omega arith); others = λ i past. refl; ascends = sorted_ascends 0 all (all_from_zero all) sorted }

is_in-tail : (i n : ℕ) (ns : List ℕ) → n < i → is_in i (n ∷ ns) ≡ is_in i ns
is_in-tail i n ns less = grind (arith, nat_tests)

ascends_above : (low i : ℕ) (ns : List ℕ) → Ascends low ns → i < low → is_in i ns ≡ false
unfolding Ascends
ascends_above low i [] ascends less = refl
ascends_above low i (n ∷ ns) ascends less =
    let above = ascends.0 in
    let apart : (n == i) ≡ false = grind (arith, nat_tests) in
    rw (apart, ascends_above (n + 1) i ns ascends.1 (omega arith)) refl

pub counted_more : (all rest : List ℕ) (next n : ℕ) (more : List ℕ) → IsCounted all next rest → rest ≡ n ∷ more → n ≡ next → IsCounted all (next + 1) more
unfolding Ascends
counted_more all rest next n more so_far split is =
    let ascending : Ascends next (n ∷ more) = rw split at so_far.ascends in
    record {
      below = λ i less. below_next i less (i == next) refl;
      others = λ i past. so_far.others i (omega arith) ∙ rw split (is_in-tail i n more (omega arith));
      ascends = let tail = ascending.1 in rw is at tail;
    }
  where
    here : is_in next (n ∷ more) ≡ true
    here = let e : (n == next) ≡ true = grind (arith, nat_tests) in rw e refl

    below_next : (i : ℕ) → i < next + 1 → (same : Bool) → (i == next) ≡ same → is_in i all ≡ true
    below_next i less true e = let same : i ≡ next = eqb-true i next e in rw same (so_far.others next (omega arith) ∙ rw split here)
    below_next i less false e = so_far.below i (let apart : i < next = grind (arith, nat_tests) in apart)

pub counted_gap : (all rest : List ℕ) (next n : ℕ) (more : List ℕ) → IsCounted all next rest → rest ≡ n ∷ more → ¬ (n ≡ next) → Err (fault.Gap next) ≡ gapless all
unfolding Ascends
counted_gap all rest next n more so_far split apart =
    let ascending : Ascends next (n ∷ more) = rw split at so_far.ascends in
    let low = ascending.0 in
    let above : next < n = omega arith in
    let there : is_in n all ≡ true = so_far.others n (omega arith) ∙ rw split (member_of n more) in
    let other : (n == next) ≡ false = grind (arith, nat_tests) in
    let absent : is_in next all ≡ false = so_far.others next (omega arith) ∙ rw (split, other) (ascends_above (n + 1) next more ascending.1 (omega arith)) in
    sym (newest_gap all next n there above (missing-none all next so_far.below) absent)

no_member : (all : List ℕ) → ((i : ℕ) → is_in i all ≡ false) → all ≡ []
no_member [] none = refl
no_member (n ∷ ns) none = absurd (let off : true ≡ false = sym (member_of n ns) ∙ none n in cc)

nothing_of : (all : List ℕ) → all ≡ [] → Err fault.Nothing ≡ gapless all
unfolding gapless
nothing_of [] none = refl
nothing_of (n ∷ ns) none = cc

empty : (xs : List ℕ) → length xs ≡ 0 → xs ≡ []
empty [] is = refl
empty (x ∷ xs) is = absurd (omega arith)

pub counted_nothing : (all rest : List ℕ) (next : ℕ) → IsCounted all next rest → length rest ≡ 0 → next ≡ 0 → Err fault.Nothing ≡ gapless all
counted_nothing all rest next so_far none zero_is = nothing_of all (no_member all (λ i. so_far.others i (omega arith) ∙ rw (empty rest none) refl))

pub counted_all : (all rest : List ℕ) (next : ℕ) → IsCounted all next rest → length rest ≡ 0 → ¬ (next ≡ 0) → Ok (next - 1) ≡ gapless all
counted_all all rest next so_far none some =
    let top : IsGreatest (next - 1) all = record {
      there = so_far.below (next - 1) (omega arith);
      upper = λ q there. upper_by q there (cases_lt q next);
    } in
    sym (newest_found all (next - 1) top (missing-none all (next - 1) (λ i less. so_far.below i (omega arith))))
  where
    upper_by : (q : ℕ) → is_in q all ≡ true → ((q < next) ⊎ (next ≤ q)) → q ≤ next - 1
    upper_by q there (inl less) = omega arith
    upper_by q there (inr past) = absurd (let off : true ≡ false = sym there ∙ so_far.others q past ∙ rw (empty rest none) refl in cc)

pub counted_last : (all rest : List ℕ) (next : ℕ) → IsCounted all next rest → ¬ (next ≡ 0) → is_in (next - 1) all ≡ true
counted_last all rest next so_far some = so_far.below (next - 1) (omega arith)

-- ---- how many there are

-- no more numbers are in a list than there are below the bound
pub count_within : (ns : List ℕ) (bound : ℕ) → count_below ns bound ≤ bound
unfolding count_below
count_within ns zero = omega arith
count_within ns (suc n) = by (is_in n ns) (count_within ns n)
  where
    by : (there : Bool) → count_below ns n ≤ n → cond there (count_below ns n + 1) (count_below ns n) ≤ suc n
    by true most = omega arith
    by false most = omega arith

count-same : (xs ys : List ℕ) → ((n : ℕ) → is_in n xs ≡ is_in n ys) → (bound : ℕ) → count_below xs bound ≡ count_below ys bound
unfolding count_below
count-same xs ys same zero = refl
count-same xs ys same (suc n) = rw (count-same xs ys same n, same n) refl

pub newest-same : (xs ys : List ℕ) → ((n : ℕ) → is_in n xs ≡ is_in n ys) → newest_of xs ≡ newest_of ys
unfolding newest_of
newest-same xs ys same =
    let counts : count_of xs ≡ count_of ys = ap (λ top. count_below xs (top + 1)) (greatest-same xs ys same) ∙ count-same xs ys same (greatest ys + 1) in
    rw (counts, gapless-same xs ys same) refl

is_in-other : (i n : ℕ) (ns : List ℕ) → (n == i) ≡ false → is_in i (n ∷ ns) ≡ is_in i ns
is_in-other i n ns apart = rw apart refl

count_beyond : (n bound : ℕ) (ns : List ℕ) → bound ≤ n → count_below (n ∷ ns) bound ≡ count_below ns bound
unfolding count_below
count_beyond n zero ns past = refl
count_beyond n (suc b) ns past =
    let apart : (n == b) ≡ false = grind (arith, nat_tests) in
    rw (count_beyond n b ns (omega arith), is_in-other b n ns apart) refl

count_one : (n bound : ℕ) (ns : List ℕ) → is_in n ns ≡ false → n < bound → count_below (n ∷ ns) bound ≡ count_below ns bound + 1
unfolding count_below
count_one n zero ns absent less = absurd (omega arith)
count_one n (suc b) ns absent less = by (n == b) refl (count_one n b ns absent)
  where
    more : (there : Bool) (with without : ℕ) → with ≡ without + 1 → cond there (with + 1) with ≡ cond there (without + 1) without + 1
    more true with without e = omega (arith, e)
    more false with without e = e

    by : (same : Bool) → (n == b) ≡ same → (n < b → count_below (n ∷ ns) b ≡ count_below ns b + 1)
        → cond (is_in b (n ∷ ns)) (count_below (n ∷ ns) b + 1) (count_below (n ∷ ns) b) ≡ cond (is_in b ns) (count_below ns b + 1) (count_below ns b) + 1
    by true e rest =
        let here : n ≡ b = eqb-true n b e in
        let gone : is_in b ns ≡ false = subst (λ (i : ℕ). is_in i ns ≡ false) here absent in
        rw (e, gone, count_beyond n b ns (omega (arith, here))) refl
    by false e rest = rw (is_in-other b n ns e) (more (is_in b ns) (count_below (n ∷ ns) b) (count_below ns b) (rest (grind (arith, nat_tests))))

count_none : (bound : ℕ) → count_below [] bound ≡ 0
unfolding count_below
count_none zero = refl
count_none (suc b) = count_none b

count_ascends : (low bound : ℕ) (ns : List ℕ) → Ascends low ns → ((q : ℕ) → is_in q ns ≡ true → q < bound) → count_below ns bound ≡ length ns
unfolding Ascends
count_ascends low bound [] ascends below = count_none bound
count_ascends low bound (n ∷ ns) ascends below =
    let rest = count_ascends (n + 1) bound ns ascends.1 (λ q there. below q (is_in-more q n ns there)) in
    count_one n bound ns (ascends_above (n + 1) n ns ascends.1 (omega arith)) (below n (member_of n ns)) ∙ omega (arith, rest)
  where
    is_in-more : (q n : ℕ) (ns : List ℕ) → is_in q ns ≡ true → is_in q (n ∷ ns) ≡ true
    is_in-more q n ns there = grind (arith, nat_tests)

-- a list that ascends has as many numbers as places
count_sorted : (ns : List ℕ) → IsStrictlySortedBy nat_cmp ns → count_of ns ≡ length ns
count_sorted ns sorted =
    count_ascends 0 (greatest ns + 1) ns (sorted_ascends 0 ns (all_from_zero ns) sorted) (λ q there. let most = greatest-upper q ns there in omega arith)

pub too_many : (ns : List ℕ) → IsStrictlySortedBy nat_cmp ns → MAX_COMMITS < length ns → Err fault.TooMany ≡ newest_of ns
unfolding newest_of
too_many ns sorted many =
    let over : nat_lt MAX_COMMITS (count_of ns) ≡ true = rw (count_sorted ns sorted) (above MAX_COMMITS (length ns) many) in
    rw over refl
  where
    above : (a b : ℕ) → a < b → nat_lt a b ≡ true
    above a b less = grind (arith, nat_tests)

pub few_enough : (ns : List ℕ) (r : Result ℕ NumberFault) → IsStrictlySortedBy nat_cmp ns → length ns ≤ MAX_COMMITS → r ≡ gapless ns → r ≡ newest_of ns
unfolding newest_of
few_enough ns r sorted few is =
    let within : nat_lt MAX_COMMITS (count_of ns) ≡ false = rw (count_sorted ns sorted) (not_above MAX_COMMITS (length ns) few) in
    rw within is
  where
    not_above : (a b : ℕ) → b ≤ a → nat_lt a b ≡ false
    not_above a b le = grind (arith, nat_tests)
