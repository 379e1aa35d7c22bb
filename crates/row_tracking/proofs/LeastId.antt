-- The least id that fails, as a function of the rows, is the least of those that fail, in whatever order the rows stand.
use Rattle.std.proofs.Common.{◌≡◌, ◌⊎◌, ℕ, zero, suc, ◌<◌, ℤ, pos, ◌≤ℤ◌, List, [], ◌∷◌, length, get_or, Option, Some, None, Bool, true, false, ◌||◌, cond, refl, sym, ap, ◌∙◌, inl, inr, arith}
use Rattle.std.specs.Int.{int_min}
use Rattle.std.specs.List.{All, Contains, cons_option, count_by, filter, filter_map, fold, reduce}
use Rattle.std.specs.List.Sorted.{IsPermutation}
use Rattle.std.specs.Prelude.{nat_lt}
use Rattle.std.proofs.lemmas.Bool.{ltb-true, lt-ltb, or_cases, or_left, or_right}
use Rattle.std.proofs.lemmas.Int.{ints, fold-int_min_bounds, fold-int_min_reached}
use Rattle.std.proofs.lemmas.List.{get_or_default}
use Rattle.std.proofs.lemmas.List.Elements.{All-cons, All-contains, Contains-append_right, Contains-get_or}
use Rattle.std.proofs.lemmas.List.Sorted.{Contains-permutation, IsPermutation-sym, sum_by-IsPermutation}
use Rattle.row_tracking.specs.Checked.{no_row, id_at, version_at, Fails, outside, held_twice, misdated, IsLeast, IsOutside, is_number, is_some_outside, is_shared, is_unsound, least_failing}
use Rattle.row_tracking.specs.StepsChecked.{IsRepeated}
use Rattle.row_tracking.specs.declared.row_id.RowId.{RowId}
use Rattle.row_tracking.proofs.Counted.{two_from_count, count_from_two}
use Rattle.row_tracking.proofs.Failing.{below_length, fails_from_repeated, misdated_from, outside_to, past_from, repeated_from}

-- ---- the least of a list

least_of : (ns : List ℤ) → IsLeast (Contains ns) (reduce int_min ns)
least_of [] = λ n is. let within = is.1 in absurd (omega arith)
least_of (x ∷ xs) = (reached (fold-int_min_reached x xs (fold int_min x xs) refl), λ n is. All-contains (λ m. fold int_min x xs ≤ℤ m) (x ∷ xs) n below is)
  where
    reached : ((fold int_min x xs ≡ x) ⊎ Contains xs (fold int_min x xs)) → Contains (x ∷ xs) (fold int_min x xs)
    reached (inl e) = (0, omega arith, sym e)
    reached (inr there) = Contains-append_right (x ∷ []) xs (fold int_min x xs) there

    below : All (λ m. fold int_min x xs ≤ℤ m) (x ∷ xs)
    below = let bounds = fold-int_min_bounds x xs (fold int_min x xs) refl in All-cons (λ m. fold int_min x xs ≤ℤ m) x xs bounds.0 bounds.1

least_agrees : (P Q : ℤ → Type 0) (o : Option ℤ) → ((n : ℤ) → P n → Q n) → ((n : ℤ) → Q n → P n) → IsLeast P o → IsLeast Q o
least_agrees P Q None to from none = λ n is. none n (from n is)
least_agrees P Q (Some x) to from least = (to x least.0, λ n is. least.1 n (from n is))

both_ways : (x y : ℤ) → x ≤ℤ y → y ≤ℤ x → x ≡ y
both_ways x y xy yx = omega (arith, ints)

pub least_is_one : (P : ℤ → Type 0) (a b : Option ℤ) → IsLeast P a → IsLeast P b → a ≡ b
least_is_one P None None of_a of_b = refl
least_is_one P None (Some y) of_a of_b = absurd (of_a y of_b.0)
least_is_one P (Some x) None of_a of_b = absurd (of_b x of_a.0)
least_is_one P (Some x) (Some y) of_a of_b = ap Some (both_ways x y (of_a.1 y of_b.0) (of_b.1 x of_a.0))

-- ---- the ids of rows that pass a test

-- a number is the id of a row that passes
record IsOfOne (p : RowId → Bool) (rows : List RowId) (n : ℤ) : Type 0 where
  row : RowId
  there : Contains rows row
  passes : p row ≡ true
  held : row.id ≡ Some n

cons_cases : (o : Option ℤ) (ns : List ℤ) (n : ℤ) → Contains (cons_option o ns) n → (o ≡ Some n) ⊎ Contains ns n
cons_cases None ns n is = inr is
cons_cases (Some m) ns n (zero, within, at) = inl (ap Some at)
cons_cases (Some m) ns n (suc k, within, at) = inr (k, omega arith, at)

cons_more : (o : Option ℤ) (ns : List ℤ) (n : ℤ) → Contains ns n → Contains (cons_option o ns) n
cons_more None ns n is = is
cons_more (Some m) ns n (k, within, at) = (suc k, omega arith, at)

cons_here : (o : Option ℤ) (ns : List ℤ) (n : ℤ) → o ≡ Some n → Contains (cons_option o ns) n
cons_here o ns n is = rw is (0, omega arith, refl)

behind : (p : RowId → Bool) (row : RowId) (rows : List RowId) (n : ℤ) → IsOfOne p rows n → IsOfOne p (row ∷ rows) n
behind p row rows n is = record {
  row = is.row;
  there = Contains-append_right (row ∷ []) rows is.row is.there;
  passes = is.passes;
  held = is.held;
}

abbrev ids_of : (RowId → Bool) → List RowId → List ℤ
ids_of p rows = filter_map (λ (row : RowId). row.id) (filter p rows)

of_one_in : (p : RowId → Bool) (rows : List RowId) (n : ℤ) → Contains (ids_of p rows) n → IsOfOne p rows n
of_one_in p [] n is = let within = is.1 in absurd (omega arith)
of_one_in p (row ∷ rows) n is = by (p row) refl (of_one_in p rows n) is
  where
    by : (passes : Bool) → p row ≡ passes → (Contains (ids_of p rows) n → IsOfOne p rows n) → Contains (filter_map (λ (row : RowId). row.id) (cond passes (row ∷ filter p rows) (filter p rows))) n → IsOfOne p (row ∷ rows) n
    by false e left there = behind p row rows n (left there)
    by true e left there = elim (cons_cases row.id (ids_of p rows) n there) [
      | inl held ↦ record { row = row; there = (0, omega arith, refl); passes = e; held = held }
      | inr more ↦ behind p row rows n (left more)
    ]

out_at : (p : RowId → Bool) (rows : List RowId) (n : ℤ) (row : RowId) (k : ℕ) → k < length rows → get_or rows k row ≡ row → p row ≡ true → row.id ≡ Some n → Contains (ids_of p rows) n
out_at p [] n row k within at passes held = absurd (omega arith)
out_at p (x ∷ xs) n row zero within at passes held =
    let here : p x ≡ true = ap p at ∙ passes in
    rw here (cons_here x.id (ids_of p xs) n (ap (λ (r : RowId). r.id) at ∙ held))
out_at p (x ∷ xs) n row (suc k) within at passes held = by (p x) (out_at p xs n row k (omega arith) at passes held)
  where
    by : (is : Bool) → Contains (ids_of p xs) n → Contains (filter_map (λ (row : RowId). row.id) (cond is (x ∷ filter p xs) (filter p xs))) n
    by false there = there
    by true there = cons_more x.id (ids_of p xs) n there

of_one_out : (p : RowId → Bool) (rows : List RowId) (n : ℤ) → IsOfOne p rows n → Contains (ids_of p rows) n
of_one_out p rows n is = out_at p rows n is.row is.there.0 is.there.1 is.there.2 is.passes is.held

-- ---- such an id fails, and what fails is such an id

shared_from : (rows : List RowId) (o : Option ℤ) (n : ℤ) → o ≡ Some n → is_shared rows o ≡ true → IsRepeated (λ (row : RowId). row.id) rows n
shared_from rows None n held is = absurd cc
shared_from rows (Some m) n held is =
    let e : m ≡ n = cc in
    let shared : is_shared rows (Some n) ≡ true = rw e at is in
    two_from_count (λ (row : RowId). row.id) n rows (ltb-true 1 (count_by (λ (row : RowId). is_number n row.id) rows) shared)

shared_to : (rows : List RowId) (o : Option ℤ) (n : ℤ) → o ≡ Some n → IsRepeated (λ (row : RowId). row.id) rows n → is_shared rows o ≡ true
shared_to rows o n held is = rw held (lt-ltb 1 (count_by (λ (row : RowId). is_number n row.id) rows) (count_from_two (λ (row : RowId). row.id) n rows is))

-- where a row stands
record StandsAt (rows : List RowId) (row : RowId) : Type 0 where
  place : ℕ
  within : place < length rows
  at : get_or rows place no_row ≡ row

stands : (rows : List RowId) (row : RowId) → Contains rows row → StandsAt rows row
stands rows row there = record { place = there.0; within = there.1; at = get_or_default rows there.0 no_row row there.1 ∙ there.2 }

late : (rows : List RowId) (mark : ℤ) (version k : ℕ) (n : ℤ) (made : Option ℤ) → id_at rows k ≡ Some n → version_at rows k ≡ made → is_some_outside (pos version) made ≡ true → Fails rows mark version n
late rows mark version k n made held at is = by (misdated_from version made is)
  where
    by : (v : ℤ) × (made ≡ Some v) × IsOutside (pos version) v → Fails rows mark version n
    by (v, there, past) = misdated k v held (at ∙ there) past

fails_from : (rows : List RowId) (mark : ℤ) (version : ℕ) (n : ℤ) → IsOfOne (is_unsound rows mark version) rows n → Fails rows mark version n
fails_from rows mark version n is = by (stands rows is.row is.there)
  where
    by : StandsAt rows is.row → Fails rows mark version n
    by stood =
        let id : id_at rows stood.place ≡ Some n = ap (λ (r : RowId). r.id) stood.at ∙ is.held in
        let made : version_at rows stood.place ≡ is.row.version = ap (λ (r : RowId). r.version) stood.at in
        elim (or_cases (is_some_outside mark is.row.id || is_shared rows is.row.id) (is_some_outside (pos version) is.row.version) is.passes) [
          | inl own ↦ elim (or_cases (is_some_outside mark is.row.id) (is_shared rows is.row.id) own) [
            | inl past ↦ outside stood.place id (past_from mark is.row.id n is.held past)
            | inr shared ↦ fails_from_repeated rows mark version n (shared_from rows is.row.id n is.held shared)
          ]
          | inr past ↦ late rows mark version stood.place n is.row.version id made past
        ]

-- by which of the three
unsound_by_id : (rows : List RowId) (mark : ℤ) (version : ℕ) (row : RowId) → is_some_outside mark row.id ≡ true → is_unsound rows mark version row ≡ true
unsound_by_id rows mark version row is = or_left (is_some_outside mark row.id || is_shared rows row.id) (is_some_outside (pos version) row.version) (or_left (is_some_outside mark row.id) (is_shared rows row.id) is)

unsound_by_other : (rows : List RowId) (mark : ℤ) (version : ℕ) (row : RowId) → is_shared rows row.id ≡ true → is_unsound rows mark version row ≡ true
unsound_by_other rows mark version row is = or_left (is_some_outside mark row.id || is_shared rows row.id) (is_some_outside (pos version) row.version) (or_right (is_some_outside mark row.id) (is_shared rows row.id) is)

unsound_by_version : (rows : List RowId) (mark : ℤ) (version : ℕ) (row : RowId) → is_some_outside (pos version) row.version ≡ true → is_unsound rows mark version row ≡ true
unsound_by_version rows mark version row is = or_right (is_some_outside mark row.id || is_shared rows row.id) (is_some_outside (pos version) row.version) is

one_at : (rows : List RowId) (mark : ℤ) (version k : ℕ) (n : ℤ) → id_at rows k ≡ Some n → is_unsound rows mark version (get_or rows k no_row) ≡ true → IsOfOne (is_unsound rows mark version) rows n
one_at rows mark version k n held unsound = record {
  row = get_or rows k no_row;
  there = Contains-get_or rows k no_row (below_length rows k n held);
  passes = unsound;
  held = held;
}

fails_to : (rows : List RowId) (mark : ℤ) (version : ℕ) (n : ℤ) → Fails rows mark version n → IsOfOne (is_unsound rows mark version) rows n
fails_to rows mark version n (outside k held past) =
    let own : is_some_outside mark (id_at rows k) ≡ true = rw held (outside_to mark n past) in
    one_at rows mark version k n held (unsound_by_id rows mark version (get_or rows k no_row) own)
fails_to rows mark version n (held_twice j k apart first second) =
    one_at rows mark version j n first (unsound_by_other rows mark version (get_or rows j no_row) (shared_to rows (id_at rows j) n first (repeated_from rows n j k apart first second)))
fails_to rows mark version n (misdated k v held made past) =
    let own : is_some_outside (pos version) (version_at rows k) ≡ true = rw made (outside_to (pos version) v past) in
    one_at rows mark version k n held (unsound_by_version rows mark version (get_or rows k no_row) own)

pub least_failing_is : (rows : List RowId) (mark : ℤ) (version : ℕ) → IsLeast (Fails rows mark version) (least_failing rows mark version)
least_failing_is rows mark version =
    least_agrees (Contains (ids_of (is_unsound rows mark version) rows)) (Fails rows mark version) (least_failing rows mark version)
    (λ n is. fails_from rows mark version n (of_one_in (is_unsound rows mark version) rows n is))
    (λ n is. of_one_out (is_unsound rows mark version) rows n (fails_to rows mark version n is))
    (least_of (ids_of (is_unsound rows mark version) rows))

-- ---- in whatever order

shared_same : (rows others : List RowId) → IsPermutation rows others → (o : Option ℤ) → is_shared rows o ≡ is_shared others o
shared_same rows others moved None = refl
shared_same rows others moved (Some n) = ap (nat_lt 1) (sym (sum_by-IsPermutation (λ (row : RowId). cond (is_number n row.id) 1 0) rows others moved))

unsound_same : (rows others : List RowId) → IsPermutation rows others → (mark : ℤ) (version : ℕ) (row : RowId) → is_unsound rows mark version row ≡ is_unsound others mark version row
unsound_same rows others moved mark version row = ap (λ (b : Bool). is_some_outside mark row.id || b || is_some_outside (pos version) row.version) (shared_same rows others moved row.id)

fails_moved : (rows others : List RowId) → IsPermutation rows others → (mark : ℤ) (version : ℕ) (n : ℤ) → Fails rows mark version n → Fails others mark version n
fails_moved rows others moved mark version n is = by (fails_to rows mark version n is)
  where
    by : IsOfOne (is_unsound rows mark version) rows n → Fails others mark version n
    by one = fails_from others mark version n (record {
      row = one.row;
      there = Contains-permutation rows others one.row moved one.there;
      passes = sym (unsound_same rows others moved mark version one.row) ∙ one.passes;
      held = one.held;
    })

pub least_failing_moved : (rows others : List RowId) (mark : ℤ) (version : ℕ) → IsPermutation rows others → least_failing others mark version ≡ least_failing rows mark version
least_failing_moved rows others mark version moved =
    least_is_one (Fails others mark version) (least_failing others mark version) (least_failing rows mark version)
    (least_failing_is others mark version)
    (least_agrees (Fails rows mark version) (Fails others mark version) (least_failing rows mark version)
    (fails_moved rows others moved mark version)
    (fails_moved others rows (IsPermutation-sym rows others moved) mark version)
    (least_failing_is rows mark version))
