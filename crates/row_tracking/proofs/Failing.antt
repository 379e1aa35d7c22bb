-- An id fails by one row alone, or because two rows hold it.
use Rattle.std.proofs.Common.{◌≡◌, ◌⊎◌, ℕ, ◌+◌, ◌<◌, ◌≤◌, ℤ, pos, ◌<ℤ◌, List, length, get_or, Option, Some, None, Bool, true, false, int_lt, ◌||◌, refl, sym, ap, ◌∙◌, inl, inr, arith}
use Rattle.std.specs.List.Sorted.{IsPermutation}
use Rattle.std.specs.Prelude.{filter_map}
use Rattle.std.proofs.lemmas.Bool.{cases_lt, or_cases, or_left, or_right}
use Rattle.std.proofs.lemmas.Int.{ints}
use Rattle.std.proofs.lemmas.List.{get_or_past, get_or_default}
use Rattle.row_tracking.specs.Checked.{no_row, id_at, version_at, IsOutside, Fails, outside, held_twice, misdated, IsLeast, is_outside, is_some_outside}
use Rattle.row_tracking.specs.StepsChecked.{id_if, failing_id, FailsBelow, IsRepeated, lesser}
use Rattle.row_tracking.specs.declared.row_id.RowId.{RowId}
use Rattle.row_tracking.proofs.Counted.{repeated_in_order, repeated_from_order}
use Rattle.row_tracking.proofs.Leasts.{least_of_both, least_of_one}

-- ---- row by row

pub fails_none : (rows : List RowId) (mark : ℤ) (version : ℕ) → IsLeast (FailsBelow rows mark version 0) None
fails_none rows mark version n is = let below = is.below in absurd (omega arith)

pub fails_more : (rows : List RowId) (mark : ℤ) (version i : ℕ) (least : Option ℤ) (row : RowId) → row ≡ get_or rows i no_row → IsLeast (FailsBelow rows mark version i) least → IsLeast (FailsBelow rows mark version (i + 1)) (lesser least (failing_id mark version row))
fails_more rows mark version i least row here before =
    least_of_both (FailsBelow rows mark version i) (λ n. failing_id mark version row ≡ Some n) (FailsBelow rows mark version (i + 1)) least (failing_id mark version row)
    before (least_of_one (failing_id mark version row))
    (λ n is. record { place = is.place; below = let b = is.below in omega arith; fails = is.fails })
    (λ n is. record { place = i; below = omega arith; fails = ap (failing_id mark version) (sym here) ∙ is })
    (λ n is. by n is (cases_lt is.place i))
  where
    by : (n : ℤ) → (is : FailsBelow rows mark version (i + 1) n) → ((is.place < i) ⊎ (i ≤ is.place)) → (FailsBelow rows mark version i n ⊎ (failing_id mark version row ≡ Some n))
    by n is (inl less) = inl (record { place = is.place; below = less; fails = is.fails })
    by n is (inr past) =
        let b = is.below in
        let e : is.place ≡ i = omega arith in
        inr (ap (failing_id mark version) here ∙ ap (λ (k : ℕ). failing_id mark version (get_or rows k no_row)) (sym e) ∙ is.fails)

-- ---- what is outside

less_from : (x y : ℤ) → int_lt x y ≡ true → x <ℤ y
less_from x y is = grind (arith, ints)

less_to : (x y : ℤ) → x <ℤ y → int_lt x y ≡ true
less_to x y is = grind (arith, ints)

outside_from : (greatest n : ℤ) → is_outside greatest n ≡ true → IsOutside greatest n
outside_from greatest n is = elim (or_cases (int_lt n (pos 0)) (int_lt greatest n) is) [ inl h ↦ inl (less_from n (pos 0) h) | inr h ↦ inr (less_from greatest n h) ]

pub outside_to : (greatest n : ℤ) → IsOutside greatest n → is_outside greatest n ≡ true
outside_to greatest n (inl h) = or_left (int_lt n (pos 0)) (int_lt greatest n) (less_to n (pos 0) h)
outside_to greatest n (inr h) = or_right (int_lt n (pos 0)) (int_lt greatest n) (less_to greatest n h)

-- ---- an id that fails by one row

-- what a failing id says of its row
record FailsHere (mark : ℤ) (version : ℕ) (id made : Option ℤ) (n : ℤ) : Type 0 where
  held : id ≡ Some n
  wrong : IsOutside mark n ⊎ ((v : ℤ) × (made ≡ Some v) × IsOutside (pos version) v)

pub misdated_from : (version : ℕ) (made : Option ℤ) → is_some_outside (pos version) made ≡ true → (v : ℤ) × (made ≡ Some v) × IsOutside (pos version) v
misdated_from version None is = absurd cc
misdated_from version (Some v) is = (v, refl, outside_from (pos version) v is)

pub past_from : (mark : ℤ) (id : Option ℤ) (n : ℤ) → id ≡ Some n → is_some_outside mark id ≡ true → IsOutside mark n
past_from mark None n held is = absurd cc
past_from mark (Some m) n held is = let e : m ≡ n = cc in let past : is_outside mark n ≡ true = rw e at is in outside_from mark n past

here_from : (mark : ℤ) (version : ℕ) (id made : Option ℤ) (n : ℤ) → id_if (is_some_outside mark id || is_some_outside (pos version) made) id ≡ Some n → FailsHere mark version id made n
here_from mark version id made n is = by (is_some_outside mark id || is_some_outside (pos version) made) refl is
  where
    by : (wrong : Bool) → (is_some_outside mark id || is_some_outside (pos version) made) ≡ wrong → id_if wrong id ≡ Some n → FailsHere mark version id made n
    by false e h = absurd cc
    by true e h = record {
      held = h;
      wrong = elim (or_cases (is_some_outside mark id) (is_some_outside (pos version) made) e) [ inl p ↦ inl (past_from mark id n h p) | inr m ↦ inr (misdated_from version made m) ];
    }

pub fails_from_below : (rows : List RowId) (mark : ℤ) (version high : ℕ) (n : ℤ) → FailsBelow rows mark version high n → Fails rows mark version n
fails_from_below rows mark version high n is = by (here_from mark version (id_at rows is.place) (version_at rows is.place) n is.fails)
  where
    by : FailsHere mark version (id_at rows is.place) (version_at rows is.place) n → Fails rows mark version n
    by here = elim here.wrong [ inl past ↦ outside is.place here.held past | inr (v, made, past) ↦ misdated is.place v here.held made past ]

id_if-true : (wrong : Bool) (id : Option ℤ) → wrong ≡ true → id_if wrong id ≡ id
id_if-true wrong id is = rw is refl

pub below_length : (rows : List RowId) (k : ℕ) (n : ℤ) → id_at rows k ≡ Some n → k < length rows
below_length rows k n held = by (cases_lt k (length rows))
  where
    by : ((k < length rows) ⊎ (length rows ≤ k)) → k < length rows
    by (inl less) = less
    by (inr past) = absurd (let none : id_at rows k ≡ None = ap (λ (row : RowId). row.id) (get_or_past rows k no_row past) in cc)

failing_at : (rows : List RowId) (mark : ℤ) (version k : ℕ) (n : ℤ) → id_at rows k ≡ Some n → (is_some_outside mark (id_at rows k) || is_some_outside (pos version) (version_at rows k)) ≡ true → FailsBelow rows mark version (length rows) n
failing_at rows mark version k n held wrong = record {
  place = k;
  below = below_length rows k n held;
  fails = id_if-true _ (id_at rows k) wrong ∙ held;
}

pub repeated_from : (rows : List RowId) (n : ℤ) (j k : ℕ) → j < k → id_at rows j ≡ Some n → id_at rows k ≡ Some n → IsRepeated (λ (row : RowId). row.id) rows n
repeated_from rows n j k apart first second = record {
  first = j;
  second = k;
  apart = apart;
  within = below_length rows k n second;
  at_first = λ d. ap (λ (row : RowId). row.id) (get_or_default rows j d no_row (below_length rows j n first)) ∙ first;
  at_second = λ d. ap (λ (row : RowId). row.id) (get_or_default rows k d no_row (below_length rows k n second)) ∙ second;
}

pub fails_split : (rows : List RowId) (mark : ℤ) (version : ℕ) (n : ℤ) → Fails rows mark version n → (FailsBelow rows mark version (length rows) n ⊎ IsRepeated (λ (row : RowId). row.id) rows n)
fails_split rows mark version n (outside k held past) =
    inl (failing_at rows mark version k n held (or_left (is_some_outside mark (id_at rows k)) (is_some_outside (pos version) (version_at rows k)) (rw held (outside_to mark n past))))
fails_split rows mark version n (misdated k v held made past) =
    inl (failing_at rows mark version k n held (or_right (is_some_outside mark (id_at rows k)) (is_some_outside (pos version) (version_at rows k)) (rw made (outside_to (pos version) v past))))
fails_split rows mark version n (held_twice j k apart first second) = inr (repeated_from rows n j k apart first second)

pub fails_from_repeated : (rows : List RowId) (mark : ℤ) (version : ℕ) (n : ℤ) → IsRepeated (λ (row : RowId). row.id) rows n → Fails rows mark version n
fails_from_repeated rows mark version n is = held_twice is.first is.second is.apart (is.at_first no_row) (is.at_second no_row)

pub least_fails : (rows : List RowId) (mark : ℤ) (version : ℕ) (ids : List ℤ) (alone repeated : Option ℤ) → IsPermutation (filter_map (λ (row : RowId). row.id) rows) ids → IsLeast (FailsBelow rows mark version (length rows)) alone → IsLeast (IsRepeated Some ids) repeated → IsLeast (Fails rows mark version) (lesser alone repeated)
least_fails rows mark version ids alone repeated moved of_alone of_repeated =
    least_of_both (FailsBelow rows mark version (length rows)) (IsRepeated Some ids) (Fails rows mark version) alone repeated of_alone of_repeated
    (λ n is. fails_from_below rows mark version (length rows) n is)
    (λ n is. fails_from_repeated rows mark version n (repeated_from_order (λ (row : RowId). row.id) rows ids moved n is))
    (λ n is. by n (fails_split rows mark version n is))
  where
    by : (n : ℤ) → (FailsBelow rows mark version (length rows) n ⊎ IsRepeated (λ (row : RowId). row.id) rows n) → (FailsBelow rows mark version (length rows) n ⊎ IsRepeated Some ids n)
    by n (inl h) = inl h
    by n (inr h) = inr (repeated_in_order (λ (row : RowId). row.id) rows ids moved n h)
