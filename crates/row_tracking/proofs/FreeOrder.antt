-- Rows with distinct ids are put in the same order whatever the order that they stand in, and rows without ids stay.
use Rattle.std.proofs.Common.{◌≡◌, ℕ, zero, suc, ◌+◌, ◌<◌, ℤ, ◌<ℤ◌, List, [], ◌∷◌, length, get_or, map, Option, Some, None, refl, sym, ap, ◌∙◌, Bool, true, false, cond, arith, is_lt, int_cmp, nat_cmp}
use Rattle.std.specs.Cmp.Lexicographic.{options_total}
use Rattle.std.specs.List.{All, range_with_len}
use Rattle.std.specs.List.Sorted.{IsPermutation, IsSorted}
use Rattle.std.specs.Option.{option_cmp}
use Rattle.std.specs.Ordering.{MatchOrdering, ordering_then}
use Rattle.std.specs.declared.cmp.Ordering.{Ordering}
use Rattle.std.specs.declared.cmp.Ordering.TheVariants.{Less, Equal, Greater}
use Rattle.std.proofs.lemmas.Bool.Decides.{nat_tests}
use Rattle.std.proofs.lemmas.Cmp.{int_ranked, int_cmp_total, on_total, then_total}
use Rattle.std.proofs.lemmas.List.Elements.{All-cons, All-tail}
use Rattle.std.proofs.lemmas.List.FromFn.{length-range_with_len, get_or-range_with_len, fill_by_all}
use Rattle.row_tracking.specs.Checked.{id_at, no_row}
use Rattle.row_tracking.specs.Order.{by_id, in_id_order, rows_by_id, HasDistinctIds}
use Rattle.row_tracking.specs.declared.row_id.RowId.{RowId}
use Rattle.row_tracking.proofs.IdOrder.{ordered-sorted, second_ties}
use Rattle.row_tracking.proofs.Sorting.{IsLinear, inserted, sorted, sorted-permutation, sorted-sorted}

-- ---- rows by id, and then by commit version

abbrev by_row : RowId → RowId → Ordering
by_row a b = ordering_then (option_cmp int_cmp a.id b.id) (option_cmp int_cmp a.version b.version)

same_whole : (a b : ℤ) (o : Ordering) → MatchOrdering o (a <ℤ b) (a ≡ b) (b <ℤ a) → o ≡ Equal → a ≡ b
same_whole a b Less is equal = absurd cc
same_whole a b Equal is equal = is
same_whole a b Greater is equal = absurd cc

same_option : (a b : Option ℤ) → option_cmp int_cmp a b ≡ Equal → a ≡ b
same_option None None equal = refl
same_option None (Some b) equal = absurd cc
same_option (Some a) None equal = absurd cc
same_option (Some a) (Some b) equal = ap Some (same_whole a b (int_cmp a b) (int_ranked a b (int_cmp a b) refl) equal)

first_ties : (o p : Ordering) → ordering_then o p ≡ Equal → o ≡ Equal
first_ties Less p equal = absurd cc
first_ties Equal p equal = refl
first_ties Greater p equal = absurd cc

same_parts : (i j v w : Option ℤ) → i ≡ j → v ≡ w → (let one : RowId = record { id = i; version = v } in let other : RowId = record { id = j; version = w } in one ≡ other)
same_parts i j v w e f = rw (e, f) refl

linear_by_row : IsLinear by_row
linear_by_row = record {
  total = then_total (on_total (λ (row : RowId). row.id) (options_total int_cmp_total)) (on_total (λ (row : RowId). row.version) (options_total int_cmp_total));
  same = λ a b equal. same_parts a.id b.id a.version b.version
      (same_option a.id b.id (first_ties (option_cmp int_cmp a.id b.id) (option_cmp int_cmp a.version b.version) equal))
      (same_option a.version b.version (second_ties (option_cmp int_cmp a.id b.id) (option_cmp int_cmp a.version b.version) equal));
}

-- ---- places of different ids are in the order of the rows there

abbrev at : List RowId → ℕ → RowId
at rows place = get_or rows place no_row

second_free : (o p q : Ordering) → ¬ (o ≡ Equal) → is_lt (ordering_then o p) ≡ is_lt (ordering_then o q)
second_free Less p q apart = refl
second_free Equal p q apart = absurd (apart refl)
second_free Greater p q apart = refl

agree : (rows : List RowId) → HasDistinctIds rows → (a k : ℕ) → a < k → k < length rows → is_lt (by_id rows k a) ≡ is_lt (by_row (at rows k) (at rows a))
agree rows distinct a k above within =
    second_free (option_cmp int_cmp (id_at rows k) (id_at rows a)) (nat_cmp k a) (option_cmp int_cmp (at rows k).version (at rows a).version)
    (λ equal. distinct a k above within (sym (same_option (id_at rows k) (id_at rows a) equal)))

record IsBetween (low high k : ℕ) : Type 0 where
  above : low < k
  below : k < high

All-inserted_by : (P : ℕ → Type 0) (R : ℕ → ℕ → Ordering) (x first : ℕ) (rest : List ℕ) (is : Bool) → P x → All P (first ∷ rest) → All P (inserted R x rest) → All P (cond is (first ∷ inserted R x rest) (x ∷ first ∷ rest))
All-inserted_by P R x first rest true of_x all more = All-cons P first (inserted R x rest) (all 0 x (omega arith)) more
All-inserted_by P R x first rest false of_x all more = All-cons P x (first ∷ rest) of_x all

All-inserted : (P : ℕ → Type 0) (R : ℕ → ℕ → Ordering) (x : ℕ) (xs : List ℕ) → P x → All P xs → All P (inserted R x xs)
unfolding inserted
All-inserted P R x [] of_x all = All-cons P x [] of_x all
All-inserted P R x (first ∷ rest) of_x all =
    All-inserted_by P R x first rest (is_lt (R first x)) of_x all (All-inserted P R x rest of_x (All-tail P first rest all))

All-sorted : (P : ℕ → Type 0) (R : ℕ → ℕ → Ordering) (xs : List ℕ) → All P xs → All P (sorted R xs)
unfolding sorted
All-sorted P R [] all = all
All-sorted P R (x ∷ xs) all = All-inserted P R x (sorted R xs) (all 0 x (omega arith)) (All-sorted P R xs (All-tail P x xs all))

map-inserted_by : (rows : List RowId) (a k : ℕ) (rest : List ℕ) (is : Bool) → map (at rows) (inserted (by_id rows) a rest) ≡ inserted by_row (at rows a) (map (at rows) rest) → map (at rows) (cond is (k ∷ inserted (by_id rows) a rest) (a ∷ k ∷ rest)) ≡ cond is (at rows k ∷ inserted by_row (at rows a) (map (at rows) rest)) (at rows a ∷ at rows k ∷ map (at rows) rest)
map-inserted_by rows a k rest true more = ap (λ (them : List RowId). at rows k ∷ them) more
map-inserted_by rows a k rest false more = refl

map-inserted : (rows : List RowId) → HasDistinctIds rows → (a : ℕ) (places : List ℕ) → All (IsBetween a (length rows)) places → map (at rows) (inserted (by_id rows) a places) ≡ inserted by_row (at rows a) (map (at rows) places)
unfolding inserted
map-inserted rows distinct a [] all = refl
map-inserted rows distinct a (k ∷ rest) all =
    let here : IsBetween a (length rows) k = all 0 k (omega arith) in
    let same = agree rows distinct a k here.above here.below in
    rw (sym same) (map-inserted_by rows a k rest (is_lt (by_id rows k a)) (map-inserted rows distinct a rest (All-tail (IsBetween a (length rows)) k rest all)))

between : (a n high : ℕ) → a + 1 + n ≡ high → All (IsBetween a high) (range_with_len (a + 1) n)
between a n high ends i d within =
    let low : i < n = rw length-range_with_len at within in
    rw (get_or-range_with_len (a + 1) n i d low) (record { above = omega arith; below = omega arith })

map-sorted : (rows : List RowId) → HasDistinctIds rows → (a n : ℕ) → a + n ≡ length rows → map (at rows) (sorted (by_id rows) (range_with_len a n)) ≡ sorted by_row (map (at rows) (range_with_len a n))
unfolding sorted
map-sorted rows distinct a zero ends = refl
map-sorted rows distinct a (suc n) ends =
    map-inserted rows distinct a (sorted (by_id rows) (range_with_len (a + 1) n))
    (All-sorted (IsBetween a (length rows)) (by_id rows) (range_with_len (a + 1) n) (between a n (length rows) (omega arith)))
    ∙ ap (inserted by_row (at rows a)) (map-sorted rows distinct (a + 1) n (omega arith))

by_rows : (rows : List RowId) → HasDistinctIds rows → rows_by_id rows ≡ sorted by_row rows
unfolding in_id_order
by_rows rows distinct =
    let all : rows ≡ map (at rows) (range_with_len 0 (length rows)) = fill_by_all (at rows) rows (length rows) no_row refl (λ k within. refl) in
    ap (map (at rows)) (ordered-sorted rows (range_with_len 0 (length rows)))
    ∙ map-sorted rows distinct 0 (length rows) (omega arith)
    ∙ ap (sorted by_row) (sym all)

pub moved_by_id : (rows others : List RowId) → IsPermutation rows others → HasDistinctIds rows → HasDistinctIds others → rows_by_id others ≡ rows_by_id rows
moved_by_id rows others moved distinct of_others =
    by_rows others of_others ∙ sorted-permutation by_row linear_by_row rows others moved ∙ sym (by_rows rows distinct)

-- ---- rows without ids

not_back : (k : ℕ) → is_lt (nat_cmp (k + 1) k) ≡ false
not_back k = grind (arith, nat_tests)

ties : (rows : List RowId) (j k : ℕ) → id_at rows j ≡ None → id_at rows k ≡ None → by_id rows j k ≡ nat_cmp j k
ties rows j k first second = rw (first, second) refl

in_turn : (rows : List RowId) → All (λ row. row.id ≡ None) rows → IsSorted (by_id rows) (range_with_len 0 (length rows))
in_turn rows none k d low high =
    let within : k + 1 < length rows = rw length-range_with_len at high in
    let later : get_or (range_with_len 0 (length rows)) (k + 1) d ≡ 0 + (k + 1) = get_or-range_with_len 0 (length rows) (k + 1) d within in
    let earlier : get_or (range_with_len 0 (length rows)) k d ≡ 0 + k = get_or-range_with_len 0 (length rows) k d (omega arith) in
    let next : 0 + (k + 1) ≡ k + 1 = omega arith in
    let this : 0 + k ≡ k = omega arith in
    rw (later, earlier, next, this)
    (ap is_lt (ties rows (k + 1) k (none (k + 1) no_row within) (none k no_row (omega arith))) ∙ not_back k)

pub stays_without_ids : (rows : List RowId) → All (λ row. row.id ≡ None) rows → in_id_order rows ≡ range_with_len 0 (length rows)
unfolding in_id_order
stays_without_ids rows none =
    ordered-sorted rows (range_with_len 0 (length rows)) ∙ sorted-sorted (by_id rows) (range_with_len 0 (length rows)) (in_turn rows none)

-- ---- places are those of rows

among : (n : ℕ) → All (λ place. place < n) (range_with_len 0 n)
among n i d within =
    let low : i < n = rw length-range_with_len at within in
    rw (get_or-range_with_len 0 n i d low) (omega arith)

pub places_within : (rows : List RowId) → All (λ place. place < length rows) (in_id_order rows)
unfolding in_id_order
places_within rows =
    let places : List ℕ = range_with_len 0 (length rows) in
    rw (ordered-sorted rows places) (All-sorted (λ place. place < length rows) (by_id rows) places (among (length rows)))
