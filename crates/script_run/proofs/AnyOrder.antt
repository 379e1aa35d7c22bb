-- What some member of a list says doesn't depend on the order of the list.
use Rattle.std.proofs.Common.{◌≡◌, ℕ, zero, suc, ◌+◌, ◌<◌, ◌≤◌, Bool, true, false, ◌||◌, cond, List, [], ◌∷◌, length, refl, ap, ◌∙◌, arith}
use Rattle.std.specs.List.{AllByRecursion, list_any, range_with_len}
use Rattle.std.specs.Ordering.{is_lt}
use Rattle.row_tracking.specs.Order.{by_id, in_id_order, ordered, placed}
use Rattle.row_tracking.specs.declared.row_id.RowId.{RowId}

-- ---- some member

any_placed : (rows : List RowId) (G : ℕ → Bool) (place : ℕ) (places : List ℕ) → list_any G (placed rows place places) ≡ (G place || list_any G places)
unfolding placed
any_placed rows G place [] = refl
any_placed rows G place (first ∷ rest) = step (is_lt (by_id rows first place)) (any_placed rows G place rest)
  where
    swap : (a b c : Bool) → (b || (a || c)) ≡ (a || (b || c))
    swap true true c = refl
    swap true false c = refl
    swap false true c = refl
    swap false false c = refl

    step : (before : Bool) → list_any G (placed rows place rest) ≡ (G place || list_any G rest)
        → list_any G (cond before (first ∷ placed rows place rest) (place ∷ first ∷ rest)) ≡ (G place || (G first || list_any G rest))
    step true e = ap (λ b. G first || b) e ∙ swap (G place) (G first) (list_any G rest)
    step false e = refl

any_ordered : (rows : List RowId) (G : ℕ → Bool) (places : List ℕ) → list_any G (ordered rows places) ≡ list_any G places
unfolding ordered
any_ordered rows G [] = refl
any_ordered rows G (place ∷ places) = any_placed rows G place (ordered rows places) ∙ ap (λ b. G place || b) (any_ordered rows G places)

pub any_in_order : (rows : List RowId) (G : ℕ → Bool) → list_any G (in_id_order rows) ≡ list_any G (range_with_len 0 (length rows))
unfolding in_id_order
any_in_order rows G = any_ordered rows G (range_with_len 0 (length rows))

-- ---- every member

all_placed : (P : ℕ → Type 0) (rows : List RowId) (place : ℕ) (places : List ℕ) → P place → AllByRecursion P places → AllByRecursion P (placed rows place places)
unfolding placed
all_placed P rows place [] here all = (here, tt)
all_placed P rows place (first ∷ rest) here all = step (is_lt (by_id rows first place)) (all_placed P rows place rest here all.1)
  where
    step : (before : Bool) → AllByRecursion P (placed rows place rest) → AllByRecursion P (cond before (first ∷ placed rows place rest) (place ∷ first ∷ rest))
    step true later = (all.0, later)
    step false later = (here, all)

all_ordered : (P : ℕ → Type 0) (rows : List RowId) (places : List ℕ) → AllByRecursion P places → AllByRecursion P (ordered rows places)
unfolding ordered
all_ordered P rows [] all = tt
all_ordered P rows (place ∷ places) all = all_placed P rows place (ordered rows places) all.0 (all_ordered P rows places all.1)

range_below : (bound from count : ℕ) → from + count ≤ bound → AllByRecursion (λ place. place < bound) (range_with_len from count)
range_below bound from zero within = tt
range_below bound from (suc count) within = (omega arith, range_below bound (from + 1) count (omega arith))

pub places_within : (rows : List RowId) → AllByRecursion (λ place. place < length rows) (in_id_order rows)
unfolding in_id_order
places_within rows = all_ordered (λ place. place < length rows) rows (range_with_len 0 (length rows)) (range_below (length rows) 0 (length rows) (omega arith))
