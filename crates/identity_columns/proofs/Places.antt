-- The first number beyond the mark.
use Rattle.std.proofs.Common.{◌≡◌, ◌≢◌, ℕ, zero, suc, ◌+◌, ◌-◌, ◌*◌, ◌/◌, ◌<◌, ◌≤◌, ℤ, pos, negsuc, ◌+ℤ◌, ◌-ℤ◌, ◌*ℤ◌, Bool, true, false, cond, List, ◌∷◌, ◌++◌, map, arith, refl, sym, ap, subst, ◌∙◌}
use Rattle.std.specs.Prelude.{int_lt, neg_ℤ, unsigned_abs, Option, Some, None}
use Rattle.std.specs.List.{range_with_len}
use Rattle.std.proofs.lemmas.Int.{ints}
use Rattle.std.proofs.Math.Nat.{le-div_iff_mul-le, lt-div-mul-add, mul-div_cancel}
use Rattle.delta_schema.specs.declared.schema.IdentityRule.{IdentityRule}
use Rattle.identity_columns.specs.Values.{number_at, IsBeyond, IsFirst, place_beyond, first_place, next_values, marked}

-- ---- how far the mark is

not_below : (z : ℤ) → int_lt z (pos 0) ≡ false → pos (unsigned_abs z) ≡ z
not_below (pos n) is = refl
not_below (negsuc n) is = absurd cc

not_above : (z : ℤ) → int_lt (pos 0) z ≡ false → neg_ℤ (pos (unsigned_abs z)) ≡ z
not_above (pos zero) is = refl
not_above (pos (suc n)) is = absurd (grind (arith, ints))
not_above (negsuc n) is = refl

up_gap : (s mark : ℤ) → int_lt mark s ≡ false → mark ≡ s +ℤ pos (unsigned_abs (mark -ℤ s))
up_gap s mark is = let far = not_below (mark -ℤ s) (grind (arith, ints)) in rw far (omega (arith, ints))

down_gap : (s mark : ℤ) → int_lt s mark ≡ false → mark ≡ s +ℤ neg_ℤ (pos (unsigned_abs (mark -ℤ s)))
down_gap s mark is = let far = not_above (mark -ℤ s) (grind (arith, ints)) in rw far (omega (arith, ints))

-- ---- what is beyond

up_beyond : (s : ℤ) (gap x : ℕ) → gap < x → int_lt (s +ℤ pos gap) (s +ℤ pos x) ≡ true
up_beyond s gap x less = grind (arith, ints)

up_within : (s : ℤ) (gap x : ℕ) → x ≤ gap → int_lt (s +ℤ pos gap) (s +ℤ pos x) ≡ false
up_within s gap x less = grind (arith, ints)

down_beyond : (s : ℤ) (gap x : ℕ) → gap < x → int_lt (s +ℤ neg_ℤ (pos x)) (s +ℤ neg_ℤ (pos gap)) ≡ true
down_beyond s gap x less = grind (arith, ints)

down_within : (s : ℤ) (gap x : ℕ) → x ≤ gap → int_lt (s +ℤ neg_ℤ (pos x)) (s +ℤ neg_ℤ (pos gap)) ≡ false
down_within s gap x less = grind (arith, ints)

-- ---- the first beyond

first_up : (s mark : ℤ) (k : ℕ) (below : Bool) → int_lt mark s ≡ below → (n : ℕ) → n ≡ cond below 0 (unsigned_abs (mark -ℤ s) / suc k + 1)
    → (int_lt mark (s +ℤ pos (n * suc k)) ≡ true) × ((earlier : ℕ) → earlier < n → int_lt mark (s +ℤ pos (earlier * suc k)) ≡ false)
first_up s mark k true is n at = (rw at (grind (arith, ints)), λ earlier less. absurd (omega (arith, at, less)))
first_up s mark k false is n at =
    let gap = unsigned_abs (mark -ℤ s) in
    let away : mark ≡ s +ℤ pos gap = up_gap s mark is in
    let past : gap < gap / suc k * suc k + suc k = lt-div-mul-add (omega arith) in
    let next : (gap / suc k + 1) * suc k ≡ gap / suc k * suc k + suc k = omega arith in (
      rw (at, next) (subst (λ (m : ℤ). int_lt m (s +ℤ pos (gap / suc k * suc k + suc k)) ≡ true) (sym away) (up_beyond s gap _ past)),
      λ earlier less.
          let upto : earlier * suc k ≤ gap = (le-div_iff_mul-le (omega arith)).0 (omega (arith, at, less)) in
          subst (λ (m : ℤ). int_lt m (s +ℤ pos (earlier * suc k)) ≡ false) (sym away) (up_within s gap _ upto),
    )

first_down : (s mark : ℤ) (k : ℕ) (below : Bool) → int_lt s mark ≡ below → (n : ℕ) → n ≡ cond below 0 (unsigned_abs (mark -ℤ s) / suc k + 1)
    → (int_lt (s +ℤ neg_ℤ (pos (n * suc k))) mark ≡ true) × ((earlier : ℕ) → earlier < n → int_lt (s +ℤ neg_ℤ (pos (earlier * suc k))) mark ≡ false)
first_down s mark k true is n at = (rw at (grind (arith, ints)), λ earlier less. absurd (omega (arith, at, less)))
first_down s mark k false is n at =
    let gap = unsigned_abs (mark -ℤ s) in
    let away : mark ≡ s +ℤ neg_ℤ (pos gap) = down_gap s mark is in
    let past : gap < gap / suc k * suc k + suc k = lt-div-mul-add (omega arith) in
    let next : (gap / suc k + 1) * suc k ≡ gap / suc k * suc k + suc k = omega arith in (
      rw (at, next) (subst (λ (m : ℤ). int_lt (s +ℤ neg_ℤ (pos (gap / suc k * suc k + suc k))) m ≡ true) (sym away) (down_beyond s gap _ past)),
      λ earlier less.
          let upto : earlier * suc k ≤ gap = (le-div_iff_mul-le (omega arith)).0 (omega (arith, at, less)) in
          subst (λ (m : ℤ). int_lt (s +ℤ neg_ℤ (pos (earlier * suc k))) m ≡ false) (sym away) (down_within s gap _ upto),
    )

not_both : (b : Bool) → b ≡ false → ¬ (b ≡ true)
not_both b off on = let turned : true ≡ false = sym on ∙ off in absurd cc

first_of : (start step : ℤ) (mark : Option ℤ) → step ≢ pos 0 → (n : ℕ) → n ≡ place_beyond start step mark
    → IsBeyond step mark (start +ℤ pos n *ℤ step) × ((earlier : ℕ) → earlier < n → ¬ IsBeyond step mark (start +ℤ pos earlier *ℤ step))
first_of start step None other n at = (tt, λ earlier less. absurd (omega (arith, at, less)))
first_of start (pos zero) (Some mark) other n at = absurd (other refl)
first_of start (pos (suc k)) (Some mark) other n at =
    let on : int_lt (pos 0) (pos (suc k)) ≡ true = grind (arith, ints) in
    let first = first_up start mark k (int_lt mark start) refl n (at ∙ rw on refl) in
    (rw on (first.0), λ earlier less. rw on (not_both _ (first.1 earlier less)))
first_of start (negsuc k) (Some mark) other n at =
    let first = first_down start mark k (int_lt start mark) refl n at in (first.0, λ earlier less. not_both _ (first.1 earlier less))

pub first-is : (rule : IdentityRule) → rule.step ≢ pos 0 → IsFirst rule (first_place rule)
first-is rule other =
    let first = first_of rule.start rule.step rule.mark other (first_place rule) refl in
    record { beyond = first.0; least = first.1 }

-- ---- where the mark is a value of the sequence

up_is_within : (s : ℤ) (x : ℕ) → int_lt (s +ℤ pos x) s ≡ false
up_is_within s x = grind (arith, ints)

down_is_within : (s : ℤ) (x : ℕ) → int_lt s (s +ℤ neg_ℤ (pos x)) ≡ false
down_is_within s x = grind (arith, ints)

up_far : (s : ℤ) (x : ℕ) → unsigned_abs (s +ℤ pos x -ℤ s) ≡ x
up_far s x = let far : s +ℤ pos x -ℤ s ≡ pos x = omega (arith, ints) in ap unsigned_abs far

abs_down : (x : ℕ) → unsigned_abs (neg_ℤ (pos x)) ≡ x
abs_down zero = refl
abs_down (suc x) = refl

down_far : (s : ℤ) (x : ℕ) → unsigned_abs (s +ℤ neg_ℤ (pos x) -ℤ s) ≡ x
down_far s x = let far : s +ℤ neg_ℤ (pos x) -ℤ s ≡ neg_ℤ (pos x) = omega (arith, ints) in ap unsigned_abs far ∙ abs_down x

place_behind : (start step : ℤ) (place : ℕ) → step ≢ pos 0 → place_beyond start step (Some (start +ℤ pos place *ℤ step)) ≡ place + 1
place_behind start (pos zero) place other = absurd (other refl)
place_behind start (pos (suc k)) place other =
    let on : int_lt (pos 0) (pos (suc k)) ≡ true = grind (arith, ints) in
    let whole : place * suc k / suc k ≡ place = mul-div_cancel place (omega arith) in
    rw (on, up_is_within start (place * suc k), up_far start (place * suc k)) (ap (λ (n : ℕ). n + 1) whole)
place_behind start (negsuc k) place other =
    let whole : place * suc k / suc k ≡ place = mul-div_cancel place (omega arith) in
    rw (down_is_within start (place * suc k), down_far start (place * suc k)) (ap (λ (n : ℕ). n + 1) whole)

-- ---- values in two parts

in_two : (f : ℕ → ℤ) (a n m b : ℕ) → a + n ≡ b → map f (range_with_len a (n + m)) ≡ map f (range_with_len a n) ++ map f (range_with_len b m)
in_two f a zero m b at =
    let same : a ≡ b = omega (arith, at) in
    let none : zero + m ≡ m = omega arith in
    ap (λ (k : ℕ). map f (range_with_len a k)) none ∙ ap (λ (k : ℕ). map f (range_with_len k m)) same
in_two f a (suc n) m b at =
    let more : suc n + m ≡ suc (n + m) = omega arith in
    ap (λ (k : ℕ). map f (range_with_len a k)) more ∙ ap (λ (rest : List ℤ). f a ∷ rest) (in_two f (a + 1) n m b (omega (arith, at)))

pub goes-on : (rule : IdentityRule) (some more : ℕ) → rule.step ≢ pos 0 → 0 < some → next_values rule (some + more) ≡ next_values rule some ++ next_values (marked rule some) more
goes-on rule some more other there =
    let behind : first_place (marked rule some) ≡ first_place rule + some =
    place_behind rule.start rule.step (first_place rule + some - 1) other ∙ (let one : first_place rule + some - 1 + 1 ≡ first_place rule + some = omega arith in one) in
    in_two (number_at rule) (first_place rule) some more (first_place (marked rule some)) (sym behind)
