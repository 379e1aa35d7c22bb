-- The numbers of a sequence by their places.
use Rattle.std.proofs.Common.{◌≡◌, ℕ, suc, ◌+◌, ◌-◌, ◌*◌, ◌<◌, ◌≤◌, ℤ, pos, negsuc, ◌+ℤ◌, ◌*ℤ◌, FitsSigned, true, false, map, slice_index_or, All, arith, refl, sym, ap, ◌∙◌}
use Rattle.std.specs.Prelude.{neg_ℤ, Option, Some, None, SomeIff, is_some}
use Rattle.std.specs.Int.{w64}
use Rattle.std.specs.List.{range_with_len}
use Rattle.std.proofs.lemmas.Int.{ints}
use Rattle.std.proofs.lemmas.List.FromFn.{length-map-range_with_len, get_or-map-range_with_len}
use Rattle.std.proofs.Math.Nat.{mul-le-mul_right}
use Rattle.delta_schema.specs.declared.schema.IdentityRule.{IdentityRule}
use Rattle.identity_columns.specs.Values.{number_at, first_place, next_values, IsLong}

-- ---- a number between two

up_between : (s : ℤ) (x y z : ℕ) → x ≤ y → y ≤ z → FitsSigned w64 (s +ℤ pos x) → FitsSigned w64 (s +ℤ pos z) → FitsSigned w64 (s +ℤ pos y)
up_between s x y z low high first last = omega (arith, ints, low, high, first, last)

down_between : (s : ℤ) (x y z : ℕ) → x ≤ y → y ≤ z → FitsSigned w64 (s +ℤ neg_ℤ (pos x)) → FitsSigned w64 (s +ℤ neg_ℤ (pos z)) → FitsSigned w64 (s +ℤ neg_ℤ (pos y))
down_between s x y z low high first last = omega (arith, ints, low, high, first, last)

between : (s t : ℤ) (a b c : ℕ) → a ≤ b → b ≤ c → FitsSigned w64 (s +ℤ pos a *ℤ t) → FitsSigned w64 (s +ℤ pos c *ℤ t) → FitsSigned w64 (s +ℤ pos b *ℤ t)
between s (pos k) a b c low high first last = up_between s (a * k) (b * k) (c * k) (mul-le-mul_right k low) (mul-le-mul_right k high) first last
between s (negsuc k) a b c low high first last =
    down_between s (a * suc k) (b * suc k) (c * suc k) (mul-le-mul_right (suc k) low) (mul-le-mul_right (suc k) high) first last

-- ---- all of them

pub all_from : (f : ℕ → ℤ) (a n : ℕ) → ((k : ℕ) → k < n → IsLong (f (a + k))) → All IsLong (map f (range_with_len a n))
all_from f a n each = λ k d within.
    let here : k < n = rw (← length-map-range_with_len f a n) within in
    rw (get_or-map-range_with_len f a n k (a + k) d here refl) (each k here)

pub all_at : (f : ℕ → ℤ) (a n k : ℕ) → k < n → All IsLong (map f (range_with_len a n)) → IsLong (f (a + k))
all_at f a n k here all =
    let found = all k (pos 0) (rw (length-map-range_with_len f a n) here) in
    let at : slice_index_or (map f (range_with_len a n)) k (pos 0) ≡ f (a + k) = get_or-map-range_with_len f a n k (a + k) (pos 0) here refl in
    rw (← at) found

-- the outer ones decide
pub outer : (rule : IdentityRule) (count : ℕ) → 0 < count → IsLong (number_at rule (first_place rule)) → IsLong (number_at rule (first_place rule + (count - 1))) → All IsLong (next_values rule count)
outer rule count some first last = all_from (number_at rule) (first_place rule) count
    (λ k here. between rule.start rule.step (first_place rule) (first_place rule + k) (first_place rule + (count - 1)) (omega arith) (omega arith) first last)

-- ---- a value is there where its number is in range

told : (answer : Option ℤ) (n : ℤ) → SomeIff answer (IsLong n) n → is_some answer ≡ true → IsLong n
told (Some value) n iff some = iff.0
told None n iff some = absurd cc

there : (answer : Option ℤ) (n : ℤ) → SomeIff answer (IsLong n) n → IsLong n → is_some answer ≡ true
there (Some value) n iff long = refl
there None n iff long = absurd (iff long)

abbrev Answers : IdentityRule → ℤ → Option ℤ → Type 0
Answers rule place answer = let value = rule.start +ℤ place *ℤ rule.step in SomeIff answer (IsLong value) value

pub both_there : (rule : IdentityRule) (count : ℕ) (first last : Option ℤ) (a b : ℤ) → 0 < count → a ≡ pos (first_place rule) → b ≡ pos (first_place rule + (count - 1)) → Answers rule a first → Answers rule b last → is_some first ≡ true
    → (is_some last ≡ true → All IsLong (next_values rule count)) × (All IsLong (next_values rule count) → is_some last ≡ true)
both_there rule count first last a b some at_a at_b of_first of_last is =
    let low : IsLong (number_at rule (first_place rule)) = rw (← at_a) (told first _ of_first is) in (
      λ is'. outer rule count some low (rw (← at_b) (told last _ of_last is')),
      λ all. there last _ of_last (rw at_b (all_at (number_at rule) (first_place rule) count (count - 1) (omega arith) all)),
    )

pub first_not_there : (rule : IdentityRule) (count : ℕ) (first : Option ℤ) (a : ℤ) → 0 < count → a ≡ pos (first_place rule) → Answers rule a first → is_some first ≡ false → ¬ All IsLong (next_values rule count)
first_not_there rule count first a some at_a of_first is all =
    let here : number_at rule (first_place rule + 0) ≡ number_at rule (first_place rule) = ap (number_at rule) (omega arith) in
    let low : IsLong (number_at rule (first_place rule)) = rw (← here) (all_at (number_at rule) (first_place rule) count 0 some all) in
    let on : is_some first ≡ true = there first _ of_first (rw at_a low) in
    (let off : true ≡ false = sym on ∙ is in absurd cc)
