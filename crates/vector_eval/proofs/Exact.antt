-- Numbers that an i128 doesn't hold are past every range of a type; and the steps of scales.
use Rattle.std.proofs.Common.{Less, Equal, Greater, to_z, ◌≡◌, ℕ, zero, suc, min, ◌+◌, ◌-◌, ◌/◌, ◌^◌, ◌<◌, ◌≤◌, ℤ, pos, negsuc, ◌*ℤ◌, neg_ℤ, FitsSigned, of_z, cond, Bool, true, false, Option, Some, None, inl, inr, refl, sym, ap, ◌∙◌, subst, arith}
use Rattle.std.specs.Prelude.{Result, Ok, Err, nat_lt, unsigned_abs, int_div, if◌then◌else◌}
use Rattle.std.specs.Int.{w128, is_negative, CanDivide, IsNonZero}
use Rattle.std.specs.Option.{SomeIff}
use Rattle.std.specs.Ordering.{int_eq, is_eq}
use Rattle.std.proofs.Math.Nat.{pow-le-pow_right, one-le-pow, div-eq_of_lt}
use Rattle.std.proofs.lemmas.Bool.{cases_Bool, ltb-true, le-ltb, lt-ltb}
use Rattle.std.proofs.lemmas.Int.{ints, fits_signed_from_abs, to_z-of_z, to_z_pos, quot_fits}
use Rattle.dm_types.specs.Lanes.{is_within}
use Rattle.dm_types.specs.Then.{go}
use Rattle.dm_types.specs.declared.value.DataType.{DataType}
use Rattle.dm_types.specs.declared.value.DataType.TheVariants as kind
use Rattle.dm_types.specs.declared.value.Decimal.{Decimal}
use Rattle.dm_types.specs.declared.value.Value.TheVariants as value
use Rattle.dm_text.specs.Numbers.{with_sign}
use Rattle.vector_eval.specs.Numbers.{in_type, quotient, whole, fixed, digits_kept, at_scale, rounded, decimal}
use Rattle.vector_eval.specs.Outcomes.{Evaluated}
use Rattle.vector_eval.specs.Steps.{past, counted}
use Rattle.vector_eval.specs.declared.fault.ErrorKind.{ErrorKind}
use Rattle.vector_eval.specs.declared.fault.ErrorKind.TheVariants as error

-- ---- ranges

within_small : (bits : ℕ) (n : ℤ) → is_within bits n ≡ true → unsigned_abs n ≤ 2 ^ bits
within_small bits (pos n) e = omega (arith, ltb-true n (2 ^ bits) e)
within_small bits (negsuc n) e = omega (arith, ltb-true n (2 ^ bits) e)

not_within : (bits : ℕ) (n : ℤ) → 2 ^ bits < 2 ^ 127 → (FitsSigned w128 n → ⊥) → is_within bits n ≡ false
not_within bits n small never = elim (cases_Bool (is_within bits n)) as (λ _. is_within bits n ≡ false)
    [ inl e ↦ absurd (never (fits_signed_from_abs w128 n (omega (arith, within_small bits n e)))) | inr e ↦ e ]

whole_past : (bits : ℕ) (n : ℤ) → 2 ^ bits < 2 ^ 127 → (FitsSigned w128 n → ⊥) → whole bits n ≡ Err error.Overflow
whole_past bits n small never = ap (λ b. if b then Ok (value.Int n) else Err error.Overflow) (not_within bits n small never)

few_digits : (p : ℕ) → 10 ^ min 38 p < 2 ^ 127
few_digits p =
    let some : zero < 10 = omega arith in
    let few : min 38 p ≤ 38 = omega arith in
    let le : 10 ^ min 38 p ≤ 10 ^ 38 = pow-le-pow_right some few in
    omega arith

not_kept : (p : ℕ) (n : ℤ) → (FitsSigned w128 n → ⊥) → nat_lt (unsigned_abs n) (10 ^ min 38 p) ≡ false
not_kept p n never = elim (cases_Bool (nat_lt (unsigned_abs n) (10 ^ min 38 p))) as (λ _. nat_lt (unsigned_abs n) (10 ^ min 38 p) ≡ false)
    [ inl e ↦ absurd (never (fits_signed_from_abs w128 n (omega (arith, few_digits p, ltb-true (unsigned_abs n) (10 ^ min 38 p) e)))) | inr e ↦ e ]

pub digits_past : (p : ℕ) (n : ℤ) → (FitsSigned w128 n → ⊥) → digits_kept p n ≡ Err error.Overflow
digits_past p n never = ap (λ b. if b then Ok n else Err error.Overflow) (not_kept p n never)

pub fixed_past : (p s : ℕ) (n : ℤ) → (FitsSigned w128 n → ⊥) → fixed p s n ≡ Err error.Overflow
fixed_past p s n never = ap (λ (r : Result ℤ ErrorKind). go r λ m. Ok (value.Dec (decimal m s))) (digits_past p n never)

past_is : (k : DataType) (n : ℤ) → (FitsSigned w128 n → ⊥) → in_type k n ≡ past k
past_is kind.Void n never = refl
past_is kind.Boolean n never = refl
past_is kind.Byte n never = whole_past 7 n (omega arith) never
past_is kind.Short n never = whole_past 15 n (omega arith) never
past_is kind.Integer n never = whole_past 31 n (omega arith) never
past_is kind.Long n never = whole_past 63 n (omega arith) never
past_is (kind.Decimal p s) n never = fixed_past p s n never
past_is kind.Str n never = refl
past_is kind.Binary n never = refl
past_is kind.Date n never = refl
past_is kind.Timestamp n never = refl

-- what a step that may pass an i128 comes to
pub counted_is : (k : DataType) (n : ℤ) (found : Option ℤ) → SomeIff found (FitsSigned w128 n) n → counted k found ≡ in_type k n
counted_is k n None never = sym (past_is k n never)
counted_is k n (Some m) h = ap (in_type k) h.1

divided_is : (k : DataType) (a b : ℤ) (found : Option ℤ) → IsNonZero w128 b → SomeIff found (CanDivide w128 a b) (int_div a b) → counted k found ≡ in_type k (int_div a b)
divided_is k a b None some never = sym (past_is k (int_div a b) (λ fits. never (some, fits)))
divided_is k a b (Some m) some h = ap (in_type k) h.1

positive_not_zero : (n : ℕ) → 0 < n → int_eq (pos n) (pos 0) ≡ false
positive_not_zero n some =
    ap (λ b. is_eq (cond b Less (cond (nat_lt 0 n) Greater Equal))) (le-ltb n 0 (omega arith))
    ∙ ap (λ b. is_eq (cond b Greater Equal)) (lt-ltb 0 n some)

not_zero : (b : ℤ) → (of_z w128 b ≡ 0 → ⊥) → int_eq b (pos 0) ≡ false
not_zero (pos n) never = positive_not_zero n (omega arith)
not_zero (negsuc n) never = refl

by_zero : (b : ℤ) (outcome : Evaluated) → (of_z w128 b ≡ 0 → ⊥) → (if int_eq b (pos 0) then Err error.DivideByZero else outcome) ≡ outcome
by_zero b outcome never = ap (λ t. if t then Err error.DivideByZero else outcome) (not_zero b never)

pub quotient_is : (k : DataType) (a b : Decimal) (found : Option ℤ) → (of_z w128 b.unscaled ≡ 0 → ⊥) → SomeIff found (CanDivide w128 a.unscaled b.unscaled) (int_div a.unscaled b.unscaled) → counted k found ≡ quotient k a b
quotient_is k a b found never h =
    let some : 0 < of_z w128 b.unscaled = omega arith in
    divided_is k a.unscaled b.unscaled found some h ∙ sym (by_zero b.unscaled (in_type k (int_div a.unscaled b.unscaled)) never)

-- ---- scales

pub rounded_zero : (n : ℤ) → rounded 0 n ≡ n
rounded_zero (pos n) =
    let same : (n + 10 ^ 0 / 2) / 10 ^ 0 ≡ n = omega arith in
    ap (λ b. with_sign b ((n + 10 ^ 0 / 2) / 10 ^ 0)) (le-ltb n 0 (omega arith)) ∙ ap pos same
rounded_zero (negsuc n) =
    let same : (suc n + 10 ^ 0 / 2) / 10 ^ 0 ≡ suc n = omega arith in
    ap (λ (m : ℕ). neg_ℤ (pos m)) same

times_one : (n : ℤ) → n *ℤ pos (10 ^ 0) ≡ n
times_one n = omega (arith, ints)

pub raised_is : (s : ℕ) (d : Decimal) → d.scale ≤ s → at_scale s d ≡ d.unscaled *ℤ pos (10 ^ (s - d.scale))
raised_is s d le =
    let none : d.scale - s ≡ 0 = omega arith in
    ap (λ (k : ℕ). rounded k (d.unscaled *ℤ pos (10 ^ (s - d.scale)))) none ∙ rounded_zero (d.unscaled *ℤ pos (10 ^ (s - d.scale)))

pub lowered_is : (s : ℕ) (d : Decimal) → s < d.scale → at_scale s d ≡ rounded (d.scale - s) d.unscaled
lowered_is s d more =
    let none : s - d.scale ≡ 0 = omega arith in
    ap (λ (k : ℕ). rounded (d.scale - s) (d.unscaled *ℤ pos (10 ^ k))) none ∙ ap (rounded (d.scale - s)) (times_one d.unscaled)

-- ---- rounding

pub power_bounds : (k : ℕ) → 0 < k → k ≤ 38 → (10 ≤ 10 ^ k) × (10 ^ k ≤ 10 ^ 38)
power_bounds k some few =
    let base : zero < 10 = omega arith in
    let one : 1 ≤ k = omega arith in
    let least : 10 ^ 1 ≤ 10 ^ k = pow-le-pow_right base one in
    let most : 10 ^ k ≤ 10 ^ 38 = pow-le-pow_right base few in
    (omega arith, most)

signed_zero : (b : Bool) → with_sign b 0 ≡ pos 0
signed_zero true = refl
signed_zero false = refl

-- half of the divisor is past every i128
pub rounded_far : (k : ℕ) (n : ℤ) → 38 < k → FitsSigned w128 n → pos 0 ≡ rounded k n
rounded_far k n far fits =
    let base : zero < 10 = omega arith in
    let more : 39 ≤ k = omega arith in
    let least : 10 ^ 39 ≤ 10 ^ k = pow-le-pow_right base more in
    let size : unsigned_abs n ≤ 2 ^ 127 = omega (arith, ints) in
    let less : unsigned_abs n + 10 ^ k / 2 < 10 ^ k = omega arith in
    sym (ap (with_sign (is_negative n)) (div-eq_of_lt less) ∙ signed_zero (is_negative n))

-- ---- division

pub truncated_fits : (a : ℤ) (m d : ℕ) → FitsSigned w128 a → m ≡ d → 0 < d → d < 2 ^ 127 → FitsSigned w128 (int_div (to_z w128 (of_z w128 a)) (to_z w128 m))
truncated_fits a m d fits e some small =
    let at : to_z w128 m ≡ pos d = ap (to_z w128) e ∙ to_z_pos w128 d small in
    let same : to_z w128 (of_z w128 a) ≡ a = to_z-of_z w128 a fits in
    let is : int_div (to_z w128 (of_z w128 a)) (to_z w128 m) ≡ int_div a (pos d) = ap (λ (z : ℤ). int_div z (to_z w128 m)) same ∙ ap (int_div a) at in
    subst (λ (z : ℤ). FitsSigned w128 z) (sym is) (quot_fits w128 a (pos d) fits (omega (arith, ints)))

pub truncated_is : (a : ℤ) (m d : ℕ) → FitsSigned w128 a → m ≡ d → 0 < d → d < 2 ^ 127 → to_z w128 (of_z w128 (int_div (to_z w128 (of_z w128 a)) (to_z w128 m))) ≡ int_div a (pos d)
truncated_is a m d fits e some small =
    let at : to_z w128 m ≡ pos d = ap (to_z w128) e ∙ to_z_pos w128 d small in
    let same : to_z w128 (of_z w128 a) ≡ a = to_z-of_z w128 a fits in
    let is : int_div (to_z w128 (of_z w128 a)) (to_z w128 m) ≡ int_div a (pos d) = ap (λ (z : ℤ). int_div z (to_z w128 m)) same ∙ ap (int_div a) at in
    to_z-of_z w128 _ (truncated_fits a m d fits e some small) ∙ is

pub power_small : (k : ℕ) → k ≤ 38 → (0 < 10 ^ k) × (10 ^ k < 2 ^ 127)
power_small k few =
    let base : zero < 10 = omega arith in
    let most : 10 ^ k ≤ 10 ^ 38 = pow-le-pow_right base few in
    let least : 1 ≤ 10 ^ k = one-le-pow k 10 base in
    (omega arith, omega arith)
