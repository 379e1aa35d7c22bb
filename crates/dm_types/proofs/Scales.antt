-- Decimals at two scales: both numbers times the same power of ten stand as before.
use Rattle.std.proofs.Common.{◌≡◌, ℕ, zero, suc, ◌+◌, ◌-◌, ◌*◌, ◌^◌, ◌<◌, ◌≤◌, ℤ, pos, negsuc, ◌*ℤ◌, neg_ℤ, FitsSigned, refl, sym, ap, ◌∙◌, subst, arith}
use Rattle.std.proofs.Math.Nat.{mul-le-mul_left, pow-le-pow_right, one-le-pow, mul_assoc}
use Rattle.std.proofs.lemmas.Int.{ints}
use Rattle.std.proofs.lemmas.Cmp.{int_cmp_total}
use Rattle.std.proofs.lemmas.Nat.{pow-add}
use Rattle.std.specs.Int.{w128}
use Rattle.std.specs.Ordering.{int_cmp, ordering_reverse}
use Rattle.dm_types.specs.Scaled.{int_cmp-scaled}
use Rattle.dm_types.specs.Value.{decimal_cmp}
use Rattle.dm_types.specs.declared.value.Decimal.{Decimal}

-- a product that fits, fits with a smaller factor
fits_less : (z : ℤ) (a b : ℕ) → a ≤ b → FitsSigned w128 (z *ℤ pos b) → FitsSigned w128 (z *ℤ pos a)
fits_less (pos m) a b le fits =
    let m : m * a ≤ m * b = mul-le-mul_left m le in
    omega (arith, ints, m)
fits_less (negsuc m) a b le fits =
    let m : suc m * a ≤ suc m * b = mul-le-mul_left (suc m) le in
    omega (arith, ints, m)

-- two factors one after another
neg_ℤ-times : (a k : ℕ) → neg_ℤ (pos a) *ℤ pos k ≡ neg_ℤ (pos (a * k))
neg_ℤ-times zero k = omega (arith, ints)
neg_ℤ-times (suc a) k = refl

scaled_twice : (x : ℤ) (j k : ℕ) → x *ℤ pos j *ℤ pos k ≡ x *ℤ pos (j * k)
scaled_twice (pos x) j k = ap pos (mul_assoc x j k)
scaled_twice (negsuc x) j k = neg_ℤ-times (suc x * j) k ∙ ap (λ (n : ℕ). neg_ℤ (pos n)) (mul_assoc (suc x) j k)

-- the next step of a product
pub next_power : (x : ℤ) (i : ℕ) → x *ℤ pos (10 ^ i) *ℤ pos 10 ≡ x *ℤ pos (10 ^ (i + 1))
next_power x i = scaled_twice x (10 ^ i) 10 ∙ ap (λ (k : ℕ). x *ℤ pos k) (sym (pow-add 10 i 1))

-- a step of the product fails: so does the whole
pub unfit_on : (x p : ℤ) (i n : ℕ) → p ≡ x *ℤ pos (10 ^ i) → i < n → (FitsSigned w128 (p *ℤ pos 10) → ⊥) → FitsSigned w128 (x *ℤ pos (10 ^ n)) → ⊥
unfit_on x p i n is more past fits =
    let le : 10 ^ (i + 1) ≤ 10 ^ n = pow-le-pow_right (omega arith) (omega arith) in
    let next : p *ℤ pos 10 ≡ x *ℤ pos (10 ^ (i + 1)) = ap (λ (z : ℤ). z *ℤ pos 10) is ∙ next_power x i in
    past (subst (λ (z : ℤ). FitsSigned w128 z) (sym next) (fits_less x _ _ le fits))

-- a * 10^t and b * 10^s stand as a * 10^(t-s) and b
pub lower_scales : (a b : ℤ) (s t : ℕ) → s ≤ t → int_cmp (a *ℤ pos (10 ^ (t - s))) b ≡ int_cmp (a *ℤ pos (10 ^ t)) (b *ℤ pos (10 ^ s))
lower_scales a b s t le =
    let sum : t - s + s ≡ t = omega arith in
    let left : a *ℤ pos (10 ^ (t - s)) *ℤ pos (10 ^ s) ≡ a *ℤ pos (10 ^ t) =
    scaled_twice a (10 ^ (t - s)) (10 ^ s) ∙ ap (λ (k : ℕ). a *ℤ pos k) (sym (pow-add 10 (t - s) s) ∙ ap (λ (k : ℕ). 10 ^ k) sum) in
    sym (int_cmp-scaled (a *ℤ pos (10 ^ (t - s))) b (10 ^ s) (one-le-pow s 10 (omega arith))) ∙ ap (λ (z : ℤ). int_cmp z (b *ℤ pos (10 ^ s))) left

-- the other way round
pub decimal_cmp-turned : (a b : Decimal) → ordering_reverse (decimal_cmp b a) ≡ decimal_cmp a b
decimal_cmp-turned a b = sym (int_cmp_total.antisymm (a.unscaled *ℤ pos (10 ^ b.scale)) (b.unscaled *ℤ pos (10 ^ a.scale)))
