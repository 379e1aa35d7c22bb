-- Both sides of a comparison times the same number: a proof for the laws of lanes. No clause cites this file.
use Rattle.std.specs.Prelude.{◌≡◌, ℕ, zero, suc, ◌+◌, ◌*◌, ◌<◌, ◌≤◌, ℤ, pos, negsuc, ◌*ℤ◌, ◌<ℤ◌, refl}
use Rattle.std.proofs.Common.{sym, ap, ◌∙◌, arith}
use Rattle.std.proofs.Math.Nat.{mul-le-mul_left}
use Rattle.std.proofs.lemmas.Cmp.{int_ranked, by_ranked}
use Rattle.std.proofs.lemmas.Int.{ints}
use Rattle.std.specs.Ordering.{int_cmp}
use Rattle.std.specs.declared.cmp.Ordering.TheVariants.{Less, Equal, Greater}

mul_below : (x y : ℤ) (k : ℕ) → 0 < k → x <ℤ y → (x *ℤ pos k) <ℤ (y *ℤ pos k)
mul_below x y zero some less = absurd (omega (arith, some))
mul_below (pos a) (pos b) (suc k) some less =
    let step : a + 1 ≤ b = omega (arith, ints) in
    let m : suc k * (a + 1) ≤ suc k * b = mul-le-mul_left (suc k) step in
    omega (arith, ints, m)
mul_below (pos a) (negsuc b) (suc k) some less = absurd (omega (arith, ints))
mul_below (negsuc a) (pos b) (suc k) some less = omega (arith, ints)
mul_below (negsuc a) (negsuc b) (suc k) some less =
    let step : b + 1 ≤ a = omega (arith, ints) in
    let m : suc k * (b + 1) ≤ suc k * a = mul-le-mul_left (suc k) step in
    omega (arith, ints, m)

less_cmp : (x y : ℤ) → x <ℤ y → int_cmp x y ≡ Less
less_cmp x y less = grind (arith, ints)

greater_cmp : (x y : ℤ) → y <ℤ x → int_cmp x y ≡ Greater
greater_cmp x y more = grind (arith, ints)

equal_cmp : (x y : ℤ) → x ≡ y → int_cmp x y ≡ Equal
equal_cmp x y same = grind (arith, ints)

-- both sides times a number above 0
pub int_cmp-scaled : (x y : ℤ) (k : ℕ) → 0 < k → int_cmp (x *ℤ pos k) (y *ℤ pos k) ≡ int_cmp x y
int_cmp-scaled x y k some =
    by_ranked _ _ _ (int_cmp x y) (int_ranked x y (int_cmp x y) refl)
    (λ e less. less_cmp _ _ (mul_below x y k some less) ∙ sym e)
    (λ e same. equal_cmp _ _ (ap (λ (z : ℤ). z *ℤ pos k) same) ∙ sym e)
    (λ e more. greater_cmp _ _ (mul_below y x k some more) ∙ sym e)
