-- Tests, and what holds of a choice by one.
use Rattle.std.proofs.Common.{◌≡◌, ℕ, ◌≤◌, Bool, true, false, refl, arith, nat_lt}
use Rattle.std.specs.Prelude.{◌&&◌, ◌==◌, if◌then◌else◌}
use Rattle.std.proofs.lemmas.Bool.Decides.{nat_tests}

-- what holds of both branches holds of the choice
pub choose : {A : Type 0} (P : A → Type 0) (b : Bool) (x y : A) → (b ≡ true → P x) → (b ≡ false → P y) → P (if b then x else y)
choose P true x y f g = f refl
choose P false x y f g = g refl

pub both_true : (p q : Bool) → (p && q) ≡ true → (p ≡ true) × (q ≡ true)
both_true true q h = (refl, h)
both_true false q h = absurd (cc)

pub is_equal : (m n : ℕ) → (m == n) ≡ true → m ≡ n
is_equal m n is = grind (arith, nat_tests)

pub equal_self : (n : ℕ) → (n == n) ≡ true
equal_self n = grind (arith, nat_tests)

pub above_zero : (n : ℕ) → nat_lt 0 n ≡ true → 1 ≤ n
above_zero n is = grind (arith, nat_tests)
