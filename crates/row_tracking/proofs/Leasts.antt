-- The least number of one kind or another.
use Rattle.std.proofs.Common.{◌≡◌, ◌⊎◌, ℤ, ◌≤ℤ◌, Option, Some, None, Bool, true, false, cond, int_lt, refl, inl, inr, arith}
use Rattle.std.proofs.lemmas.Int.{ints}
use Rattle.row_tracking.specs.Checked.{IsLeast}
use Rattle.row_tracking.specs.StepsChecked.{lesser}

up_to : (x y n : ℤ) → x ≤ℤ y → y ≤ℤ n → x ≤ℤ n
up_to x y n xy yn = omega (arith, ints)

not_less : (x y : ℤ) → int_lt y x ≡ false → x ≤ℤ y
not_less x y is = grind (arith, ints)

less : (x y : ℤ) → int_lt y x ≡ true → y ≤ℤ x
less x y is = grind (arith, ints)

itself : (x : ℤ) → x ≤ℤ x
itself x = omega (arith, ints)

pub least_of_both : (P Q R : ℤ → Type 0) (a b : Option ℤ) → IsLeast P a → IsLeast Q b → ((n : ℤ) → P n → R n) → ((n : ℤ) → Q n → R n) → ((n : ℤ) → R n → (P n ⊎ Q n)) → IsLeast R (lesser a b)
least_of_both P Q R None None of_p of_q p q split = λ n r. elim (split n r) [ inl h ↦ of_p n h | inr h ↦ of_q n h ]
least_of_both P Q R None (Some y) of_p of_q p q split =
    (q y of_q.0, λ n r. elim (split n r) [ inl h ↦ absurd (of_p n h) | inr h ↦ of_q.1 n h ])
least_of_both P Q R (Some x) None of_p of_q p q split =
    (p x of_p.0, λ n r. elim (split n r) [ inl h ↦ of_p.1 n h | inr h ↦ absurd (of_q n h) ])
least_of_both P Q R (Some x) (Some y) of_p of_q p q split = by (int_lt y x) refl
  where
    by : (is : Bool) → int_lt y x ≡ is → IsLeast R (Some (cond is y x))
    by true is = (q y of_q.0, λ n r. elim (split n r) [ inl h ↦ up_to y x n (less x y is) (of_p.1 n h) | inr h ↦ of_q.1 n h ])
    by false is = (p x of_p.0, λ n r. elim (split n r) [ inl h ↦ of_p.1 n h | inr h ↦ up_to x y n (not_less x y is) (of_q.1 n h) ])

-- one number alone
pub least_of_one : (o : Option ℤ) → IsLeast (λ n. o ≡ Some n) o
least_of_one None = λ n is. absurd cc
least_of_one (Some x) = (refl, λ n is. let e : x ≡ n = cc in rw e (itself n))
