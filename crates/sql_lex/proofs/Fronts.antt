-- Tokens taken alone.
use Rattle.sql_lex.proofs.Choices.{both_true, choose, is_equal}
use Rattle.std.proofs.Common.{◌≡◌, ◌∙◌, ℕ, zero, suc, ◌+◌, ◌-◌, ◌≤◌, Bool, true, false, List, [], ◌∷◌, length, take, drop, get_or, refl, ap, sym, subst, arith, nat_lt, Some}
use Rattle.std.specs.Prelude.{◌&&◌, ◌==◌, not, if◌then◌else◌}
use Rattle.std.proofs.lemmas.List.{drop-take, length-take}
use Rattle.sql_lex.specs.declared.bytes.Class.{Class}
use Rattle.sql_lex.specs.declared.bytes.Class.TheVariants as class
use Rattle.sql_lex.specs.Bytes.{is_in, run, begins_with}
use Rattle.sql_lex.specs.Numbers.{number_len, fraction_len}
use Rattle.sql_lex.specs.Quotes.{closing}
use Rattle.sql_lex.proofs.Within.{closing_within}

-- a run in a part that has it whole
pub run_take : (c : Class) (n : ℕ) (z : List ℕ) → run c z ≤ n → run c (take n z) ≡ run c z
run_take c zero [] h = refl
run_take c (suc n) [] h = refl
run_take c zero (b ∷ z) h = let e : run c (b ∷ z) ≡ 0 = omega arith in sym e
run_take c (suc n) (b ∷ z) h =
    elim (is_in c b) as (λ v. (if v then 1 + run c z else 0) ≤ suc n → (if v then 1 + run c (take n z) else 0) ≡ (if v then 1 + run c z else 0)) [
      | true ↦ λ le. ap (λ m. 1 + m) (run_take c n z (omega arith))
      | false ↦ λ _. refl
    ] h

-- a part of so many bytes
pub taken : (n : ℕ) (z : List ℕ) → n ≤ length z → length (take n z) ≡ n
taken n z h = length-take n z ∙ (omega arith)

whole_fraction : (b : ℕ) (z : List ℕ) → (b == 46 && nat_lt 0 (run class.Digit z)) ≡ true → fraction_len (take (suc (run class.Digit z)) (b ∷ z)) ≡ suc (run class.Digit z)
whole_fraction b z e =
    let r : run class.Digit (take (run class.Digit z) z) ≡ run class.Digit z = run_take class.Digit (run class.Digit z) z (omega arith) in
    rw r (rw e (omega arith))

fraction_take : (z : List ℕ) → fraction_len (take (fraction_len z) z) ≡ fraction_len z
fraction_take [] = refl
fraction_take (b ∷ z) =
    let r = run class.Digit z in
    choose (λ n. fraction_len (take n (b ∷ z)) ≡ n) (b == 46 && nat_lt 0 r) (r + 1) 0
    (λ e. let k : suc r ≡ r + 1 = omega arith in
    subst (λ n. fraction_len (take n (b ∷ z)) ≡ n) k (whole_fraction b z e))
    (λ _. refl)

pub number_take : (z : List ℕ) → number_len (take (number_len z) z) ≡ number_len z
number_take z =
    let w = run class.Digit z in
    let f = fraction_len (drop w z) in
    let y = take (w + f) z in
    let r : run class.Digit y ≡ w = run_take class.Digit (w + f) z (omega arith) in
    ap (λ m. m + fraction_len (drop m y)) r ∙ ap (λ x. w + fraction_len x) (drop-take w f z) ∙ ap (λ m. w + m) (fraction_take (drop w z))

begins_take : (q n : ℕ) (z : List ℕ) → 1 ≤ n → begins_with q (take n z) ≡ begins_with q z
begins_take q zero z h = absurd (omega arith)
begins_take q (suc n) [] h = refl
begins_take q (suc n) (b ∷ z) h = refl

-- a quoted text that ends at n, taken alone
pub record Ends (q : ℕ) (second : Bool) (at n : ℕ) (z : List ℕ) : Type 0 where
  pub some : 1 ≤ n
  pub within : n ≤ length z
  pub last : get_or (take n z) (n - 1) 0 ≡ q
  pub alone : closing q second at (take n z) ≡ Some (at + n)

same_number : (m n : ℕ) → Some m ≡ Some n → m ≡ n
same_number m n h = cc

ends_here : (q : ℕ) (second : Bool) (at b : ℕ) (z : List ℕ) → (not second && (b == q && not (begins_with q z))) ≡ true → Ends q second at 1 (b ∷ z)
ends_here q second at b z e =
    let outer = both_true (not second) (b == q && not (begins_with q z)) e in
    let inner = both_true (b == q) (not (begins_with q z)) outer.1 in record {
      some = omega arith;
      within = omega arith;
      last = is_equal b q inner.0;
      alone = rw (outer.0, inner.0) refl;
    }

pub get_later : (m b : ℕ) (y : List ℕ) → 1 ≤ m → get_or (b ∷ y) m 0 ≡ get_or y (m - 1) 0
get_later zero b y h = absurd (omega arith)
get_later (suc m) b y h = let e : m ≡ suc m - 1 = omega arith in ap (λ n. get_or y n 0) e

ends_later : (q : ℕ) (second : Bool) (at m b : ℕ) (z : List ℕ) → (not second && (b == q && not (begins_with q z))) ≡ false
    → Ends q (not second && b == q) (at + 1) m z → Ends q second at (suc m) (b ∷ z)
ends_later q second at m b z e rest =
    let same : (not second && (b == q && not (begins_with q (take m z)))) ≡ false = rw (begins_take q m z rest.some) e in record {
      some = omega arith;
      within = omega (arith, rest.within);
      last = let e : m ≡ suc m - 1 = omega arith in ap (λ n. get_or (b ∷ take m z) n 0) (sym e) ∙ get_later m b (take m z) rest.some ∙ rest.last;
      alone = rw same (rest.alone ∙ ap Some (omega arith));
    }

pub ends : (q : ℕ) (second : Bool) (at n : ℕ) (z : List ℕ) → closing q second at z ≡ Some (at + n) → Ends q second at n z
ends q second at n [] h = absurd (cc)
ends q second at n (b ∷ z) h =
    elim (not second && (b == q && not (begins_with q z))) as (λ v. (not second && (b == q && not (begins_with q z))) ≡ v
    → (if v then Some (at + 1) else closing q (not second && b == q) (at + 1) z) ≡ Some (at + n) → Ends q second at n (b ∷ z)) [
      | true ↦ λ e g. let one : 1 ≡ n = omega (arith, same_number (at + 1) (at + n) g) in
          subst (λ m. Ends q second at m (b ∷ z)) one (ends_here q second at b z e)
      | false ↦ λ e g.
          let bounds = closing_within q (not second && b == q) (at + 1) z in
          let above = rw g at bounds in
          let whole : suc (n - 1) ≡ n = omega (arith, above.0) in
          let later : Some (at + n) ≡ Some (at + 1 + (n - 1)) = ap Some (omega (arith, above.0)) in
          subst (λ m. Ends q second at m (b ∷ z)) whole
          (ends_later q second at (n - 1) b z e (ends q (not second && b == q) (at + 1) (n - 1) z (g ∙ later)))
    ] refl h
