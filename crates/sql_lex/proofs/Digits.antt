-- Numbers of at most 38 digits.
use Rattle.std.proofs.Common.{◌≡◌, ◌∙◌, ℕ, suc, ◌+◌, ◌-◌, ◌*◌, ◌^◌, ◌<◌, ◌≤◌, Bool, true, false, List, [], ◌∷◌, drop, length, get_or, refl, ap, sym, arith, drop-cons, subst}
use Rattle.std.proofs.Math.Nat.{pow-suc, pow-le-pow_right}
use Rattle.std.specs.Char.{is_ascii_digit}
use Rattle.std.specs.Prelude.{if◌then◌else◌}
use Rattle.std.proofs.lemmas.Bool.Decides.{nat_tests}
use Rattle.std.proofs.lemmas.List.Sums.{sum_by-drop_more}
use Rattle.sql_lex.specs.declared.bytes.Class.TheVariants as class
use Rattle.sql_lex.specs.Bytes.{is_in, run}
use Rattle.sql_lex.specs.Numbers.{with_byte, spelled_from, digits}

-- one more digit
wider : (number digit m : ℕ) → number < 10 ^ m → digit ≤ 9 → 10 * number + digit < 10 ^ suc m
wider number digit m below small = let e = pow-suc 10 m in omega (arith, e)

digit_fits : (number digit left : ℕ) → suc left ≤ 38 → number < 10 ^ (38 - suc left) → digit ≤ 9 → 10 * number + digit < 10 ^ (38 - left)
digit_fits number digit left few below small =
    let e : 38 - left ≡ suc (38 - suc left) = omega arith in
    rw e (wider number digit (38 - suc left) below small)

narrower : (number few more : ℕ) → few ≤ more → number < 10 ^ few → number < 10 ^ more
narrower number few more fewer below =
    let some : 0 < 10 = omega arith in
    let least : 10 ^ few ≤ 10 ^ more = pow-le-pow_right some fewer in
    omega (arith, below, least)

pub in_38 : (number left : ℕ) → number < 10 ^ (38 - left) → number < 10 ^ 38
in_38 number left below = narrower number (38 - left) 38 (omega arith) below

digit_value : (b : ℕ) → is_ascii_digit b ≡ true → b - 48 ≤ 9
digit_value b is = grind (arith, nat_tests)

module _ (number i : ℕ) (z : List ℕ) (inside : i < length z) where
  here : drop i z ≡ get_or z i 0 ∷ drop (i + 1) z
  here = let e : i + 1 ≡ suc i = omega arith in rw e (drop-cons z i 0 inside)

  pub byte_spells : spelled_from (with_byte number (get_or z i 0)) (drop (i + 1) z) ≡ spelled_from number (drop i z)
  byte_spells = ap (spelled_from number) (sym here)

  counts : (b : Bool) → is_ascii_digit (get_or z i 0) ≡ b → digits (drop i z) ≡ (if b then 1 else 0) + digits (drop (i + 1) z)
  counts b is =
      subst (λ v. digits (drop i z) ≡ (if v then 1 else 0) + digits (drop (i + 1) z)) is
      (sum_by-drop_more (λ x. if is_ascii_digit x then 1 else 0) z i 0 inside)

  pub fewer : digits (drop (i + 1) z) ≤ digits (drop i z)
  fewer = omega (arith, counts (is_ascii_digit (get_or z i 0)) refl)

  pub byte_room : digits (drop i z) ≤ 38 → number < 10 ^ (38 - digits (drop i z)) → is_ascii_digit (get_or z i 0) ≡ true → number < 10 ^ 37
  byte_room few below is = let e : digits (drop i z) ≡ suc (digits (drop (i + 1) z)) = omega (arith, counts true is) in
      narrower number (38 - suc (digits (drop (i + 1) z))) 37 (omega arith) (rw e at below)

  pub byte_fits : digits (drop i z) ≤ 38 → number < 10 ^ (38 - digits (drop i z)) → with_byte number (get_or z i 0) < 10 ^ (38 - digits (drop (i + 1) z))
  byte_fits few below = elim (is_ascii_digit (get_or z i 0)) as (λ v. is_ascii_digit (get_or z i 0) ≡ v → (if v then 10 * number + (get_or z i 0 - 48) else number) < 10 ^ (38 - digits (drop (i + 1) z))) [
    | true ↦ λ is. let e : digits (drop i z) ≡ suc (digits (drop (i + 1) z)) = omega (arith, counts true is) in
        digit_fits number (get_or z i 0 - 48) (digits (drop (i + 1) z)) (rw e at few) (rw e at below) (digit_value (get_or z i 0) is)
    | false ↦ λ is. let e : digits (drop i z) ≡ digits (drop (i + 1) z) = omega (arith, counts false is) in rw e at below
  ] refl

-- leading zeros, and the point among them, spell nothing
lead_is_nothing : (b : ℕ) → is_in class.Lead b ≡ true → with_byte 0 b ≡ 0
lead_is_nothing b is = grind (arith, nat_tests)

pub zeros_spell_nothing : (z : List ℕ) → spelled_from 0 (drop (run class.Lead z) z) ≡ spelled_from 0 z
zeros_spell_nothing [] = refl
zeros_spell_nothing (b ∷ z) = elim (is_in class.Lead b) as (λ v. is_in class.Lead b ≡ v → spelled_from 0 (drop (if v then 1 + run class.Lead z else 0) (b ∷ z)) ≡ spelled_from 0 (b ∷ z)) [
  | true ↦ λ e.
      let k : 1 + run class.Lead z ≡ suc (run class.Lead z) = omega arith in
      ap (λ m. spelled_from 0 (drop m (b ∷ z))) k ∙ zeros_spell_nothing z ∙ ap (λ n. spelled_from n z) (sym (lead_is_nothing b e))
  | false ↦ λ e. refl
] refl
