-- The sign that is read is the longest that stands there.
use Rattle.sql_lex.proofs.Choices.{both_true, is_equal}
use Rattle.std.proofs.Common.{◌≡◌, ◌∙◌, ℕ, ◌<◌, ◌≤◌, Bool, true, false, List, [], ◌∷◌, length, refl, sym, arith, nat_lt, nat_eq, inl, inr}
use Rattle.std.specs.Prelude.{◌&&◌, not, if◌then◌else◌}
use Rattle.std.specs.List.{All, starts_with}
use Rattle.std.proofs.lemmas.Bool.{cases_lt}
use Rattle.std.proofs.lemmas.Bool.Decides.{nat_tests}
use Rattle.std.proofs.lemmas.List.Elements.{All-cons, All-nil}
use Rattle.sql_tree.specs.declared.token.Kind.{Kind}
use Rattle.sql_lex.specs.Signs.{IsLongest, sign_in, signs, sign}

-- of two fronts of a text the shorter is a front of the longer
front_of_front : (z d e : List ℕ) → starts_with nat_eq z d ≡ true → starts_with nat_eq z e ≡ true → length d ≤ length e → starts_with nat_eq e d ≡ true
front_of_front z [] e hd he le = refl
front_of_front z (a ∷ d) [] hd he le = absurd (omega arith)
front_of_front [] (a ∷ d) (c ∷ e) hd he le = absurd (cc)
front_of_front (b ∷ z) (a ∷ d) (c ∷ e) hd he le =
    let first = both_true (nat_eq a b) (starts_with nat_eq z d) hd in
    let second = both_true (nat_eq c b) (starts_with nat_eq z e) he in
    let same : a ≡ c = is_equal a b first.0 ∙ sym (is_equal c b second.0) in
    rw (equal a c same) (front_of_front z d e first.1 second.1 (omega arith))
  where
    equal : (x y : ℕ) → x ≡ y → nat_eq x y ≡ true
    equal x y h = grind (arith, nat_tests)

-- no sign of a list is longer than this one and begins with it
none_longer : List ℕ → List (List ℕ × Kind) → Bool
none_longer s [] = true
none_longer s (entry ∷ more) = not (nat_lt (length s) (length entry.0) && starts_with nat_eq entry.0 s) && none_longer s more

in_order : List (List ℕ × Kind) → Bool
in_order [] = true
in_order (entry ∷ more) = none_longer entry.0 more && in_order more

above : (m n : ℕ) → m < n → nat_lt m n ≡ true
above m n h = grind (arith, nat_tests)

refuted : (p q : Bool) → not (p && q) ≡ true → p ≡ true → q ≡ true → ⊥
refuted true true h e f = let g : false ≡ true = h in cc
refuted true false h e f = let g : false ≡ true = f in cc
refuted false q h e f = let g : false ≡ true = e in cc

none_behind : (z s : List ℕ) (more : List (List ℕ × Kind)) → starts_with nat_eq z s ≡ true → none_longer s more ≡ true → All (IsLongest z (length s)) more
unfolding none_longer
none_behind z s [] hs h = All-nil (IsLongest z (length s))
none_behind z s (entry ∷ more) hs h =
    let both = both_true (not (nat_lt (length s) (length entry.0) && starts_with nat_eq entry.0 s)) (none_longer s more) h in
    All-cons (IsLongest z (length s)) entry more
    (λ stands. elim (cases_lt (length s) (length entry.0)) [
      | inl less ↦ absurd (refuted (nat_lt (length s) (length entry.0)) (starts_with nat_eq entry.0 s) both.0 (above (length s) (length entry.0) less)
          (front_of_front z s entry.0 hs stands (omega arith)))
      | inr not_less ↦ not_less
    ])
    (none_behind z s more hs both.1)

longest_in : (list : List (List ℕ × Kind)) (z : List ℕ) → in_order list ≡ true → All (IsLongest z (sign_in list z).len) list
unfolding in_order
longest_in [] z h = All-nil (IsLongest z 1)
longest_in (entry ∷ more) z h =
    let both = both_true (none_longer entry.0 more) (in_order more) h in
    elim (starts_with nat_eq z entry.0) as (λ v. starts_with nat_eq z entry.0 ≡ v
    → All (IsLongest z (if v then record { kind = entry.1; len = length entry.0 } else sign_in more z).len) (entry ∷ more)) [
      | true ↦ λ e. All-cons (IsLongest z (length entry.0)) entry more (λ _. omega arith) (none_behind z entry.0 more e both.0)
      | false ↦ λ e. All-cons (IsLongest z (sign_in more z).len) entry more
          (λ stands. absurd (let g : false ≡ true = sym e ∙ stands in cc)) (longest_in more z both.1)
    ] refl

pub signs_are_longest : (z : List ℕ) → All (IsLongest z (sign z).len) signs
unfolding sign signs in_order none_longer
signs_are_longest z = longest_in signs z refl
