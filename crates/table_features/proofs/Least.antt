-- The least unknown name so far.
use Rattle.std.proofs.Common.{◌≡◌, ℕ, ◌+◌, ◌<◌, List, Bool, true, false, not, ◌&&◌, ◌⊎◌, Option, Some, None, inl, inr, refl, sym, ◌∙◌, arith}
use Rattle.std.specs.declared.cmp.Ordering.{Ordering}
use Rattle.std.specs.declared.cmp.Ordering.TheVariants.{Less, Equal, Greater}
use Rattle.std.specs.Cmp.Lexicographic.{slice_cmp}
use Rattle.std.specs.Ordering.{nat_cmp, is_lt}
use Rattle.std.proofs.lemmas.Bool.{and_parts, cases_lt, not-true}
use Rattle.std.proofs.lemmas.Cmp.{nat_list_cmp_total}
use Rattle.table_features.specs.Features.{name_at, is_before, IsLeastOf, is_below_least}

less_is : (o : Ordering) → is_lt o ≡ true → o ≡ Less
less_is Less is = refl
less_is Equal is = absurd cc
less_is Greater is = absurd cc

-- x comes before y, and z doesn't: so x comes before z
before_cases : (x y z : List ℕ) (o : Ordering) → slice_cmp nat_cmp z y ≡ o → slice_cmp nat_cmp x y ≡ Less → is_lt o ≡ false → slice_cmp nat_cmp x z ≡ Less
before_cases x y z Less here less apart = absurd cc
before_cases x y z Equal here less apart =
    let turned : slice_cmp nat_cmp y x ≡ Greater = nat_list_cmp_total.antisymm y x ∙ rw less refl in
    let same : slice_cmp nat_cmp z x ≡ Greater = nat_list_cmp_total.congr z y x here ∙ turned in
    nat_list_cmp_total.antisymm x z ∙ rw same refl
before_cases x y z Greater here less apart =
    let turned : slice_cmp nat_cmp y z ≡ Less = nat_list_cmp_total.antisymm y z ∙ rw here refl in
    nat_list_cmp_total.trans x y z less turned

pub before_other : (x y z : List ℕ) → is_before x y ≡ true → is_before z y ≡ false → is_before x z ≡ true
before_other x y z less apart = rw (before_cases x y z (slice_cmp nat_cmp z y) refl (less_is (slice_cmp nat_cmp x y) less) apart) refl

self_cases : (x : List ℕ) (o : Ordering) → slice_cmp nat_cmp x x ≡ o → is_lt o ≡ false
self_cases x Less is = let wrong : Less ≡ Greater = sym is ∙ nat_list_cmp_total.antisymm x x ∙ rw is refl in absurd cc
self_cases x Equal is = refl
self_cases x Greater is = refl

pub not_before_self : (x : List ℕ) → is_before x x ≡ false
not_before_self x = self_cases x (slice_cmp nat_cmp x x) refl

pub not_turned : (x y : List ℕ) → is_before x y ≡ true → is_before y x ≡ false
not_turned x y less = rw (nat_list_cmp_total.antisymm y x, less_is (slice_cmp nat_cmp x y) less) refl

pub apart : (b : Bool) → b ≡ true → b ≡ false → ⊥
apart true is other = cc
apart false is other = cc

-- a place below the next count is below this one, or is this one
at_or_below : (place count : ℕ) → place < count + 1 → (place < count) ⊎ (place ≡ count)
at_or_below place count within = elim (cases_lt place count) [ inl less ↦ inl less | inr past ↦ inr (omega arith) ]

-- the name at the next place comes first
pub least_new : (knows : List ℕ → Bool) (names : List (List ℕ)) (least : Option ℕ) (count : ℕ) → IsLeastOf knows names count least → is_below_least knows names least count ≡ true → IsLeastOf knows names (count + 1) (Some count)
least_new knows names None count known below =
    let unknown : knows (name_at names count) ≡ false = not-true (knows (name_at names count)) below in
    record {
      within = omega arith;
      unknown = unknown;
      before = λ place earlier other. absurd (apart (knows (name_at names place)) (known place earlier) other);
      least = λ place within other. elim (at_or_below place count within) [
        | inl less ↦ absurd (apart (knows (name_at names place)) (known place less) other)
        | inr same ↦ rw same (not_before_self (name_at names count))
      ];
    }
least_new knows names (Some here) count found below =
    let parts = and_parts (not (knows (name_at names count))) (is_before (name_at names count) (name_at names here)) below in
    let unknown : knows (name_at names count) ≡ false = not-true (knows (name_at names count)) parts.0 in
    let first : (place : ℕ) → place < count → knows (name_at names place) ≡ false → is_before (name_at names count) (name_at names place) ≡ true =
    λ place earlier other. before_other (name_at names count) (name_at names here) (name_at names place) parts.1 (found.least place earlier other) in
    record {
      within = omega arith;
      unknown = unknown;
      before = first;
      least = λ place within other. elim (at_or_below place count within) [
        | inl less ↦ not_turned (name_at names count) (name_at names place) (first place less other)
        | inr same ↦ rw same (not_before_self (name_at names count))
      ];
    }

-- it is known, or the least so far stays before it
pub least_stays : (knows : List ℕ → Bool) (names : List (List ℕ)) (least : Option ℕ) (count : ℕ) → IsLeastOf knows names count least → is_below_least knows names least count ≡ false → IsLeastOf knows names (count + 1) least
least_stays knows names None count known below = λ place within. elim (at_or_below place count within) [
  | inl less ↦ known place less
  | inr same ↦ rw same (not_false (knows (name_at names count)) below)
]
  where
    not_false : (b : Bool) → not b ≡ false → b ≡ true
    not_false true is = refl
    not_false false is = absurd cc
least_stays knows names (Some here) count found below = record {
  within = let within = found.within in omega arith;
  unknown = found.unknown;
  before = found.before;
  least = λ place within other. elim (at_or_below place count within) [
    | inl less ↦ found.least place less other
    | inr same ↦ rw same (kept (knows (name_at names count)) (is_before (name_at names count) (name_at names here)) (rw same at other) below)
  ];
}
  where
    kept : (a b : Bool) → a ≡ false → (not a && b) ≡ false → b ≡ false
    kept true b is below = absurd cc
    kept false b is below = below
