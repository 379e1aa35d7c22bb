-- The least unknown feature by its name is the one at the place that is found.
use Rattle.std.proofs.Common.{◌≡◌, ℕ, zero, suc, ◌<◌, ◌≤◌, List, [], ◌∷◌, length, Bool, true, false, ◌==◌, ◌&&◌, nat_lt, nat_le, Option, Some, None, cond, refl, sym, ap, ◌∙◌, inl, inr, arith}
use Rattle.std.specs.Prelude.{option_map, Result, Ok, Err}
use Rattle.std.specs.declared.cmp.Ordering.{Ordering}
use Rattle.std.specs.declared.cmp.Ordering.TheVariants.{Less, Equal, Greater}
use Rattle.std.specs.Cmp.Lexicographic.{slice_cmp}
use Rattle.std.specs.Ordering.{nat_cmp, is_lt}
use Rattle.std.proofs.lemmas.Bool.{cases_lt}
use Rattle.std.proofs.lemmas.Bool.Decides.{nat_tests}
use Rattle.std.proofs.lemmas.Cmp.{nat_list_cmp_total}
use Rattle.std.proofs.lemmas.Map.Lookups.{exact_bytes}
use Rattle.delta_actions.specs.declared.action.ProtocolAction.{ProtocolAction}
use Rattle.table_features.specs.declared.checks.FeatureFault.{FeatureFault}
use Rattle.table_features.specs.declared.checks.FeatureFault.TheVariants as fault
use Rattle.table_features.specs.Features.{is_reader_feature, is_writer_feature, name_at, is_before, AreKnown, IsLeastUnknown, CanRead, CanWrite, numbers, feature, lesser, least_unknown, fault_of, read_fault, write_fault, named_fault}
use Rattle.table_features.proofs.Least.{before_other, not_before_self, not_turned, apart}

-- ---- two names of which neither comes before the other

same_cases : (x y : List ℕ) (o : Ordering) → slice_cmp nat_cmp x y ≡ o → is_lt o ≡ false → is_before y x ≡ false → x ≡ y
same_cases x y Less is here there = absurd cc
same_cases x y Equal is here there = exact_bytes x y is
same_cases x y Greater is here there =
    let turned : slice_cmp nat_cmp y x ≡ Less = nat_list_cmp_total.antisymm y x ∙ rw is refl in
    absurd (let off : true ≡ false = sym (ap is_lt turned) ∙ there in cc)

same_name : (x y : List ℕ) → is_before x y ≡ false → is_before y x ≡ false → x ≡ y
same_name x y here there = same_cases x y (slice_cmp nat_cmp x y) refl here there

-- ---- the least of the names

-- the name stands at a place, is unknown, and no unknown one comes before it
record IsLeastName (knows : List ℕ → Bool) (names : List (List ℕ)) (name : List ℕ) : Type 0 where
  place : ℕ
  within : place < length names
  here : name_at names place ≡ name
  unknown : knows name ≡ false
  least : (other : ℕ) → other < length names → knows (name_at names other) ≡ false → is_before (name_at names other) name ≡ false

abbrev IsLeastNamed : (List ℕ → Bool) → List (List ℕ) → Option (List ℕ) → Type 0
IsLeastNamed knows names None = AreKnown knows names (length names)
IsLeastNamed knows names (Some name) = IsLeastName knows names name

known_step : (knows : List ℕ → Bool) (name : List ℕ) (names : List (List ℕ)) → knows name ≡ true → AreKnown knows names (length names) → AreKnown knows (name ∷ names) (length (name ∷ names))
known_step knows name names here known zero within = here
known_step knows name names here known (suc place) within = known place (omega arith)

later_step : (knows : List ℕ → Bool) (name least : List ℕ) (names : List (List ℕ)) → is_before name least ≡ false → IsLeastName knows names least → IsLeastName knows (name ∷ names) least
later_step knows name least names first found = record {
  place = suc found.place;
  within = let within = found.within in omega arith;
  here = found.here;
  unknown = found.unknown;
  least = later;
}
  where
    later : (other : ℕ) → other < length (name ∷ names) → knows (name_at (name ∷ names) other) ≡ false → is_before (name_at (name ∷ names) other) least ≡ false
    later zero within unknown = first
    later (suc other) within unknown = found.least other (omega arith) unknown

known_first : (knows : List ℕ → Bool) (name least : List ℕ) (names : List (List ℕ)) → knows name ≡ true → IsLeastName knows names least → IsLeastName knows (name ∷ names) least
known_first knows name least names here found = record {
  place = suc found.place;
  within = let within = found.within in omega arith;
  here = found.here;
  unknown = found.unknown;
  least = later;
}
  where
    later : (other : ℕ) → other < length (name ∷ names) → knows (name_at (name ∷ names) other) ≡ false → is_before (name_at (name ∷ names) other) least ≡ false
    later zero within unknown = absurd (apart (knows name) here unknown)
    later (suc other) within unknown = found.least other (omega arith) unknown

-- the first name, where no unknown one of the others comes before it
first_least : (knows : List ℕ → Bool) (name : List ℕ) (names : List (List ℕ)) → knows name ≡ false → ((other : ℕ) → other < length names → knows (name_at names other) ≡ false → is_before (name_at names other) name ≡ false)
    → IsLeastName knows (name ∷ names) name
first_least knows name names here others = record {
  place = 0;
  within = omega arith;
  here = refl;
  unknown = here;
  least = later;
}
  where
    later : (other : ℕ) → other < length (name ∷ names) → knows (name_at (name ∷ names) other) ≡ false → is_before (name_at (name ∷ names) other) name ≡ false
    later zero within unknown = not_before_self name
    later (suc other) within unknown = others other (omega arith) unknown

before_no : (b : Bool) (x y z : List ℕ) → is_before x z ≡ b → is_before y z ≡ false → is_before x y ≡ false → is_before x z ≡ false
before_no false x y z is second first = is
before_no true x y z is second first = absurd (let off : true ≡ false = sym (before_other x z y is second) ∙ first in cc)

-- an unknown first name, with the least of the others
unknown_step : (knows : List ℕ → Bool) (name : List ℕ) (names : List (List ℕ)) (rest : Option (List ℕ)) → knows name ≡ false → IsLeastNamed knows names rest → IsLeastName knows (name ∷ names) (lesser name rest)
unknown_step knows name names None here known = first_least knows name names here (λ other within unknown. absurd (apart (knows (name_at names other)) (known other within) unknown))
unknown_step knows name names (Some least) here found = by_order (is_before least name) refl
  where
    by_order : (b : Bool) → is_before least name ≡ b → IsLeastName knows (name ∷ names) (cond b least name)
    by_order true is = later_step knows name least names (not_turned least name is) found
    by_order false is = first_least knows name names here (λ other within unknown. before_no (is_before (name_at names other) name) (name_at names other) least name refl is (found.least other within unknown))

one_more : (knows : List ℕ → Bool) (name : List ℕ) (names : List (List ℕ)) (rest : Option (List ℕ)) (known : Bool) → knows name ≡ known → IsLeastNamed knows names rest
    → IsLeastNamed knows (name ∷ names) (cond known rest (Some (lesser name rest)))
one_more knows name names None true is found = known_step knows name names is found
one_more knows name names (Some least) true is found = known_first knows name least names is found
one_more knows name names rest false is found = unknown_step knows name names rest is found

least-is : (knows : List ℕ → Bool) (names : List (List ℕ)) → IsLeastNamed knows names (least_unknown knows names)
unfolding least_unknown
least-is knows [] = λ place within. absurd (omega arith)
least-is knows (name ∷ names) = one_more knows name names (least_unknown knows names) (knows name) refl (least-is knows names)

-- ---- the place that is found

named_none : (knows : List ℕ → Bool) (names : List (List ℕ)) (named : Option (List ℕ)) → IsLeastNamed knows names named → AreKnown knows names (length names) → named ≡ None
named_none knows names None named known = refl
named_none knows names (Some least) named known =
    absurd (apart (knows (name_at names named.place)) (known named.place named.within) (rw named.here named.unknown))

named_some : (knows : List ℕ → Bool) (names : List (List ℕ)) (named : Option (List ℕ)) (index : ℕ) → IsLeastNamed knows names named → IsLeastUnknown knows names (length names) index → named ≡ Some (name_at names index)
named_some knows names None index named found = absurd (apart (knows (name_at names index)) (named index found.within) found.unknown)
named_some knows names (Some least) index named found =
    let unknown : knows (name_at names named.place) ≡ false = rw named.here named.unknown in
    let first : is_before least (name_at names index) ≡ false = rw (← named.here) (found.least named.place named.within unknown) in
    ap (λ (name : List ℕ). Some name) (same_name least (name_at names index) first (named.least index found.within found.unknown))

-- ---- versions

at_last : (knows : List ℕ → Bool) (last version : ℕ) (names : List (List ℕ)) → version ≡ last → fault_of knows last version names ≡ option_map feature (least_unknown knows names)
unfolding fault_of
at_last knows last version names is = let same : (version == last) ≡ true = grind (arith, nat_tests) in rw same refl

below_last : (knows : List ℕ → Bool) (last version : ℕ) (names : List (List ℕ)) → 1 ≤ version → version < last → fault_of knows last version names ≡ None
unfolding fault_of
below_last knows last version names first less =
    let other : (version == last) ≡ false = grind (arith, nat_tests) in
    let inside : (nat_le 1 version && nat_lt version last) ≡ true = grind (arith, nat_tests) in
    rw (other, inside) refl

known_version : (knows : List ℕ → Bool) (last version : ℕ) (names : List (List ℕ)) → 1 ≤ version → version ≤ last → (version ≡ last → AreKnown knows names (length names)) → None ≡ fault_of knows last version names
known_version knows last version names first upto known = elim (cases_lt version last) [
  | inl less ↦ sym (below_last knows last version names first less)
  | inr past ↦ let is : version ≡ last = omega arith in
      sym (at_last knows last version names is ∙ ap (option_map feature) (named_none knows names (least_unknown knows names) (least-is knows names) (known is)))
]

other_version : (knows : List ℕ → Bool) (last version : ℕ) (names : List (List ℕ)) → 1 ≤ last → ¬ ((1 ≤ version) × (version ≤ last)) → Some numbers ≡ fault_of knows last version names
unfolding fault_of
other_version knows last version names some outside =
    let other : (version == last) ≡ false = apart_from (version == last) refl in
    let off : (nat_le 1 version && nat_lt version last) ≡ false = not_inside (nat_le 1 version && nat_lt version last) refl in
    rw (other, off) refl
  where
    apart_from : (same : Bool) → (version == last) ≡ same → same ≡ false
    apart_from false is = refl
    apart_from true is = absurd (outside (let e : version ≡ last = grind (arith, nat_tests) in (omega arith, omega arith)))

    not_inside : (inside : Bool) → (nat_le 1 version && nat_lt version last) ≡ inside → inside ≡ false
    not_inside false is = refl
    not_inside true is = absurd (outside (let first : 1 ≤ version = grind (arith, nat_tests) in let less : version < last = grind (arith, nat_tests) in (first, omega arith)))

unknown_feature : (knows : List ℕ → Bool) (last version : ℕ) (names : List (List ℕ)) (index : ℕ) → version ≡ last → IsLeastUnknown knows names (length names) index → Some (feature (name_at names index)) ≡ fault_of knows last version names
unknown_feature knows last version names index is found =
    sym (at_last knows last version names is ∙ ap (option_map feature) (named_some knows names (least_unknown knows names) index (least-is knows names) found))

-- ---- the answers

pub reading_named : (protocol : ProtocolAction) (answer : Result (Unit {0}) FeatureFault) → CanRead protocol answer → named_fault protocol answer ≡ read_fault protocol
reading_named protocol (Ok done) can = known_version is_reader_feature 3 protocol.min_reader_version protocol.reader_features can.0 can.1 can.2
reading_named protocol (Err fault.Numbers) can = other_version is_reader_feature 3 protocol.min_reader_version protocol.reader_features (omega arith) can
reading_named protocol (Err (fault.Reader index)) can = unknown_feature is_reader_feature 3 protocol.min_reader_version protocol.reader_features index can.0 can.1
reading_named protocol (Err (fault.Writer index)) can = absurd can

pub writing_named : (protocol : ProtocolAction) (answer : Result (Unit {0}) FeatureFault) → CanWrite protocol answer → named_fault protocol answer ≡ write_fault protocol
writing_named protocol (Ok done) can = known_version is_writer_feature 7 protocol.min_writer_version protocol.writer_features can.0 can.1 can.2
writing_named protocol (Err fault.Numbers) can = other_version is_writer_feature 7 protocol.min_writer_version protocol.writer_features (omega arith) can
writing_named protocol (Err (fault.Reader index)) can = absurd can
writing_named protocol (Err (fault.Writer index)) can = unknown_feature is_writer_feature 7 protocol.min_writer_version protocol.writer_features index can.0 can.1
