-- The tests that tell the version of a name.
use Rattle.std.proofs.Common.{◌≡◌, ℕ, ◌^◌, ◌<◌, ◌≤◌, List, ◌∷◌, length, take, drop, get_or, Option, Some, None, Result, Ok, Err, cond, refl, ap, sym, ◌∙◌, Bool, true, false, ◌&&◌, nat_lt, arith, codes, length-drop}
use Rattle.std.specs.Result.{OkIff, result_ok}
use Rattle.std.specs.Str.{bytes_eq, all_ascii_digits, IsCharBoundary}
use Rattle.std.specs.Str.Parse.{digits_value, ParsesUnsigned}
use Rattle.std.proofs.lemmas.Bool.Decides.{nat_tests}
use Rattle.std.proofs.lemmas.Grind.{common_steps}
use Rattle.std.proofs.lemmas.Slice.Eq.{bytes_eq-Decides}
use Rattle.std.proofs.lemmas.Str.{IsCharBoundary-before_ascii}
use Rattle.std.proofs.lemmas.Str.Parse.{parse_digits}
use Rattle.table_log.specs.Log.{version_of}
use Rattle.table_log.proofs.Digits.{own}

no_digits : (a b c : Bool) (found : Option ℕ) → b ≡ false → cond ((a && b) && c) found None ≡ None
no_digits true b c found e = rw e refl
no_digits false b c found e = refl

pub version_of-other_end : (name rest : List ℕ) → rest ≡ drop 20 name → bytes_eq rest (codes ".json") ≡ false → version_of name ≡ None
unfolding version_of
version_of-other_end name rest is other = rw (← is, other) refl

pub version_of-other_front : (name digits : List ℕ) → digits ≡ take 20 name → all_ascii_digits digits ≡ false → version_of name ≡ None
unfolding version_of
version_of-other_front name digits is other = no_digits (bytes_eq (drop 20 name) (codes ".json")) (all_ascii_digits (take 20 name)) _ _ (ap all_ascii_digits (sym is) ∙ other)

cuts : (name rest : List ℕ) → drop 20 name ≡ 46 ∷ rest → IsCharBoundary name 20
cuts name rest e =
    let long : 20 < length name = omega (arith, ap length e, length-drop 20 name) in
    let dot : get_or name 20 0 ≡ 46 = grind (arith, common_steps, ap (λ (bs : List ℕ). get_or bs 0 0) e) in
    IsCharBoundary-before_ascii name 20 long (omega arith)

-- a name of a version can be cut behind its digits
pub version_of-uncut : (name : List ℕ) → (IsCharBoundary name 20 → ⊥) → version_of name ≡ None
version_of-uncut name never = by (bytes_eq (drop 20 name) (codes ".json")) refl
  where
    by : (same : Bool) → bytes_eq (drop 20 name) (codes ".json") ≡ same → version_of name ≡ None
    by true e = absurd (never (cuts name (codes "json") ((bytes_eq-Decides (drop 20 name) (codes ".json")).0 e)))
    by false e = version_of-other_end name (drop 20 name) refl e

-- the number that was read, unless it is too large
abbrev pub bounded : Option ℕ → Option ℕ
bounded None = None
bounded (Some n) = cond (nat_lt n (2 ^ 63)) (Some n) None

large : (v : ℕ) → (v < 2 ^ 64 → ⊥) → nat_lt v (2 ^ 63) ≡ false
large v never = grind (arith, nat_tests)

bounded_is : {E : Type 0} (v : ℕ) (r : Result ℕ E) → OkIff r (v < 2 ^ 64) v → cond (nat_lt v (2 ^ 63)) (Some v) None ≡ bounded (result_ok r)
bounded_is v (Ok n) is = rw (is.1) refl
bounded_is v (Err e) is = rw (large v is) refl

parsed : {E : Type 0} (digits : List ℕ) (r : Result ℕ E) → 0 < length digits → all_ascii_digits digits ≡ true → ParsesUnsigned 64 10 digits r → OkIff r (digits_value 10 digits < 2 ^ 64) (digits_value 10 digits)
parsed {E} digits (Ok n) some all is = let h = parse_digits own {E = E} 64 digits (Ok n) is all in (h.0.1, h.1)
parsed {E} digits (Err e) some all is = let h = parse_digits own {E = E} 64 digits (Err e) is all in λ small. h (some, small)

pub version_of-parsed : {E : Type 0} (name digits rest : List ℕ) (r : Result ℕ E) (found : Option ℕ) → digits ≡ take 20 name → rest ≡ drop 20 name → length digits ≡ 20
    → bytes_eq rest (codes ".json") ≡ true → all_ascii_digits digits ≡ true → ParsesUnsigned 64 10 digits r → found ≡ result_ok r → version_of name ≡ bounded found
unfolding version_of
version_of-parsed name digits rest r found front back long suffix all is ok =
    rw (← front, ← back, suffix, all, ok) (bounded_is (digits_value 10 digits) r (parsed digits r (omega arith) all is))

pub bounded-large : (v : ℕ) → 9223372036854775807 < v → bounded (Some v) ≡ None
bounded-large v past = let test : nat_lt v (2 ^ 63) ≡ false = grind (arith, nat_tests) in rw test refl

pub bounded-small : (v : ℕ) → v ≤ 9223372036854775807 → bounded (Some v) ≡ Some v
bounded-small v within = let test : nat_lt v (2 ^ 63) ≡ true = grind (arith, nat_tests) in rw test refl
