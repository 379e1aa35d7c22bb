-- The names of types are read as those types.
use Rattle.std.proofs.Common.{◌≡◌, ℕ, ◌+◌, ◌*◌, ◌/◌, ◌%◌, ◌<◌, ◌≤◌, List, [], ◌∷◌, ◌++◌, Bool, true, false, Some, refl, sym, ap, ◌∙◌, subst, arith, le-leb, ne_eqb}
use Rattle.std.specs.Prelude.{codes, decimal, ◌==◌, nat_lt}
use Rattle.std.specs.List.{AllByRecursion}
use Rattle.std.proofs.lemmas.Bool.{ltb-false, ltb-true}
use Rattle.std.proofs.lemmas.Fmt.{decimal_digit, decimal_step}
use Rattle.dm_types.specs.Ranges.{IsWellFormed}
use Rattle.dm_types.specs.declared.value.DataType.{DataType}
use Rattle.dm_types.specs.declared.value.DataType.TheVariants as kind
use Rattle.delta_schema.specs.Types.{decimal_of, decimal_type, is_digit, kind_of, small_number, type_name}
use Rattle.delta_schema.specs.Writable.{IsColumnType}

-- the digits are those of the number, and none is a comma
record Spells (ds : List ℕ) (n : ℕ) : Type 0 where
  number : small_number ds ≡ Some n
  plain : AllByRecursion (λ b. (b == 44) ≡ false) ds

no_comma : (n : ℕ) → (48 + n == 44) ≡ false
no_comma n = ne_eqb (48 + n) 44 (λ same. omega (arith, same))

digit : (n : ℕ) → n < 10 → is_digit (48 + n) ≡ true
digit n low = rw (le-leb 48 (48 + n) (omega arith), le-leb (48 + n) 57 (omega arith)) refl

one_digit : (n : ℕ) → n < 10 → Spells ((48 + n) ∷ []) n
one_digit n low = record {
  number = rw (digit n low) (ap Some (omega arith));
  plain = (no_comma n, tt);
}

two_digits : (t o : ℕ) → 0 < t → t < 10 → o < 10 → Spells ((48 + t) ∷ (48 + o) ∷ []) (10 * t + o)
two_digits t o some ten one =
    let first : (48 + t == 48) ≡ false = ne_eqb (48 + t) 48 (λ same. omega (arith, same)) in
    record {
      number = rw (digit t ten, first, digit o one) (ap Some (omega arith));
      plain = (no_comma t, (no_comma o, tt));
    }

more_digits : (n : ℕ) → 10 ≤ n → n < 100 → Spells (decimal n) n
more_digits n more few =
    let spelled : decimal n ≡ (48 + n / 10) ∷ (48 + n % 10) ∷ [] =
    decimal_step n more (omega (arith, few)) ∙ ap (λ ds. ds ++ (48 + n % 10) ∷ []) (decimal_digit (n / 10) (omega arith)) in
    let number : 10 * (n / 10) + n % 10 ≡ n = omega arith in
    subst (λ ds. Spells ds n) (sym spelled) (subst (Spells ((48 + n / 10) ∷ (48 + n % 10) ∷ [])) number (two_digits (n / 10) (n % 10) (omega arith) (omega arith) (omega arith)))

by_size : (n : ℕ) (low : Bool) → nat_lt n 10 ≡ low → n < 100 → Spells (decimal n) n
by_size n true is few = subst (λ ds. Spells ds n) (sym (decimal_digit n (ltb-true n 10 is))) (one_digit n (ltb-true n 10 is))
by_size n false is few = more_digits n (ltb-false n 10 is) few

spells : (n : ℕ) → n < 100 → Spells (decimal n) n
spells n few = by_size n (nat_lt n 10) refl few

-- ---- a decimal by its digits

decimal_by : (ps ss : List ℕ) (p s : ℕ) → Spells ps p → Spells ss s → decimal_of (codes "decimal(" ++ ps ++ codes "," ++ ss ++ codes ")") ≡ decimal_type p s
decimal_by [] ss p s first second = absurd (let none = first.number in cc)
decimal_by (a ∷ []) [] p s first second = absurd (let none = second.number in cc)
decimal_by (a ∷ b ∷ []) [] p s first second = absurd (let none = second.number in cc)
decimal_by (a ∷ []) (c ∷ []) p s first second = rw (first.plain.0, first.number, second.number) refl
decimal_by (a ∷ []) (c ∷ d ∷ []) p s first second = rw (first.plain.0, first.number, second.number) refl
decimal_by (a ∷ b ∷ []) (c ∷ []) p s first second = rw (first.plain.0, first.plain.1.0, first.number, second.number) refl
decimal_by (a ∷ b ∷ []) (c ∷ d ∷ []) p s first second = rw (first.plain.0, first.plain.1.0, first.number, second.number) refl
decimal_by (a ∷ b ∷ c ∷ more) ss p s first second = absurd (let none = first.number in cc)
decimal_by ps (a ∷ b ∷ c ∷ more) p s first second = absurd (let none = second.number in cc)

decimal_back : (p s : ℕ) → IsWellFormed (kind.Decimal p s) → decimal_type p s ≡ Some (kind.Decimal p s)
decimal_back p s h = rw (le-leb 1 p h.0, le-leb p 38 h.1, le-leb s p h.2) refl

-- a type by its name
pub type_back : (k : DataType) → IsColumnType k → kind_of (type_name k) ≡ Some k
unfolding kind_of
type_back kind.Void h = absurd h
type_back kind.Boolean h = refl
type_back kind.Byte h = refl
type_back kind.Short h = refl
type_back kind.Integer h = refl
type_back kind.Long h = refl
type_back (kind.Decimal p s) h =
    decimal_by (decimal p) (decimal s) p s (spells p (omega (arith, h.1))) (spells s (omega (arith, h.1, h.2))) ∙ decimal_back p s h
type_back kind.Str h = refl
type_back kind.Binary h = refl
type_back kind.Date h = refl
type_back kind.Timestamp h = refl
