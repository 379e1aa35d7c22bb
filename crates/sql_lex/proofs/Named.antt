-- A table's name is text.
use Rattle.std.proofs.Common.{◌≡◌, ℕ, zero, suc, ◌+◌, ◌<◌, List, [], ◌∷◌, length, get_or, refl, subst, Bool, true, false, cond, ◌==◌, ◌&&◌, arith}
use Rattle.std.specs.Prelude.{not, nat_lt, nat_le, IsUtf8}
use Rattle.std.specs.List.{prefix_len}
use Rattle.std.proofs.lemmas.Bool.{and_parts}
use Rattle.std.proofs.lemmas.Bool.Decides.{nat_tests}
use Rattle.std.proofs.lemmas.Str.{IsUtf8-from_ascii}
use Rattle.sql_lex.specs.Bytes.{is_in, are_in, begins_with}
use Rattle.sql_lex.specs.Tables.{is_table_name}
use Rattle.sql_lex.specs.declared.bytes.Class.TheVariants as class

below_128 : (b : ℕ) → is_in class.Table b ≡ true → b < 128
below_128 b is = grind (arith, nat_tests)

all_below : (z : List ℕ) → (prefix_len (is_in class.Table) z == length z) ≡ true → (i : ℕ) → get_or z i 0 < 128
all_below [] is i = omega arith
all_below (b ∷ z) is i = by (is_in class.Table b) refl (all_below z) i
  where
    by : (test : Bool) → is_in class.Table b ≡ test → ((prefix_len (is_in class.Table) z == length z) ≡ true → (i : ℕ) → get_or z i 0 < 128) → (i : ℕ) → get_or (b ∷ z) i 0 < 128
    by true e rest zero = below_128 b e
    by true e rest (suc i) =
        let h : (cond true (1 + prefix_len (is_in class.Table) z) 0 == suc (length z)) ≡ true = subst (λ (t : Bool). (cond t (1 + prefix_len (is_in class.Table) z) 0 == suc (length z)) ≡ true) e is in
        rest (grind (arith, nat_tests)) i
    by false e rest i =
        let h : (cond false (1 + prefix_len (is_in class.Table) z) 0 == suc (length z)) ≡ true = subst (λ (t : Bool). (cond t (1 + prefix_len (is_in class.Table) z) 0 == suc (length z)) ≡ true) e is in
        absurd (grind (arith, nat_tests))

pub name_is_text : (z : List ℕ) → is_table_name z ≡ true → IsUtf8 z
name_is_text z is =
    let some = nat_lt 0 (length z) in
    let short = nat_le (length z) 100 in
    let plain = not (begins_with 46 z) in
    let signs = are_in class.Table z in
    let first = and_parts some (short && (plain && signs)) is in
    let second = and_parts short (plain && signs) first.1 in
    IsUtf8-from_ascii z (all_below z (and_parts plain signs second.1).1)
