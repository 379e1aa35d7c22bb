-- Each sign has a byte.
use Rattle.std.proofs.Common.{◌≡◌, ℕ, ◌≤◌, Bool, true, false, List, [], ◌∷◌, length, refl, arith, nat_lt, nat_eq}
use Rattle.std.specs.Prelude.{◌&&◌, if◌then◌else◌}
use Rattle.std.specs.List.{starts_with}
use Rattle.sql_tree.specs.declared.token.Kind.{Kind}
use Rattle.sql_lex.proofs.Choices.{above_zero, both_true}
use Rattle.sql_lex.specs.Signs.{sign_in, signs, sign}

have_bytes : List (List ℕ × Kind) → Bool
have_bytes [] = true
have_bytes (entry ∷ more) = nat_lt 0 (length entry.0) && have_bytes more

in_lasts : (list : List (List ℕ × Kind)) (z : List ℕ) → have_bytes list ≡ true → 1 ≤ (sign_in list z).len
unfolding have_bytes
in_lasts [] z h = omega arith
in_lasts (entry ∷ more) z h =
    let both = both_true (nat_lt 0 (length entry.0)) (have_bytes more) h in
    elim (starts_with nat_eq z entry.0) as (λ v. 1 ≤ (if v then record { kind = entry.1; len = length entry.0 } else sign_in more z).len) [
      | true ↦ above_zero (length entry.0) both.0
      | false ↦ in_lasts more z both.1
    ]

pub sign_lasts : (z : List ℕ) → 1 ≤ (sign z).len
unfolding sign signs have_bytes
sign_lasts z = in_lasts signs z refl
