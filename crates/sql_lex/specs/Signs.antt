-- Operators and other signs.
use Rattle.std.specs.Prelude.{◌≡◌, ◌≤◌, true, ℕ, nat_eq, if◌then◌else◌, List, [], ◌∷◌, length, codes}
use Rattle.std.specs.List.{starts_with}
use Rattle.sql_tree.specs.declared.token.Kind.{Kind}
use Rattle.sql_tree.specs.declared.token.Kind.TheVariants as k
use Rattle.sql_lex.specs.declared.bytes.Piece.{Piece}

-- the first sign of a list that stands at the front; a byte that begins none is bad
abbrev pub sign_in : List (List ℕ × Kind) → List ℕ → Piece
sign_in [] z = record { kind = k.Bad; len = 1 }
sign_in (entry ∷ more) z =
    if starts_with nat_eq z entry.0 then record { kind = entry.1; len = length entry.0 } else sign_in more z

-- all signs, each before those with which it begins
unfoldable pub signs : List (List ℕ × Kind)
signs =
    (codes "<=>", k.SameAs) ∷ (codes "<>", k.NotEqual) ∷ (codes "!=", k.NotEqual) ∷
    (codes "<=", k.LessOrEqual) ∷ (codes ">=", k.GreaterOrEqual) ∷ (codes "||", k.Concat) ∷
    (codes ";", k.Semicolon) ∷ (codes "(", k.Open) ∷ (codes ")", k.Close) ∷ (codes ",", k.Comma) ∷
    (codes ".", k.Dot) ∷ (codes "=", k.Equal) ∷ (codes "<", k.Less) ∷ (codes ">", k.Greater) ∷
    (codes "+", k.Plus) ∷ (codes "-", k.Minus) ∷ (codes "*", k.Star) ∷ (codes "%", k.Percent) ∷ []

-- the longest sign at the front
unfoldable pub sign : List ℕ → Piece
sign z = sign_in signs z

-- a sign of a list that stands at the front has at most so many bytes
abbrev pub IsLongest : List ℕ → ℕ → (List ℕ × Kind) → Type 0
IsLongest z len entry = starts_with nat_eq z entry.0 ≡ true → length entry.0 ≤ len
