-- How tokens stand in bytes.
use Rattle.std.specs.Prelude.{◌≡◌, ℕ, ◌+◌, ◌<◌, ◌≤◌, List, [], ◌∷◌, length, drop}
use Rattle.sql_tree.specs.declared.token.Span.{Span}
use Rattle.sql_tree.specs.declared.token.Token.{Token}
use Rattle.sql_lex.specs.declared.lexer.Before.{Before}
use Rattle.sql_lex.specs.declared.lexer.Before.TheVariants as before
use Rattle.sql_lex.specs.Tokens.{gap, token, after, placed}

-- from one place to another there is nothing but white space and comments
pub data IsBlank (z : List ℕ) : ℕ → ℕ → Type 0 where
  nothing : (at : ℕ) → IsBlank z at at
  more : (at to : ℕ) → 0 < gap (drop at z) → IsBlank z (at + gap (drop at z)) to → IsBlank z at to

-- a part of so many bytes, with a byte at least
pub record IsPart (size : ℕ) (span : Span) : Type 0 where
  pub some : span.start < span.«end»
  pub within : span.«end» ≤ size

-- from a place on each part begins where the one before it has ended, or later
abbrev pub AreParts : ℕ → ℕ → List Token → Type 0
AreParts at size [] = Unit {0}
AreParts at size (t ∷ ts) = (at ≤ t.span.start) × IsPart size t.span × AreParts t.span.«end» size ts

-- from a place on: white space and comments, then the token that stands where there are none, and so on
-- to the end
abbrev pub StandFrom : List ℕ → ℕ → Before → List Token → Type 0
StandFrom z at state [] = IsBlank z at (length z)
StandFrom z at state (t ∷ ts) =
    (at ≤ t.span.start) × IsBlank z at t.span.start × IsPart (length z) t.span × (gap (drop t.span.start z) ≡ 0)
    × (t ≡ placed t.span.start (token state (drop t.span.start z))) × StandFrom z t.span.«end» (after state t.kind) ts

-- the tokens stand in the bytes one after the other, and nothing else does
unfoldable pub StandIn : List ℕ → List Token → Type 0
StandIn z ts = StandFrom z 0 before.Start ts
