-- How many brackets and CASEs are open at once.
use Rattle.std.specs.Prelude.{ℕ, zero, suc, Bool, true, false, List, [], ◌∷◌, Option, Some, None}
use Rattle.sql_tree.specs.declared.token.Kind.{Kind}
use Rattle.sql_tree.specs.declared.token.Kind.TheVariants as k
use Rattle.sql_tree.specs.declared.token.Token.{Token}

-- how many may still be opened behind a token of this kind; nothing where it is one too many
abbrev pub left_behind : Kind → ℕ → Option ℕ
left_behind k.Open zero = None
left_behind k.Open (suc left) = Some left
left_behind k.Case zero = None
left_behind k.Case (suc left) = Some left
left_behind k.Close left = Some (suc left)
left_behind k.End left = Some (suc left)
left_behind _ left = Some left

-- no more than so many brackets and CASEs of the tokens are open at once
abbrev pub opens_at_most : ℕ → List Token → Bool
opens_at_most left [] = true
opens_at_most left (t ∷ ts) =
    elim (left_behind t.kind left) as (λ _. Bool) [ None ↦ false | Some more ↦ opens_at_most more ts ]
