-- Texts in byte order.
use Rattle.std.specs.Prelude.{ℕ, List, [], ◌∷◌, Bool, if◌then◌else◌}
use Rattle.std.specs.Cmp.Lexicographic.{slice_cmp}
use Rattle.std.specs.Ordering.{nat_cmp, is_lt}

-- the first text stands before the second: byte by byte, a text before those that go on from it
abbrev pub is_below : List ℕ → List ℕ → Bool
is_below a b = is_lt (slice_cmp nat_cmp a b)

-- a text in its place among ordered texts
unfoldable pub placed : List ℕ → List (List ℕ) → List (List ℕ)
placed text [] = text ∷ []
placed text (first ∷ rest) = if is_below first text then first ∷ placed text rest else text ∷ first ∷ rest

unfoldable pub in_byte_order : List (List ℕ) → List (List ℕ)
in_byte_order [] = []
in_byte_order (text ∷ texts) = placed text (in_byte_order texts)
