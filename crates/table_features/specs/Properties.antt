-- The properties of a table (PROTOCOL.md, "Change Metadata"), as texts under names.
use Rattle.std.specs.Prelude.{ℕ, List, Bool, Option, option_map, codes, find, ◌&&◌}
use Rattle.std.specs.List.{list_any}
use Rattle.std.specs.Str.{bytes_eq}

-- the property is `true`
abbrev pub is_true_in : List (List ℕ × List ℕ) → List ℕ → Bool
is_true_in pairs name = list_any (λ pair. bytes_eq pair.0 name && bytes_eq pair.1 (codes "true")) pairs

-- the text of a property, if it is there
abbrev pub text_under : List (List ℕ × List ℕ) → List ℕ → Option (List ℕ)
text_under pairs name = option_map (λ pair. pair.1) (find (λ pair. bytes_eq pair.0 name) pairs)
