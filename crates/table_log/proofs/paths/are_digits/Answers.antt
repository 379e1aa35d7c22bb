use Rattle.std.proofs.Common.{rules, tests, ◌≡◌, ℕ, List, [], ◌∷◌, ◌&&◌, refl, ap, ◌∙◌}
use Rattle.std.specs.Char.{is_ascii_digit}
use Rattle.std.specs.List.{list_all}
use Rattle.std.specs.Str.{all_ascii_digits}
use Rattle.std.proofs.lemmas.Iterator.{YieldsList-from_slice}
use Rattle.std.proofs.lemmas.Iterator.Search.{all_from_yields_List}
use Rattle.table_log.proofs.paths.are_digits.Goals as goal

same : (ds : List ℕ) → list_all is_ascii_digit ds ≡ all_ascii_digits ds
same [] = refl
same (d ∷ ds) = ap (λ b. is_ascii_digit d && b) (same ds)

pub returns : goal.returns
returns c = all_from_yields_List is_ascii_digit _ _ c.all.result c.all.ensures.ran (YieldsList-from_slice c.args.text.now cc) (λ x b q k. search (rules, tests)) ∙ same c.args.text.now
