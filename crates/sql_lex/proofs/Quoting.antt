-- Quotes that are doubled and halved.
use Rattle.std.proofs.Common.{◌≡◌, ◌∙◌, ℕ, true, false, List, [], ◌∷◌, refl, ap, sym}
use Rattle.std.specs.Prelude.{◌==◌, if◌then◌else◌}
use Rattle.sql_lex.proofs.Choices.{equal_self, is_equal}
use Rattle.sql_lex.specs.Content.{doubled, halved}

pub quotes_again : (q : ℕ) (content : List ℕ) → halved q false (doubled q content) ≡ content
quotes_again q [] = refl
quotes_again q (b ∷ content) =
    elim (b == q) as (λ v. (b == q) ≡ v → halved q false (if v then q ∷ q ∷ doubled q content else b ∷ doubled q content) ≡ b ∷ content) [
      | true ↦ λ e. rw (equal_self q) (ap (λ z. q ∷ z) (quotes_again q content) ∙ ap (λ c. c ∷ content) (sym (is_equal b q e)))
      | false ↦ λ e. rw e (ap (λ z. b ∷ z) (quotes_again q content))
    ] refl
