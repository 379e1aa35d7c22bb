-- Which words are names.
use Rattle.std.proofs.Common.{◌≡◌, ℕ, Bool, true, false, List, [], ◌∷◌, ◌++◌, refl}
use Rattle.std.specs.Prelude.{◌&&◌, ◌||◌, not, if◌then◌else◌}
use Rattle.std.specs.Str.{str_eq_ignore_ascii_case}
use Rattle.sql_tree.specs.Kinds.{names}
use Rattle.sql_tree.specs.declared.token.Kind.{Kind}
use Rattle.sql_lex.specs.Words.{kind_in, is_listed, is_reserved, reserved, placed, word_kind}
use Rattle.sql_lex.proofs.Choices.{both_true, choose}

all_names : List (List ℕ × Kind) → Bool
all_names [] = true
all_names (entry ∷ more) = names entry.1 && all_names more

no_names : List (List ℕ × Kind) → Bool
no_names [] = true
no_names (entry ∷ more) = not (names entry.1) && no_names more

denied : (v : Bool) → not v ≡ true → v ≡ false
denied true h = absurd (cc)
denied false h = refl

names_in : (list : List (List ℕ × Kind)) (word : List ℕ) → all_names list ≡ true → names (kind_in list word) ≡ true
unfolding all_names
names_in [] word h = refl
names_in (entry ∷ more) word h =
    let both = both_true (names entry.1) (all_names more) h in
    choose (λ kind. names kind ≡ true) (str_eq_ignore_ascii_case word entry.0) entry.1 (kind_in more word) (λ _. both.0) (λ _. names_in more word both.1)

-- a word of the first list is none, every other word is one
listed : (list names_too : List (List ℕ × Kind)) (word : List ℕ) → no_names list ≡ true → all_names names_too ≡ true
    → names (kind_in (list ++ names_too) word) ≡ not (is_listed list word)
unfolding no_names
listed [] names_too word none all = names_in names_too word all
listed (entry ∷ more) names_too word none all =
    let both = both_true (not (names entry.1)) (no_names more) none in
    elim (str_eq_ignore_ascii_case word entry.0) as (λ v. names (if v then entry.1 else kind_in (more ++ names_too) word) ≡ not (v || is_listed more word)) [
      | true ↦ denied (names entry.1) both.0
      | false ↦ listed more names_too word both.1 all
    ]

pub reserved_words : (word : List ℕ) → names (word_kind word) ≡ not (is_reserved word)
unfolding word_kind reserved placed all_names no_names
reserved_words word = listed reserved placed word refl refl
