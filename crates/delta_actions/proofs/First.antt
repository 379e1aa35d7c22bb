-- The first bad line, and good lines.
use Rattle.std.proofs.Common.{◌≡◌, ℕ, suc, ◌+◌, List, [], ◌∷◌, ◌++◌, Option, Some, None, Result, Ok, Err, refl, sym, ap, ◌∙◌, arith}
use Rattle.std.specs.Prelude.{unwrap_or}
use Rattle.std.proofs.lemmas.List.Concat.{flat_map-cons}
use Rattle.std.proofs.lemmas.List.Elements.{All-nil, All-cons}
use Rattle.delta_actions.specs.declared.action.Action.{Action}
use Rattle.delta_actions.specs.Meaning.{actions_of, then_more, with_line, actions_from}
use Rattle.delta_actions.specs.Places.{IsGood, IsFirstBad, all_actions, AreGood}

then_err : (done : List Action) (r : Result (List Action) ℕ) (line : ℕ) → then_more done r ≡ Err line → r ≡ Err line
then_err done (Ok more) line is = absurd cc
then_err done (Err other) line is = is

then_ok : (done : List Action) (r : Result (List Action) ℕ) (all : List Action) → then_more done r ≡ Ok all → (more : List Action) × (r ≡ Ok more) × (all ≡ done ++ more)
then_ok done (Ok more) all is = (more, refl, cc)
then_ok done (Err line) all is = absurd cc

-- the first bad line, where n lines stand before the first of these
abbrev IsFirstBadFrom : ℕ → List (List ℕ) → ℕ → Type 0
IsFirstBadFrom n ls line = (k : ℕ) × (line ≡ n + k) × IsFirstBad ls k

first_by : (n : ℕ) (l : List ℕ) (ls : List (List ℕ)) (line : ℕ) (known : Option (List Action)) → actions_of l ≡ known → with_line (n + 1) known (actions_from (n + 1 + 1) ls) ≡ Err line
    → (actions_from (n + 1 + 1) ls ≡ Err line → IsFirstBadFrom (n + 1) ls line) → IsFirstBadFrom n (l ∷ ls) line
first_by n l ls line None known is later = (1, cc, record { place = 0; number = refl; bad = known; before = All-nil IsGood })
first_by n l ls line (Some found) known is later =
    let rest = later (then_err found _ line is) in (
      suc rest.0,
      omega (arith, rest.1),
      record {
        place = suc rest.2.place;
        number = omega (arith, rest.2.number);
        bad = rest.2.bad;
        before = All-cons IsGood l _ (rw known refl) rest.2.before;
      },
    )

first_from : (n : ℕ) (ls : List (List ℕ)) (line : ℕ) → actions_from (n + 1) ls ≡ Err line → IsFirstBadFrom n ls line
first_from n [] line is = absurd cc
first_from n (l ∷ ls) line is = first_by n l ls line (actions_of l) refl is (first_from (n + 1) ls line)

pub first : (ls : List (List ℕ)) (line : ℕ) → actions_from 1 ls ≡ Err line → IsFirstBad ls line
first ls line is =
    let found = first_from 0 ls line is in
    record { place = found.2.place; number = omega (arith, found.1, found.2.number); bad = found.2.bad; before = found.2.before }

good_by : (n : ℕ) (l : List ℕ) (ls : List (List ℕ)) (all : List Action) (known : Option (List Action)) → actions_of l ≡ known → with_line n known (actions_from (n + 1) ls) ≡ Ok all
    → ((more : List Action) → actions_from (n + 1) ls ≡ Ok more → AreGood ls more) → AreGood (l ∷ ls) all
good_by n l ls all None known is later = absurd cc
good_by n l ls all (Some found) known is later =
    let parts = then_ok found _ all is in
    let rest = later parts.0 parts.1 in
    record {
      each = All-cons IsGood l ls (rw known refl) rest.each;
      joined = parts.2 ∙ ap (λ xs. found ++ xs) rest.joined ∙ ap (λ o. unwrap_or o [] ++ all_actions ls) (sym known) ∙ sym (flat_map-cons (λ line. unwrap_or (actions_of line) []) l ls);
    }

pub good : (n : ℕ) (ls : List (List ℕ)) (all : List Action) → actions_from n ls ≡ Ok all → AreGood ls all
good n [] all is = record { each = All-nil IsGood; joined = cc }
good n (l ∷ ls) all is = good_by n l ls all (actions_of l) refl is (good (n + 1) ls)
