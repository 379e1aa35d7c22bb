-- One line of a commit, and those after it.
use Rattle.std.proofs.Common.{◌≡◌, ℕ, suc, ◌+◌, ◌<◌, ◌≤◌, List, [], ◌∷◌, ◌++◌, length, get_or, drop, Option, Some, None, option_map, Result, Ok, Err, refl, sym, ap, ◌∙◌, append_assoc, arith, drop-cons}
use Rattle.std.proofs.lemmas.List.{append-nil, drop_all}
use Rattle.delta_actions.specs.declared.action.Action.{Action}
use Rattle.delta_actions.specs.declared.fault.ActionFault.{ActionFault}
use Rattle.delta_actions.specs.declared.fault.ActionFault.TheVariants as fault
use Rattle.delta_actions.specs.Meaning.{actions_of, then_more, with_line, actions_from}
use Rattle.delta_actions.specs.Answers.{ReadsCommit}
use Rattle.delta_actions.specs.StepsReading.{AddsLine}

then_more-append : (a b : List Action) (r : Result (List Action) ℕ) → then_more a (then_more b r) ≡ then_more (a ++ b) r
then_more-append a b (Ok more) = ap Ok (sym (append_assoc a b more))
then_more-append a b (Err line) = refl

read_on : (old new : List Action) (known : Option (List Action)) (number : ℕ) (rest : Result (List Action) ℕ)
    → option_map (λ found. old ++ found) known ≡ Some new → then_more old (with_line number known rest) ≡ then_more new rest
read_on old new None number rest is = absurd cc
read_on old new (Some found) number rest is =
    let same : old ++ found ≡ new = grind arith in
    then_more-append old found rest ∙ ap (λ xs. then_more xs rest) same

module _ (ls : List (List ℕ)) (place : ℕ) (line : List ℕ) (stands : (place < length ls) × (line ≡ get_or ls place line)) (total : Result (List Action) ℕ) (old : List Action) (number : ℕ)
    (left : total ≡ then_more old (actions_from number (drop place ls))) where
  opened : total ≡ then_more old (with_line number (actions_of line) (actions_from (number + 1) (drop (place + 1) ls)))
  opened =
      let next : suc place ≡ place + 1 = omega arith in
      left ∙ ap (λ rest. then_more old (actions_from number rest)) (drop-cons ls place line stands.0 ∙ ap (λ l. l ∷ drop (suc place) ls) (sym stands.1) ∙ ap (λ k. line ∷ drop k ls) next)

  pub line_read : (new : List Action) → option_map (λ found. old ++ found) (actions_of line) ≡ Some new → total ≡ then_more new (actions_from (number + 1) (drop (place + 1) ls))
  line_read new is = opened ∙ read_on old new (actions_of line) number _ is

  pub line_bad : (new : List Action) (e : ActionFault) → AddsLine number (actions_of line) old new (Err e) → ReadsCommit total (Err e)
  line_bad new (fault.BadAction n) adds = opened ∙ rw (adds.1, adds.0) refl
  line_bad new fault.Memory adds = tt

pub then_more-none : (r : Result (List Action) ℕ) → r ≡ then_more [] r
then_more-none (Ok more) = refl
then_more-none (Err line) = refl

pub all_read : (ls : List (List ℕ)) (place : ℕ) (total : Result (List Action) ℕ) (old : List Action) (number : ℕ)
    → total ≡ then_more old (actions_from number (drop place ls)) → length ls ≤ place → total ≡ Ok old
all_read ls place total old number left past = left ∙ rw (drop_all place ls past) (ap Ok (append-nil old))
