-- The last of its kind, and the marks commit by commit.
use Rattle.std.proofs.Common.{◌≡◌, ℕ, ◌+◌, ◌<◌, ℤ, List, [], ◌∷◌, ◌++◌, length, take, get_or, add-one, append-nil, Option, Some, None, cond, refl, sym, ap, ◌∙◌}
use Rattle.std.specs.Prelude.{int_lt}
use Rattle.std.specs.List.{filter_map, last_or}
use Rattle.std.specs.Option.{option_or}
use Rattle.std.proofs.lemmas.Grind.{flat_map-append}
use Rattle.std.proofs.lemmas.List.Elements.{filter_map-append}
use Rattle.std.proofs.Math.Seq.{take-suc}
use Rattle.delta_actions.specs.declared.action.DomainAction.{DomainAction}
use Rattle.delta_actions.specs.declared.action.Action.{Action}
use Rattle.log_replay.specs.declared.commits.Commit.{Commit}
use Rattle.log_replay.specs.Force.{all_actions, last_said, in_force, tracking_in, mark_from, mark_in_force, mark_after, fallen_within}
use Rattle.log_replay.specs.StepsForce.{mark_behind}

last-append : {A : Type 0} (o : Option A) (xs ys : List A) → last_or o (xs ++ ys) ≡ last_or (last_or o xs) ys
last-append o [] ys = refl
last-append o (x ∷ xs) ys = last-append (Some x) xs ys

or_some : {A : Type 0} (p o : Option A) (x : A) → option_or (option_or p (Some x)) o ≡ option_or p (Some x)
or_some None o x = refl
or_some (Some y) o x = refl

last-or : {A : Type 0} (o : Option A) (xs : List A) → last_or o xs ≡ option_or (last_or None xs) o
last-or o [] = refl
last-or o (x ∷ xs) = last-or (Some x) xs ∙ sym (or_some (last_or None xs) o x) ∙ ap (λ p. option_or p o) (sym (last-or (Some x) xs))

-- the later list decides, where it says anything
last_said-append : {A : Type 0} (says : Action → Option A) (xs ys : List Action) → last_said says (xs ++ ys) ≡ option_or (last_said says ys) (last_said says xs)
last_said-append says xs ys =
    rw (filter_map-append says xs ys) (last-append None (filter_map says xs) (filter_map says ys) ∙ last-or (last_or None (filter_map says xs)) (filter_map says ys))

in_force-push : {A : Type 0} (says : Action → Option A) (cs : List Commit) (c : Commit) → in_force says (cs ++ c ∷ []) ≡ option_or (last_said says c.actions) (in_force says cs)
in_force-push says cs c =
    rw (flat_map-append (λ (commit : Commit). commit.actions) cs (c ∷ []), append-nil c.actions) (last_said-append says (all_actions cs) c.actions)

-- ---- from the end

pub said_found : {A : Type 0} (says : Action → Option A) (all rest earlier : List Action) (a : Action) (found : A) → last_said says rest ≡ last_said says all → rest ≡ earlier ++ a ∷ [] → says a ≡ Some found → Some found ≡ last_said says all
said_found says all rest earlier a found same split said =
    sym (sym same ∙ ap (last_said says) split ∙ last_said-append says earlier (a ∷ []) ∙ rw said refl)

pub said_on : {A : Type 0} (says : Action → Option A) (all rest earlier : List Action) (a : Action) → last_said says rest ≡ last_said says all → rest ≡ earlier ++ a ∷ [] → says a ≡ None → last_said says earlier ≡ last_said says all
said_on says all rest earlier a same split said =
    sym (last_said-append says earlier (a ∷ []) ∙ rw said refl) ∙ ap (last_said says) (sym split) ∙ same

pub force_found : {A : Type 0} (says : Action → Option A) (all rest earlier : List Commit) (c : Commit) (found : A) → in_force says rest ≡ in_force says all → rest ≡ earlier ++ c ∷ [] → last_said says c.actions ≡ Some found → Some found ≡ in_force says all
force_found says all rest earlier c found same split said =
    sym (sym same ∙ ap (in_force says) split ∙ in_force-push says earlier c ∙ rw said refl)

pub force_on : {A : Type 0} (says : Action → Option A) (all rest earlier : List Commit) (c : Commit) → in_force says rest ≡ in_force says all → rest ≡ earlier ++ c ∷ [] → last_said says c.actions ≡ None → in_force says earlier ≡ in_force says all
force_on says all rest earlier c same split said =
    sym (in_force-push says earlier c ∙ rw said refl) ∙ ap (in_force says) (sym split) ∙ same

-- ---- the marks

from_behind : (last before : Option DomainAction) → mark_from (option_or last before) ≡ mark_behind (mark_from before) last
from_behind None before = refl
from_behind (Some domain) before = refl

pub mark_next : (commits : List Commit) (c : Commit) (n : ℕ) (before : ℤ) → n < length commits → c ≡ get_or commits n c → before ≡ mark_after commits n → mark_behind before (last_said tracking_in c.actions) ≡ mark_after commits (n + 1)
mark_next commits c n before within here is =
    let split : take (n + 1) commits ≡ take n commits ++ c ∷ [] = rw (add-one n) (take-suc commits n c within ∙ rw (← here) refl) in
    rw is (sym (ap mark_in_force split ∙ ap mark_from (in_force-push tracking_in (take n commits) c) ∙ from_behind (last_said tracking_in c.actions) (in_force tracking_in (take n commits))))

pub fallen_next : (commits : List Commit) (n : ℕ) (before mark : ℤ) (fell now : Option ℤ) → before ≡ mark_after commits n → mark ≡ mark_after commits (n + 1) → fell ≡ fallen_within commits n → now ≡ option_or fell (cond (int_lt mark before) (Some mark) None) → now ≡ fallen_within commits (n + 1)
unfolding fallen_within
fallen_next commits n before mark fell now is next so_far step = rw (step, so_far, is, next, add-one n) refl
