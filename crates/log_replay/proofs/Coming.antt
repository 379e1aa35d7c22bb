-- What is live was added by an action of the log.
use Rattle.std.proofs.Common.{◌≡◌, ℕ, ◌+◌, List, [], ◌∷◌, ◌++◌, Option, Some, None, Bool, true, false, cond, refl, ap, subst, arith}
use Rattle.std.specs.List.{All, AllByRecursion, filter_map, cons_option, list_any}
use Rattle.std.proofs.lemmas.List.Elements.{All-tail, All-cons}
use Rattle.delta_actions.specs.declared.action.AddAction.{AddAction}
use Rattle.delta_actions.specs.declared.action.Action.{Action}
use Rattle.delta_actions.specs.declared.action.Action.TheVariants as action
use Rattle.log_replay.specs.declared.commits.Commit.{Commit}
use Rattle.log_replay.specs.Live.{Line, lines_of, lines, added, takes_away, live_of, live_at, live_adds}

-- the action of each line is such
abbrev Such : (Action → Type 0) → List Line → Type 0
Such P ls = AllByRecursion (λ (line : Line). P line.action) ls

such_both : (P : Action → Type 0) (xs ys : List Line) → Such P xs → Such P ys → Such P (xs ++ ys)
such_both P [] ys a b = b
such_both P (line ∷ xs) ys a b = (a.0, such_both P xs ys a.1 b)

such_of : (P : Action → Type 0) (version line : ℕ) (actions : List Action) → All P actions → Such P (lines_of version line actions)
unfolding lines_of
such_of P version line [] all = tt
such_of P version line (a ∷ more) all = (all 0 a (omega arith), such_of P version (line + 1) more (All-tail P a more all))

such_log : (P : Action → Type 0) (commits : List Commit) → All (λ commit. All P commit.actions) commits → Such P (lines commits)
unfolding lines
such_log P [] all = tt
such_log P (commit ∷ commits) all =
    such_both P (lines_of commit.version 0 commit.actions) (lines commits) (such_of P commit.version 0 commit.actions (all 0 commit (omega arith)))
    (such_log P commits (All-tail (λ (it : Commit). All P it.actions) commit commits all))

-- an action that adds a file is its add
add_is : (a : Action) (add : AddAction) → added a ≡ Some add → a ≡ action.Add add
add_is (action.Protocol protocol) add is = absurd cc
add_is (action.Metadata metadata) add is = absurd cc
add_is (action.Add other) add is = let same : other ≡ add = cc in ap (λ (it : AddAction). action.Add it) same
add_is (action.Remove remove) add is = absurd cc
add_is (action.Cdc cdc) add is = absurd cc
add_is (action.Domain domain) add is = absurd cc
add_is (action.Info info) add is = absurd cc
add_is action.Other add is = absurd cc

unless_taken : (P : AddAction → Type 0) (taken : Bool) (add : AddAction) (rest : List AddAction) → P add → All P rest → All P (cons_option (cond taken None (Some add)) rest)
unless_taken P true add rest here all = all
unless_taken P false add rest here all = All-cons P add rest here all

live_one : (P : Action → Type 0) (all : List Line) (this : Line) (found : Option AddAction) (rest : List AddAction) → added this.action ≡ found → P this.action → All (λ add. P (action.Add add)) rest
    → All (λ add. P (action.Add add)) (cons_option (live_of all this found) rest)
live_one P all this None rest is here more = more
live_one P all this (Some add) rest is here more =
    unless_taken (λ it. P (action.Add it)) (list_any (takes_away this add.path) all) add rest (subst P (add_is this.action add is) here) more

live_among_lines : (P : Action → Type 0) (all ls : List Line) → Such P ls → All (λ add. P (action.Add add)) (filter_map (live_at all) ls)
live_among_lines P all [] such = λ k d within. absurd (omega arith)
live_among_lines P all (line ∷ ls) such =
    live_one P all line (added line.action) (filter_map (live_at all) ls) refl such.0 (live_among_lines P all ls such.1)

pub live_has : (P : Action → Type 0) (commits : List Commit) → All (λ commit. All P commit.actions) commits → All (λ add. P (action.Add add)) (live_adds commits)
unfolding live_adds
live_has P commits all = live_among_lines P (lines commits) (lines commits) (such_log P commits all)
