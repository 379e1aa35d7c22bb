-- What one more commit does to the live files.
use Rattle.std.proofs.Common.{◌≡◌, ℕ, List, [], ◌∷◌, ◌++◌, length, Option, Some, None, is_some, Bool, true, false, ◌||◌, not, refl, sym, ◌∙◌, arith}
use Rattle.std.specs.List.{All, filter}
use Rattle.std.proofs.lemmas.List.Elements.{All-tail}
use Rattle.delta_actions.specs.declared.action.AddAction.{AddAction}
use Rattle.delta_actions.specs.declared.action.Action.{Action}
use Rattle.log_replay.specs.declared.commits.Commit.{Commit}
use Rattle.log_replay.specs.Live.{AreNumbered, added, is_add, live_adds, paths_of}
use Rattle.log_replay.specs.Changes.{adds, mentions, removes, last_adds, after_commit}
use Rattle.log_replay.proofs.Numbered.{numbers_grow}
use Rattle.log_replay.proofs.Replaying.{live_adds-push}
use Rattle.log_replay.proofs.Deciding.{mentions-kinds}

pub live_grows : (commits : List Commit) (commit : Commit) → AreNumbered 0 commits → commit.version ≡ length commits
    → live_adds (commits ++ commit ∷ []) ≡ filter (λ add. not (mentions commit.actions add.path)) (live_adds commits) ++ last_adds commit.actions
unfolding after_commit
live_grows commits commit numbers is = live_adds-push commits commit (numbers_grow commits commit numbers is)

-- ---- a commit that removes all

not_added : (found : Option AddAction) → is_some found ≡ false → found ≡ None
not_added None none = refl
not_added (Some add) none = absurd cc

no_last_adds : (actions : List Action) → All (λ a. is_add a ≡ false) actions → last_adds actions ≡ []
unfolding last_adds
no_last_adds [] none = refl
no_last_adds (a ∷ more) none =
    let here : added a ≡ None = not_added (added a) (none 0 a (omega arith)) in
    rw here (no_last_adds more (All-tail (λ (b : Action). is_add b ≡ false) a more none))

or_true : (a b c : Bool) → (a || b) ≡ c → b ≡ true → c ≡ true
or_true true true c is there = sym is
or_true false true c is there = sym is
or_true a false c is there = absurd cc

removed_mentions : (actions : List Action) (path : List ℕ) → removes actions path ≡ true → mentions actions path ≡ true
removed_mentions actions path there = or_true (adds actions path) (removes actions path) (mentions actions path) (mentions-kinds actions path) there

none_left : (actions : List Action) (files : List AddAction) → All (λ path. removes actions path ≡ true) (paths_of files) → filter (λ add. not (mentions actions add.path)) files ≡ []
none_left actions [] all = refl
none_left actions (add ∷ files) all =
    let gone : mentions actions add.path ≡ true = removed_mentions actions add.path (all 0 add.path (omega arith)) in
    rw gone (none_left actions files (All-tail (λ (path : List ℕ). removes actions path ≡ true) add.path (paths_of files) all))

pub all_removed : (commits : List Commit) (commit : Commit) → AreNumbered 0 commits → commit.version ≡ length commits → All (λ a. is_add a ≡ false) commit.actions
    → All (λ path. removes commit.actions path ≡ true) (paths_of (live_adds commits)) → live_adds (commits ++ commit ∷ []) ≡ []
all_removed commits commit numbers is none all =
    live_grows commits commit numbers is ∙ rw (none_left commit.actions (live_adds commits) all) (no_last_adds commit.actions none)
