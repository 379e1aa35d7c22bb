-- Which files are live (PROTOCOL.md, "Action Reconciliation").
use Rattle.std.specs.Prelude.{◌≡◌, ℕ, ◌+◌, List, [], ◌∷◌, ◌++◌, Option, Some, None, is_some, Bool, false, map, nat_lt, ◌==◌, ◌&&◌, ◌||◌, if◌then◌else◌, ⊤}
use Rattle.std.specs.List.{list_any, filter_map}
use Rattle.std.specs.Str.{bytes_eq}
use Rattle.delta_actions.specs.declared.action.AddAction.{AddAction}
use Rattle.delta_actions.specs.declared.action.Action.{Action}
use Rattle.delta_actions.specs.declared.action.Action.TheVariants as action
use Rattle.log_replay.specs.declared.commits.Commit.{Commit}

-- the commit of this version
abbrev pub numbered : ℕ → List Action → Commit
numbered version actions = record { version = version; actions = actions }

-- the commits have these numbers in turn
unfoldable pub AreNumbered : ℕ → List Commit → Type 0
AreNumbered version [] = ⊤
AreNumbered version (commit ∷ commits) = (commit.version ≡ version) × AreNumbered (version + 1) commits

-- an action with its place in the log; lines are counted over those that have an action, which keeps their order
pub record Line : Type 0 where
  pub version : ℕ
  pub line : ℕ
  pub action : Action

abbrev pub line_at : ℕ → ℕ → Action → Line
line_at version line action = record { version = version; line = line; action = action }

-- the actions of one commit, from this line on
unfoldable pub lines_of : ℕ → ℕ → List Action → List Line
lines_of version line [] = []
lines_of version line (a ∷ more) = line_at version line a ∷ lines_of version (line + 1) more

-- log order: commit after commit, each in the order of its lines
unfoldable pub lines : List Commit → List Line
lines [] = []
lines (commit ∷ commits) = lines_of commit.version 0 commit.actions ++ lines commits

-- the file that an action adds
abbrev pub added : Action → Option AddAction
added (action.Protocol protocol) = None
added (action.Metadata metadata) = None
added (action.Add add) = Some add
added (action.Remove remove) = None
added (action.Cdc cdc) = None
added (action.Domain domain) = None
added (action.Info info) = None
added action.Other = None

abbrev pub is_add : Action → Bool
is_add a = is_some (added a)

-- the path that an action adds or removes
abbrev pub mentioned : Action → Option (List ℕ)
mentioned (action.Protocol protocol) = None
mentioned (action.Metadata metadata) = None
mentioned (action.Add add) = Some add.path
mentioned (action.Remove remove) = Some remove.path
mentioned (action.Cdc cdc) = None
mentioned (action.Domain domain) = None
mentioned (action.Info info) = None
mentioned action.Other = None

abbrev pub is_path : List ℕ → Option (List ℕ) → Bool
is_path path None = false
is_path path (Some other) = bytes_eq path other

-- the action adds or removes this path
abbrev pub is_of : List ℕ → Action → Bool
is_of path a = is_path path (mentioned a)

-- the other line takes away what a line of this version added: it is of the same path, and stands in a later version,
-- or is an add of a later line of the same version; so the removes of a version count before its adds
abbrev pub takes_away : Line → List ℕ → Line → Bool
takes_away this path other =
    is_of path other.action
    && (nat_lt this.version other.version
    || (is_add other.action && this.version == other.version && nat_lt this.line other.line))

-- the file that a line adds, if no line of the log takes it away
abbrev pub live_of : List Line → Line → Option AddAction → Option AddAction
live_of all this None = None
live_of all this (Some add) = if list_any (takes_away this add.path) all then None else Some add

abbrev pub live_at : List Line → Line → Option AddAction
live_at all this = live_of all this (added this.action)

-- the live files in log order
unfoldable pub live_adds : List Commit → List AddAction
live_adds commits = filter_map (live_at (lines commits)) (lines commits)

-- their paths
abbrev pub paths_of : List AddAction → List (List ℕ)
paths_of adds = map (λ add. add.path) adds
