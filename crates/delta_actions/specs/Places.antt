-- Which line is the first that is bad, and what good lines give.
use Rattle.std.specs.Prelude.{◌≡◌, ℕ, ◌+◌, List, [], take, None, IsSome, IsSomeAnd, slice_get, unwrap_or}
use Rattle.std.specs.List.{All, flat_map}
use Rattle.delta_actions.specs.declared.action.Action.{Action}
use Rattle.delta_actions.specs.Meaning.{actions_of}

-- a line that is blank or an action
abbrev pub IsGood : List ℕ → Type 0
IsGood line = IsSome (actions_of line)

-- a line that is neither
abbrev pub IsBad : List ℕ → Type 0
IsBad line = actions_of line ≡ None

-- the line of this number, counted from 1, is bad, and each line before it is good
pub record IsFirstBad (ls : List (List ℕ)) (line : ℕ) : Type 0 where
  pub place : ℕ
  pub number : line ≡ place + 1
  pub bad : IsSomeAnd (slice_get ls place) IsBad
  pub before : All IsGood (take place ls)

-- the actions of the lines in turn
abbrev pub all_actions : List (List ℕ) → List Action
all_actions ls = flat_map (λ line. unwrap_or (actions_of line) []) ls

-- each line is good, and the actions are those of the lines in turn
pub record AreGood (ls : List (List ℕ)) (found : List Action) : Type 0 where
  pub each : All IsGood ls
  pub joined : found ≡ all_actions ls
