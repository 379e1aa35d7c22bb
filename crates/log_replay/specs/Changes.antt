-- What one commit does to the live files.
use Rattle.std.specs.Prelude.{ℕ, List, [], ◌∷◌, ◌++◌, Bool, not, Option, Some, None, filter, ◌&&◌, if◌then◌else◌}
use Rattle.std.specs.List.{list_any}
use Rattle.delta_actions.specs.declared.action.AddAction.{AddAction}
use Rattle.delta_actions.specs.declared.action.Action.{Action}
use Rattle.log_replay.specs.Live.{added, is_add, is_of}

-- the commit adds or removes the path
abbrev pub mentions : List Action → List ℕ → Bool
mentions commit path = list_any (is_of path) commit

-- the commit adds the path
abbrev pub adds : List Action → List ℕ → Bool
adds commit path = list_any (λ a. is_add a && is_of path a) commit

-- the commit removes the path
abbrev pub removes : List Action → List ℕ → Bool
removes commit path = list_any (λ a. not (is_add a) && is_of path a) commit

-- a file that is added, unless the lines behind it add its path again
abbrev pub unless_again : Option AddAction → List Action → List AddAction → List AddAction
unless_again None more rest = rest
unless_again (Some add) more rest = if adds more add.path then rest else add ∷ rest

-- the added files, each path where it is added last
unfoldable pub last_adds : List Action → List AddAction
last_adds [] = []
last_adds (a ∷ more) = unless_again (added a) more (last_adds more)

-- a commit takes away the files whose paths it mentions, and then adds
unfoldable pub after_commit : List AddAction → List Action → List AddAction
after_commit files commit = filter (λ add. not (mentions commit add.path)) files ++ last_adds commit
