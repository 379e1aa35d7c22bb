-- What reading a commit answers.
use Rattle.std.specs.Prelude.{◌≡◌, ⊤, ℕ, List, Result, Ok, Err}
use Rattle.delta_actions.specs.declared.action.Action.{Action}
use Rattle.delta_actions.specs.declared.fault.ActionFault.{ActionFault}
use Rattle.delta_actions.specs.declared.fault.ActionFault.TheVariants as fault

-- the actions of a commit, or its first bad line
abbrev pub ReadsCommit : Result (List Action) ℕ → Result (List Action) ActionFault → Type 0
ReadsCommit known (Ok actions) = known ≡ Ok actions
ReadsCommit known (Err (fault.BadAction line)) = known ≡ Err line
ReadsCommit known (Err fault.Memory) = ⊤
