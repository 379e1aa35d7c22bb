-- What the steps of reading a commit answer.
use Rattle.std.specs.Prelude.{◌≡◌, ⊤, ℕ, List, ◌++◌, Option, Some, None, option_map, Result, Ok, Err}
use Rattle.delta_actions.specs.declared.action.Action.{Action}
use Rattle.delta_actions.specs.declared.fault.Fault.{Fault}
use Rattle.delta_actions.specs.declared.fault.Fault.TheVariants.{Bad, Memory}
use Rattle.delta_actions.specs.declared.fault.ActionFault.{ActionFault}
use Rattle.delta_actions.specs.declared.fault.ActionFault.TheVariants as fault

-- the value that there is, or Bad where there is none
abbrev pub Gives : {A : Type 0} → Option A → Result A Fault → Type 0
Gives known (Ok a) = known ≡ Some a
Gives known (Err Bad) = known ≡ None
Gives known (Err Memory) = ⊤

-- a line's actions go to the end
abbrev pub AddsLine : ℕ → Option (List Action) → List Action → List Action → Result ⊤ ActionFault → Type 0
AddsLine number known old new (Ok _) = option_map (λ found. old ++ found) known ≡ Some new
AddsLine number known old new (Err (fault.BadAction line)) = (line ≡ number) × (known ≡ None)
AddsLine number known old new (Err fault.Memory) = ⊤
