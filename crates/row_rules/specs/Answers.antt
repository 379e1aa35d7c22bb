-- What reading rules answers.
use Rattle.std.specs.Prelude.{◌≡◌, ⊤, ℕ, List, Result, Ok, Err}
use Rattle.dm_types.specs.declared.refusal.Refused.TheVariants as refused
use Rattle.dm_types.specs.declared.refusal.Stop.{Stop}
use Rattle.dm_types.specs.declared.refusal.Stop.TheVariants as stop
use Rattle.dm_types.specs.declared.refusal.TableRefusal.TheVariants as table
use Rattle.row_rules.specs.declared.fault.RuleFault.{RuleFault}
use Rattle.row_rules.specs.declared.fault.RuleFault.TheVariants as fault

-- exactly what is known, or the name of the rule that can't be kept, unless there was no memory
abbrev pub Reads : {A : Type 0} → Result A (List ℕ) → Result A RuleFault → Type 0
Reads known (Ok found) = known ≡ Ok found
Reads known (Err (fault.Unsupported name)) = known ≡ Err name
Reads known (Err fault.Memory) = ⊤

-- why a statement that writes stops at this fault
abbrev pub stop_of : RuleFault → Stop
stop_of (fault.Unsupported name) = stop.Refused (refused.Table (table.UnsupportedRule name))
stop_of fault.Memory = stop.Memory
