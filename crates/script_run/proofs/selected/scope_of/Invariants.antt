use Rattle.std.proofs.Common.{◌≡◌, take}
use Rattle.script_run.specs.Selected.{scope_of}
use Rattle.script_run.proofs.selected.scope_of.Given as goal

abbrev pub invariant-loop-column : goal.invariant-loop-column
invariant-loop-column l = l.scope ≡ scope_of l.table (take l.column-index l.columns)
