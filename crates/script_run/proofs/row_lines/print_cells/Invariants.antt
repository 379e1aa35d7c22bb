use Rattle.std.proofs.Common.{◌≡◌, ◌++◌, take}
use Rattle.script_run.specs.StepsRows.{cells_text}
use Rattle.script_run.proofs.row_lines.print_cells.Given as goal

abbrev pub invariant-loop-column : goal.invariant-loop-column
invariant-loop-column l = l.out ≡ l.initial.out ++ cells_text (take l.column-index l.columns) l.place
