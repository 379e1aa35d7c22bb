use Rattle.std.proofs.Common.{◌≡◌, ◌++◌, map, take}
use Rattle.script_run.specs.RowLines.{lines_text}
use Rattle.script_run.specs.StepsRows.{line_at}
use Rattle.script_run.proofs.row_lines.print_lines.Given as goal

abbrev pub invariant-loop-place : goal.invariant-loop-place
invariant-loop-place l = l.out ≡ l.initial.out ++ lines_text (map (line_at l.columns l.ids) (take l.place-index l.places))
