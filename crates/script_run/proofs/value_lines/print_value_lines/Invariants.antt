use Rattle.std.proofs.Common.{◌≡◌, ◌++◌, map, take}
use Rattle.script_run.specs.RowLines.{lines_text}
use Rattle.script_run.specs.StepsSelected.{values_at}
use Rattle.script_run.proofs.value_lines.print_value_lines.Given as goal

abbrev pub invariant-loop-place : goal.invariant-loop-place
invariant-loop-place l = l.out ≡ l.initial.out ++ lines_text (map (values_at l.columns) (take l.place-index l.places))
