use Rattle.std.proofs.Common.{◌≡◌, map, take}
use Rattle.script_run.specs.StepsSelected.{values_at}
use Rattle.script_run.proofs.value_lines.value_lines.Given as goal

abbrev pub invariant-loop-place : goal.invariant-loop-place
invariant-loop-place l = map (λ line. line.items) l.lines.items ≡ map (values_at l.columns) (take l.place-index l.places)
