use Rattle.std.proofs.Common.{◌≡◌, map, take}
use Rattle.script_run.specs.StepsRows.{line_at}
use Rattle.script_run.proofs.row_lines.lines_at.Given as goal

abbrev pub invariant-loop-place : goal.invariant-loop-place
invariant-loop-place l = map (λ line. line.items) l.lines.items ≡ map (line_at l.columns l.ids) (take l.place-index l.places)
