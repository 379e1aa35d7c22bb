use Rattle.std.proofs.Common.{◌≡◌, ◌++◌, map, take}
use Rattle.script_run.specs.RowLines.{lines_text}
use Rattle.script_run.proofs.row_lines.print_all.Given as goal

abbrev pub invariant-loop-line : goal.invariant-loop-line
invariant-loop-line l = l.out ≡ l.initial.out ++ lines_text (map (λ line. line.items) (take l.line-index l.lines))
