use Rattle.std.proofs.Common.{◌≡◌, take}
use Rattle.script_run.specs.Shown as spec
use Rattle.script_run.proofs.shown.path_lines.Given as goal

abbrev pub invariant-loop-path : goal.invariant-loop-path
invariant-loop-path l = l.text ≡ spec.path_lines (take l.path-index l.path-items)
