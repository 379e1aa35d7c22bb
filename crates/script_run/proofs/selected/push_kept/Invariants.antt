use Rattle.std.proofs.Common.{◌≡◌, ◌++◌, take}
use Rattle.std.specs.Prelude.{filter}
use Rattle.script_run.specs.StepsSelected.{is_kept}
use Rattle.script_run.proofs.selected.push_kept.Given as goal

abbrev pub invariant-loop-place : goal.invariant-loop-place
invariant-loop-place l = l.places ≡ l.initial.places ++ filter (is_kept l.kept) (take l.place-index l.all)
