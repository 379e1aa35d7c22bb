use Rattle.std.proofs.Common.{◌≡◌, ◌++◌, map, take}
use Rattle.script_run.proofs.selected.push_columns.Given as goal

abbrev pub invariant-loop-column : goal.invariant-loop-column
invariant-loop-column l = l.names ≡ l.initial.names ++ map (λ column. column.name) (take l.column-index l.columns)
