use Rattle.std.proofs.Common.{◌≡◌, ◌++◌, ◌∷◌, take}
use Rattle.std.specs.List.{flat_map}
use Rattle.dm_text.specs.Printing.{field}
use Rattle.script_run.proofs.shown_rows.print_names.Given as goal

abbrev pub invariant-loop-column : goal.invariant-loop-column
invariant-loop-column l = l.out ≡ l.initial.out ++ flat_map (λ column. 9 ∷ field column.name) (take l.column-index l.columns)
