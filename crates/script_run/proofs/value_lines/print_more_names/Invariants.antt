use Rattle.std.proofs.Common.{◌≡◌, ◌++◌, ◌∷◌, take}
use Rattle.std.specs.List.{flat_map}
use Rattle.dm_text.specs.Printing.{field}
use Rattle.script_run.proofs.value_lines.print_more_names.Given as goal

abbrev pub invariant-loop-name : goal.invariant-loop-name
invariant-loop-name l = l.out ≡ l.initial.out ++ flat_map (λ name. 9 ∷ field name) (take l.name-index l.names)
