use Rattle.std.proofs.Common.{◌≡◌, map, take}
use Rattle.column_mapping.specs.Places.{is_named, place_by}
use Rattle.column_mapping.specs.Steps.{name_in}
use Rattle.column_mapping.proofs.places.by_name.Given as goal

abbrev pub invariant-loop-column : goal.invariant-loop-column
invariant-loop-column l = l.choices ≡ map (place_by (λ column. is_named (name_in l.mode column)) l.leaves) (take l.column-index l.columns)
