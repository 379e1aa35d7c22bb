use Rattle.std.proofs.Common.{◌≡◌, Some, take}
use Rattle.column_mapping.specs.Places.{is_named, carriers}
use Rattle.column_mapping.specs.Steps.{carried}
use Rattle.column_mapping.proofs.places.find_named.Given as goal

abbrev pub invariant-loop-at : goal.invariant-loop-at
invariant-loop-at l = l.found ≡ carried (carriers (is_named (Some l.name)) (take l.at l.leaf-items))
