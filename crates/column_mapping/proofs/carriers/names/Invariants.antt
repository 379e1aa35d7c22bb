use Rattle.std.proofs.Common.{take}
use Rattle.column_mapping.specs.Steps.{KeepsByName}
use Rattle.column_mapping.proofs.carriers.names.Given as goal

abbrev pub invariant-loop-at : goal.invariant-loop-at
invariant-loop-at l = KeepsByName l.places (take l.at l.leaves)
