use Rattle.std.proofs.Common.{take}
use Rattle.column_mapping.specs.Steps.{KeepsById}
use Rattle.column_mapping.proofs.carriers.ids.Given as goal

abbrev pub invariant-loop-at : goal.invariant-loop-at
invariant-loop-at l = KeepsById l.places (take l.at l.leaves)
