use Rattle.std.proofs.Common.{◌≡◌}
use Rattle.identity_columns.specs.Values.{next_values as next_values_of}
use Rattle.identity_columns.proofs.values.values.Given as goal

abbrev pub invariant-loop-index : goal.invariant-loop-index
invariant-loop-index l = l.values ≡ next_values_of l.rule l.index
