use Rattle.std.proofs.Common.{◌≡◌, ◌++◌, drop}
use Rattle.table_make.specs.NewProperties.{given}
use Rattle.table_make.proofs.configuration.given.Given as goal

abbrev pub invariant-loop-property : goal.invariant-loop-property
invariant-loop-property l = given l.properties ≡ l.pairs ++ given (drop l.property-index l.properties)
