use Rattle.std.proofs.Common.{◌≡◌, ◌++◌, drop}
use Rattle.table_make.specs.NewProperties.{checks_of}
use Rattle.table_make.proofs.configuration.push_checks.Given as goal

abbrev pub invariant-loop-element : goal.invariant-loop-element
invariant-loop-element l = l.fn.pairs ++ checks_of l.elements ≡ l.pairs ++ checks_of (drop l.element-index l.elements)
