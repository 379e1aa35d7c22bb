use Rattle.std.proofs.Common.{◌≡◌, ◌++◌}
use Rattle.table_make.proofs.configuration.entries.Given as goal

abbrev pub invariant-loop-entry : goal.invariant-loop-entry
invariant-loop-entry l = l.pairs ++ l.entry-iterator ≡ l.fn.map.entries
