use Rattle.std.proofs.Common.{rules, Ok, Err}
use Rattle.table_features.specs.declared.checks.FeatureFault.TheVariants as fault
use Rattle.table_features.proofs.Named.{reading_named}
use Rattle.table_features.proofs.checks.check_read.Goals as goal

pub returns-in-Some-clause-named : goal.returns-in-Some-clause-named
returns-in-Some-clause-named c = reading_named c.args.protocol.now (Err (fault.Reader c.in-Some.index)) (search rules)

pub returns-in-None-clause-named : goal.returns-in-None-clause-named
returns-in-None-clause-named c = reading_named c.args.protocol.now (Ok tt) (search rules)

pub returns-in-1-clause-named : goal.returns-in-1-clause-named
returns-in-1-clause-named c = reading_named c.args.protocol.now (Ok tt) (search rules)

pub returns-in_default-clause-named : goal.returns-in_default-clause-named
returns-in_default-clause-named c = reading_named c.args.protocol.now (Err fault.Numbers) (search rules)

pub returns-in_default-2-clause-named : goal.returns-in_default-2-clause-named
returns-in_default-2-clause-named c = reading_named c.args.protocol.now (Err fault.Numbers) (search rules)
