use Rattle.std.proofs.Common.{rules}
use Rattle.log_tests.proofs.Apart.{apart}
use Rattle.log_tests.proofs.tests.put.version_0.Goals as goal

pub returns : goal.returns
returns c = apart 0 _ _ _ (search rules) (search rules)
