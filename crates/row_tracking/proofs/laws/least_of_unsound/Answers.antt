use Rattle.row_tracking.proofs.LeastId.{least_failing_is}
use Rattle.row_tracking.proofs.laws.least_of_unsound.Goals as goal

pub returns : goal.returns
returns c = λ rows mark version. least_failing_is rows mark version
