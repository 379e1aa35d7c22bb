use Rattle.row_tracking.proofs.LeastId.{least_failing_moved}
use Rattle.row_tracking.proofs.laws.order_is_free.Goals as goal

pub returns : goal.returns
returns c = λ rows others mark version moved. least_failing_moved rows others mark version moved
