use Rattle.row_tracking.proofs.FreeOrder.{moved_by_id}
use Rattle.row_tracking.proofs.laws.ids_decide.Goals as goal

pub returns : goal.returns
returns c = λ rows others moved distinct of_others. moved_by_id rows others moved distinct of_others
