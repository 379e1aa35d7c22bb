use Rattle.row_tracking.proofs.FreeOrder.{stays_without_ids}
use Rattle.row_tracking.proofs.laws.unnumbered_stay.Goals as goal

pub returns : goal.returns
returns c = λ rows none. stays_without_ids rows none
