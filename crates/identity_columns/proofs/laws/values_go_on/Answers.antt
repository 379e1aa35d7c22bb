use Rattle.identity_columns.proofs.Places.{goes-on}
use Rattle.identity_columns.proofs.laws.values_go_on.Goals as goal

pub returns : goal.returns
returns c = λ rule some more other there. goes-on rule some more other there
