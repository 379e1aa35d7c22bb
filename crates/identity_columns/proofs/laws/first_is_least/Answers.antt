use Rattle.identity_columns.proofs.Places.{first-is}
use Rattle.identity_columns.proofs.laws.first_is_least.Goals as goal

pub returns : goal.returns
returns c = λ rule other. first-is rule other
