use Rattle.table_features.proofs.Needs.{in_order}
use Rattle.table_features.proofs.laws.needed_in_byte_order.Goals as goal

pub returns : goal.returns
returns c = λ schema configuration. in_order schema configuration
