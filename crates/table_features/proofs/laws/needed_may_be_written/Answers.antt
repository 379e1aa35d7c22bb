use Rattle.table_features.proofs.Needs.{may_be_written}
use Rattle.table_features.proofs.laws.needed_may_be_written.Goals as goal

pub returns : goal.returns
returns c = λ schema configuration protocol version names. may_be_written schema configuration protocol version names
