use Rattle.table_make.proofs.Mapped.{good_mapping}
use Rattle.table_make.proofs.laws.created_mapping_is_good.Goals as goal

pub returns : goal.returns
returns c = good_mapping
