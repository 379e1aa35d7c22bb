use Rattle.table_make.proofs.Said.{said}
use Rattle.table_make.proofs.laws.created_has_properties.Goals as goal

pub returns : goal.returns
returns c = said
