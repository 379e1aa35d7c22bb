use Rattle.table_load.proofs.Frames.{beside_first}
use Rattle.table_load.proofs.laws.first_version_keeps_states.Goals as goal

pub returns : goal.returns
returns c = beside_first c.first_version_stands_alone.ensures
