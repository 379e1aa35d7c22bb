use Rattle.table_load.proofs.Frames.{beside_next, elsewhere}
use Rattle.table_load.proofs.laws.next_version_keeps_states.Goals as goal

pub returns-clause-beside : goal.returns-clause-beside
returns-clause-beside c = beside_next c.next_version_stands_alone.ensures

pub returns-clause-elsewhere : goal.returns-clause-elsewhere
returns-clause-elsewhere c = elsewhere c.next_version_stands_alone.ensures
