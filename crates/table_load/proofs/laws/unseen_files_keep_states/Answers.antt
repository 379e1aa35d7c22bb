use Rattle.table_load.proofs.Frames.{by_unseen}
use Rattle.table_load.proofs.laws.unseen_files_keep_states.Goals as goal

pub returns : goal.returns
returns c = by_unseen c.unseen_files_change_nothing.ensures
