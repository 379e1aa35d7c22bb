use Rattle.table_log.proofs.Frames as frames
use Rattle.table_log.proofs.laws.first_is_absent.Goals as goal

pub returns : goal.returns
returns c = frames.first_is_absent
