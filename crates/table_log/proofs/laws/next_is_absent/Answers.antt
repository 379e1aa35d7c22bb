use Rattle.table_log.proofs.Frames as frames
use Rattle.table_log.proofs.laws.next_is_absent.Goals as goal

pub returns : goal.returns
returns c = frames.next_is_absent
