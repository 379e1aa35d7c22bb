use Rattle.table_log.proofs.Frames as frames
use Rattle.table_log.proofs.laws.says_first.Goals as goal

pub returns : goal.returns
returns c = frames.says_first
