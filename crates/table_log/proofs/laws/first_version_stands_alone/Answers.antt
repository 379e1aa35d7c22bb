use Rattle.table_log.proofs.Frames as frames
use Rattle.table_log.proofs.laws.first_version_stands_alone.Goals as goal

pub returns : goal.returns
returns c = frames.frame_first
