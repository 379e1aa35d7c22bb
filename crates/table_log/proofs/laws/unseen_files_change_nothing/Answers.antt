use Rattle.table_log.proofs.Frames as frames
use Rattle.table_log.proofs.laws.unseen_files_change_nothing.Goals as goal

pub returns : goal.returns
returns c = frames.frame_unseen
