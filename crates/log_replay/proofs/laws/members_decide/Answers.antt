use Rattle.log_replay.proofs.Counting.{newest-same}
use Rattle.log_replay.proofs.laws.members_decide.Goals as goal

pub returns : goal.returns
returns c = newest-same
