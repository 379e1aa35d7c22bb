use Rattle.log_replay.proofs.Growing.{all_removed}
use Rattle.log_replay.proofs.laws.removal_of_all.Goals as goal

pub returns : goal.returns
returns c = all_removed
