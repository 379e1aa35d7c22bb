use Rattle.log_replay.proofs.Numbered.{numbers_grow}
use Rattle.log_replay.proofs.Growing.{live_grows}
use Rattle.log_replay.proofs.laws.live_after_commit.Goals as goal

pub returns-clause-numbers : goal.returns-clause-numbers
returns-clause-numbers c = numbers_grow

pub returns-clause-live : goal.returns-clause-live
returns-clause-live c = live_grows
