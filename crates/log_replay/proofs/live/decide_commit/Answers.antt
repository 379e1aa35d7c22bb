use Rattle.log_replay.proofs.Deciding.{seen_commit}
use Rattle.log_replay.proofs.live.decide_commit.Goals as goal

pub returns-clause-seen : goal.returns-clause-seen
returns-clause-seen g c = seen_commit _ _ _ c.args.commit.now c.in_ok-decide_adds.ensures.seen c.in_ok-decide_removes.ensures.seen
