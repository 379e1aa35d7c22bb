use Rattle.log_replay.specs.Live.{AreNumbered}
use Rattle.log_tests.proofs.tests.replayed.random_log.Goals as goal

pub loop-init : goal.loop-init
unfolding AreNumbered
loop-init c = rw c.new-commits.ensures tt
