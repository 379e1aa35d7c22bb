use Rattle.log_replay.specs.Live.{AreNumbered}
use Rattle.log_tests.proofs.tests.replayed.log_of.Goals as goal

pub loop-text-init : goal.loop-text-init
unfolding AreNumbered
loop-text-init c = rw c.new-commits.ensures tt
