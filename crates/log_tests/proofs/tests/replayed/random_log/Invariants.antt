use Rattle.log_replay.specs.Live.{AreNumbered}
use Rattle.log_tests.proofs.tests.replayed.random_log.Given as goal

abbrev pub invariant-loop : goal.invariant-loop
invariant-loop l = AreNumbered 0 l.commits
