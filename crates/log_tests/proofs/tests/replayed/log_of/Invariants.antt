use Rattle.log_replay.specs.Live.{AreNumbered}
use Rattle.log_tests.proofs.tests.replayed.log_of.Given as goal

abbrev pub invariant-loop-text : goal.invariant-loop-text
invariant-loop-text l = AreNumbered 0 l.commits
