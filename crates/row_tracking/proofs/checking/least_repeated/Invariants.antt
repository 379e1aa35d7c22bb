use Rattle.row_tracking.proofs.Neighbours.{AreApart}
use Rattle.row_tracking.proofs.checking.least_repeated.Given as goal

abbrev pub invariant-loop-place : goal.invariant-loop-place
invariant-loop-place l = AreApart l.sorted l.place
