use Rattle.std.proofs.Common.{◌≡◌, ◌++◌, length, map}
use Rattle.std.specs.Prelude.{reverse}
use Rattle.log_replay.specs.Live.{AreNumbered, live_adds}
use Rattle.log_replay.specs.StepsLive.{undecided}
use Rattle.log_replay.proofs.live.decide_all.Given as goal

abbrev pub invariant-loop-commit : goal.invariant-loop-commit
invariant-loop-commit g l = record {
  numbered : AreNumbered 0 l.rest;
  live : map g.T.Kept.kept (undecided l.newest.decided.keys (live_adds l.rest)) ++ reverse l.newest.kept ≡ map g.T.Kept.kept (live_adds l.commits);
}

abbrev pub decreases-loop-commit : goal.decreases-loop-commit
decreases-loop-commit g l = length l.rest
