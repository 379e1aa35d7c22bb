use Rattle.std.proofs.Common.{◌≡◌, ◌++◌, ◌||◌, ℕ, List, length, map}
use Rattle.std.specs.Prelude.{reverse}
use Rattle.log_replay.specs.Changes.{adds, last_adds}
use Rattle.log_replay.specs.StepsLive.{is_decided, undecided}
use Rattle.log_replay.proofs.live.decide_adds.Given as goal

abbrev pub invariant-loop-action : goal.invariant-loop-action
invariant-loop-action g l = record {
  seen : (path : List ℕ) → (is_decided l.newest.decided.keys path || adds l.rest path) ≡ (is_decided l.fn.newest.decided.keys path || adds l.commit path);
  live : map g.T.Kept.kept (undecided l.newest.decided.keys (last_adds l.rest)) ++ reverse l.newest.kept ≡ map g.T.Kept.kept (undecided l.fn.newest.decided.keys (last_adds l.commit)) ++ reverse l.fn.newest.kept;
}

abbrev pub decreases-loop-action : goal.decreases-loop-action
decreases-loop-action g l = length l.rest
