use Rattle.std.proofs.Common.{◌≡◌, ◌||◌, ℕ, List, drop}
use Rattle.log_replay.specs.Changes.{removes}
use Rattle.log_replay.specs.StepsLive.{is_decided}
use Rattle.log_replay.proofs.live.decide_removes.Given as goal

abbrev pub invariant-loop-action : goal.invariant-loop-action
invariant-loop-action g l = record {
  seen : (path : List ℕ) → (is_decided l.newest.decided.keys path || removes (drop l.action-index l.commit) path) ≡ (is_decided l.fn.newest.decided.keys path || removes l.commit path);
  live : l.newest.kept ≡ l.fn.newest.kept;
}
