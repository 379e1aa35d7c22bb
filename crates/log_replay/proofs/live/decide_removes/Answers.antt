use Rattle.std.proofs.Common.{rules, ◌∙◌}
use Rattle.log_replay.specs.StepsLive.{DecidesRemove, removed}
use Rattle.log_replay.proofs.Deciding.{removes_step, live-remove}
use Rattle.log_replay.proofs.live.decide_removes.Goals as goal

pub loop-action-preserved : goal.loop-action-preserved
loop-action-preserved g c =
    let step : DecidesRemove c.loop-action.newest.decided.keys c.decide_remove.new.newest.decided.keys c.loop-action.newest.kept c.decide_remove.new.newest.kept (removed c.action-item.result) = search rules in
    record {
      seen = removes_step c.loop-action.newest.decided.keys c.decide_remove.new.newest.decided.keys c.args.newest.now.decided.keys c.loop-action.newest.kept c.decide_remove.new.newest.kept c.args.commit.now c.action-item.result c.loop-action.action-index (search rules) (search rules) step c.loop-action.invariant.seen;
      live = live-remove c.loop-action.newest.decided.keys c.decide_remove.new.newest.decided.keys c.loop-action.newest.kept c.decide_remove.new.newest.kept (removed c.action-item.result) step ∙ c.loop-action.invariant.live;
    }
