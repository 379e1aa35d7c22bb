use Rattle.std.proofs.Common.{rules, ◌≡◌, ◌++◌, ◌∷◌, []}
use Rattle.log_replay.specs.Live.{added}
use Rattle.log_replay.specs.StepsLive.{DecidesAdd}
use Rattle.log_replay.proofs.Deciding.{adds_step, lives_step, lives_end}
use Rattle.log_replay.proofs.live.decide_adds.Goals as goal

pub loop-action-preserved : goal.loop-action-preserved
loop-action-preserved g c =
    let split : c.loop-action.rest.now ≡ c.in-Some.earlier.now ++ c.in-Some.action.now ∷ [] = c.in-Some.ensures.cases.0 in
    let step : DecidesAdd g.T.Kept.kept c.loop-action.newest.decided.keys c.decide_add.new.newest.decided.keys c.loop-action.newest.kept c.decide_add.new.newest.kept (added c.in-Some.action.now) = search rules in
    record {
      seen = adds_step g.T.Kept.kept c.loop-action.newest.decided.keys c.decide_add.new.newest.decided.keys c.args.newest.now.decided.keys c.loop-action.newest.kept c.decide_add.new.newest.kept c.args.commit.now c.loop-action.rest.now c.in-Some.earlier.now c.in-Some.action.now split step c.loop-action.invariant.seen;
      live = lives_step g.T.Kept.kept c.loop-action.newest.decided.keys c.decide_add.new.newest.decided.keys c.loop-action.newest.kept c.decide_add.new.newest.kept _ c.loop-action.rest.now c.in-Some.earlier.now c.in-Some.action.now split step c.loop-action.invariant.live;
    }

pub returns-clause-live : goal.returns-clause-live
returns-clause-live g c = lives_end g.T.Kept.kept c.loop-action.newest.decided.keys c.loop-action.newest.kept _ c.loop-action.rest.now c.in_default.ensures.cases c.loop-action.invariant.live
