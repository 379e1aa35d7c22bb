use Rattle.std.proofs.Common.{◌≡◌, ◌++◌, ◌∷◌, []}
use Rattle.log_replay.proofs.Deciding.{commits_begin, commits_step, commits_end, numbers_step}
use Rattle.log_replay.proofs.live.decide_all.Goals as goal

pub loop-commit-init : goal.loop-commit-init
loop-commit-init g c = record { numbered = c.requires; live = commits_begin g.T.Kept.kept c.new.result.keys c.new-2.result c.args.commits.now c.new.ensures.empty c.new-2.ensures }

pub loop-commit-preserved : goal.loop-commit-preserved
loop-commit-preserved g c =
    let split : c.loop-commit.rest.now ≡ c.in-Some.earlier.now ++ c.in-Some.commit.now ∷ [] = c.in-Some.ensures.cases.0 in
    let same : c.as_slice.result.now ≡ c.in-Some.commit.now.actions = c.as_slice.ensures in
    let done = rw same at c.in_ok-decide_commit.ensures in
    record {
      numbered = numbers_step c.loop-commit.rest.now c.in-Some.earlier.now c.in-Some.commit.now c.loop-commit.invariant.numbered split;
      live = commits_step g.T.Kept.kept c.loop-commit.newest.decided.keys c.decide_commit.new.newest.decided.keys c.loop-commit.newest.kept c.decide_commit.new.newest.kept _ c.loop-commit.rest.now c.in-Some.earlier.now c.in-Some.commit.now c.loop-commit.invariant.numbered split done.seen done.live c.loop-commit.invariant.live;
    }

pub returns : goal.returns
returns g c = commits_end g.T.Kept.kept c.loop-commit.newest.decided.keys c.loop-commit.newest.kept _ c.loop-commit.rest.now c.in_default.ensures.cases c.loop-commit.invariant.live
