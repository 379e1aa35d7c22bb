use Rattle.std.proofs.Common.{rules, refl, [], ◌∷◌, ◌++◌, length, ◌≡◌}
use Rattle.log_replay.specs.Live.{numbered}
use Rattle.log_replay.proofs.Numbered.{numbers_grow}
use Rattle.log_replay.proofs.commits.push_commit.Goals as goal

pub returns-clause-numbers : goal.returns-clause-numbers
returns-clause-numbers c =
    let pushed : c.push.new.self ≡ c.args.commits.now ++ numbered (length c.args.commits.now) c.args.actions ∷ [] = search rules in
    rw pushed (numbers_grow c.args.commits.now (numbered (length c.args.commits.now) c.args.actions) c.requires refl)
