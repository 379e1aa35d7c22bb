use Rattle.std.proofs.Common.{rules, ◌≡◌, ◌++◌, ◌∷◌, [], ◌∙◌, sym, Some}
use Rattle.log_replay.proofs.Deciding.{decides_new, decides_before}
use Rattle.log_replay.proofs.live.decide_added.Goals as goal

pub returns-in_ok-push : goal.returns-in_ok-push
returns-in_ok-push g c =
    let same : c.in_ok-clone.field-0 ≡ c.args.add.now.path = search rules in
    let grown : c.push.new.self ≡ c.args.newest.now.kept ++ g.T.Kept.kept c.args.add.now ∷ [] = search rules in
    decides_new c.args.newest.now.decided.keys c.insert.new.self.keys c.args.newest.now.kept c.push.new.self c.args.add.now.path c.in_ok-clone.field-0 (Some (g.T.Kept.kept c.args.add.now)) (sym c.contains.ensures ∙ c.if-not-contains.true) same c.in_ok-insert.ensures.updates.0 grown

pub returns-else-not-contains : goal.returns-else-not-contains
returns-else-not-contains g c =
    decides_before c.args.newest.now.decided.keys c.args.newest.now.kept c.args.add.now.path (Some (g.T.Kept.kept c.args.add.now)) (sym c.contains.ensures ∙ c.if-not-contains.false)
