use Rattle.std.proofs.Common.{rules, ◌≡◌, ◌∙◌, sym, None, append-nil}
use Rattle.log_replay.proofs.Deciding.{decides_new, decides_before}
use Rattle.log_replay.proofs.live.decide_removed.Goals as goal

pub returns-in_ok-insert : goal.returns-in_ok-insert
returns-in_ok-insert g c =
    let same : c.in_ok-clone.field-0 ≡ c.args.path.now = search rules in
    decides_new c.args.newest.now.decided.keys c.insert.new.self.keys c.args.newest.now.kept c.args.newest.now.kept c.args.path.now c.in_ok-clone.field-0 None (sym c.contains.ensures ∙ c.if-not-contains.true) same c.in_ok-insert.ensures.updates.0 (sym (append-nil c.args.newest.now.kept))

pub returns-else-not-contains : goal.returns-else-not-contains
returns-else-not-contains g c =
    decides_before c.args.newest.now.decided.keys c.args.newest.now.kept c.args.path.now None (sym c.contains.ensures ∙ c.if-not-contains.false)
