use Rattle.std.proofs.lemmas.Result.{on_ok_weaker}
use Rattle.level_runs.proofs.Filling.{next_byte}
use Rattle.level_runs.proofs.varint.+push_varint.Goals as goal

pub returns : goal.returns
returns t c =
    on_ok_weaker c.push_varint.result (λ behind. next_byte c.args.out.now c.push-2.new.self c.push_varint.new.out c.args.number c.if-number-lt128.false c.in_ok-push.ensures.ok behind)
    c.push_varint.ensures
