use Rattle.std.proofs.Common.{arith}
use Rattle.std.proofs.lemmas.Result.{on_ok_weaker}
use Rattle.level_runs.proofs.Cutting.{packed_written}
use Rattle.level_runs.proofs.writing.push_packed.Goals as goal

pub returns : goal.returns
returns c =
    on_ok_weaker c.pack.result (λ packed. packed_written c.args.width c.args.groups c.args.numbers.now c.args.out.now c.push_varint.new.out c.pack.new.out (omega arith) c.in_ok-push_varint.ensures packed) c.pack.ensures
