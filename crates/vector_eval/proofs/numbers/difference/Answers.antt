use Rattle.std.proofs.Common.{rules}
use Rattle.vector_eval.proofs.Exact.{counted_is}
use Rattle.vector_eval.proofs.numbers.difference.Goals as goal

pub returns : goal.returns
returns c =
    let h = counted_is c.args.kind.now _ _ c.checked_sub.ensures in
    search (rules, h)
