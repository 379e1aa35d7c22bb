use Rattle.std.proofs.Common.{rules}
use Rattle.vector_eval.proofs.Exact.{counted_is}
use Rattle.vector_eval.proofs.numbers.negated.Goals as goal

pub returns-in-Some : goal.returns-in-Some
returns-in-Some c =
    let h = counted_is c.args.kind.now _ _ c.checked_neg.ensures in
    search (rules, h)
