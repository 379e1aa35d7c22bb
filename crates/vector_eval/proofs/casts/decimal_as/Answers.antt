use Rattle.std.proofs.Common.{sym}
use Rattle.vector_eval.proofs.Exact.{fixed_past}
use Rattle.vector_eval.proofs.casts.decimal_as.Goals as goal

pub returns-in-None : goal.returns-in-None
returns-in-None c = sym (fixed_past c.args.precision c.args.scale _ c.in-None.ensures)
