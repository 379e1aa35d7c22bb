use Rattle.std.proofs.Common.{sym, subst}
use Rattle.typed_expr.specs.Fits.{Fits}
use Rattle.evaluation_tests.proofs.batches.agreeing_of.Goals as goal

pub evaluated-requires : goal.evaluated-requires
evaluated-requires c = subst (λ kinds. Fits kinds c.in-Ok-type_expr.tree) (sym c.requires.kinds) (c.in-Ok-type_expr.ensures.fits c.requires.formed)
