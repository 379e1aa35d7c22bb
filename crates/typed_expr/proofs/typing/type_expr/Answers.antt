use Rattle.typed_expr.proofs.Answered.{has_type, one_type, tells}
use Rattle.typed_expr.proofs.Fitting.{tree_fits}
use Rattle.typed_expr.proofs.typing.type_expr.Goals as goal

pub returns-clause-has_type : goal.returns-clause-has_type
returns-clause-has_type c = has_type _ _ _ c.judge.ensures

pub returns-clause-one_type : goal.returns-clause-one_type
returns-clause-one_type c = one_type _ _ _ c.judge.ensures

pub returns-clause-soonest : goal.returns-clause-soonest
returns-clause-soonest c = tells _ _ _ c.judge.ensures

pub returns-clause-fits : goal.returns-clause-fits
returns-clause-fits c = λ formed. tree_fits c.args.scope.now c.what_reads_is_in_range.ensures formed c.args.expr.now _ c.judge.ensures
