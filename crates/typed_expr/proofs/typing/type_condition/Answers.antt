use Rattle.typed_expr.specs.Tables.{is_condition}
use Rattle.typed_expr.specs.Typing.{conjuncts}
use Rattle.typed_expr.proofs.Answered.{passes, passes_so, accepts, tells_tested}
use Rattle.typed_expr.proofs.Conjuncts.{AreConditions, are_conditions}
use Rattle.typed_expr.proofs.Fitting.{condition_fits}
use Rattle.typed_expr.proofs.typing.type_condition.Goals as goal

pub returns-clause-has_type : goal.returns-clause-has_type
returns-clause-has_type c = passes _ c.args.expr.now is_condition 5 (conjuncts c.args.expr.now) _ c.condition.ensures

pub returns-clause-accepts : goal.returns-clause-accepts
returns-clause-accepts c = accepts _ c.args.expr.now is_condition 5 (conjuncts c.args.expr.now) _ c.condition.ensures

pub returns-clause-conditions : goal.returns-clause-conditions
returns-clause-conditions c =
    passes_so _ c.args.expr.now is_condition 5 (conjuncts c.args.expr.now) AreConditions (are_conditions c.args.scope.now c.args.expr.now) _ c.condition.ensures

pub returns-clause-soonest : goal.returns-clause-soonest
returns-clause-soonest c = tells_tested _ c.args.expr.now is_condition 5 (conjuncts c.args.expr.now) _ c.condition.ensures

pub returns-clause-fits : goal.returns-clause-fits
returns-clause-fits c = λ formed.
    condition_fits c.args.scope.now c.what_reads_is_in_range.ensures formed c.args.expr.now _ c.condition.ensures
