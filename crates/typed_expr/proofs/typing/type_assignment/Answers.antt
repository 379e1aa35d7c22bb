use Rattle.std.proofs.Common.{◌≡◌}
use Rattle.typed_expr.specs.Forms.{as_kind}
use Rattle.typed_expr.specs.Kinds.{kind_of}
use Rattle.typed_expr.specs.Tables.{assignable}
use Rattle.typed_expr.proofs.Answered.{passes, passes_so, accepts, tells_tested}
use Rattle.typed_expr.proofs.FormTypes.{cast_kind}
use Rattle.typed_expr.proofs.Fitting.{assigned_fits}
use Rattle.typed_expr.proofs.typing.type_assignment.Goals as goal

pub returns-clause-has_type : goal.returns-clause-has_type
returns-clause-has_type c = passes _ c.args.expr.now (λ from. assignable from c.args.kind.now) 6 (as_kind c.args.kind.now) _ c.assigned.ensures

pub returns-clause-accepts : goal.returns-clause-accepts
returns-clause-accepts c = accepts _ c.args.expr.now (λ from. assignable from c.args.kind.now) 6 (as_kind c.args.kind.now) _ c.assigned.ensures

pub returns-clause-of_kind : goal.returns-clause-of_kind
returns-clause-of_kind c =
    passes_so _ c.args.expr.now (λ from. assignable from c.args.kind.now) 6 (as_kind c.args.kind.now) (λ tree. kind_of tree ≡ c.args.kind.now) (λ tree e h. cast_kind c.args.kind.now tree) _ c.assigned.ensures

pub returns-clause-soonest : goal.returns-clause-soonest
returns-clause-soonest c = tells_tested _ c.args.expr.now (λ from. assignable from c.args.kind.now) 6 (as_kind c.args.kind.now) _ c.assigned.ensures

pub returns-clause-fits : goal.returns-clause-fits
returns-clause-fits c = λ formed good.
    assigned_fits c.args.scope.now c.what_reads_is_in_range.ensures formed c.args.expr.now c.args.kind.now good _ c.assigned.ensures
