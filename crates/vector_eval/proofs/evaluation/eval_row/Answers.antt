use Rattle.std.proofs.Common.{subst}
use Rattle.std.specs.Prelude.{IfOk, Result, Ok, Err}
use Rattle.dm_types.specs.Ranges.{IsNullOrInRange}
use Rattle.dm_types.specs.declared.value.Value.{Value}
use Rattle.typed_expr.specs.Kinds.{kind_of}
use Rattle.vector_eval.specs.Outcomes.{Evaluated, Answers}
use Rattle.vector_eval.specs.Values.{value_of}
use Rattle.vector_eval.specs.declared.fault.EvalFault.{EvalFault}
use Rattle.vector_eval.proofs.InRange.{held}
use Rattle.vector_eval.proofs.evaluation.eval_row.Goals as goal

answered : (P : Value → Type 0) (outcome : Evaluated) (r : Result Value EvalFault) → Answers outcome r → IfOk outcome P → IfOk r P
answered P outcome (Ok v) a h = subst (λ z. IfOk z P) a h
answered P outcome (Err e) a h = tt

pub returns-clause-range : goal.returns-clause-range
returns-clause-range c = λ kinds fits row.
    answered (IsNullOrInRange (kind_of c.args.expr.now)) (value_of c.args.expr.now c.args.row.now) _ (subst (λ z. Answers (value_of c.args.expr.now z) c.evaluate.result) c.as_slice.ensures c.evaluate.ensures)
    (held kinds c.args.row.now IsNullOrInRange (λ k x h. h) row c.what_reads_is_in_range.ensures c.args.expr.now fits)
