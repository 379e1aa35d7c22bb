use Rattle.typed_expr.proofs.Unrolled.{in_answers, case_answers, cast_answers, call_answers}
use Rattle.typed_expr.proofs.typing.+judge.Goals as goal

pub judge-returns-in-In : goal.judge-returns-in-In
judge-returns-in-In t c = in_answers _ _ _ c.in-In.is c.get-in-In.ensures c.as_slice.ensures c.in_form.ensures

pub judge-returns-in-Case : goal.judge-returns-in-Case
judge-returns-in-Case t c = case_answers _ _ _ c.in-Case.otherwise c.in-Case.is c.as_slice-in-Case.ensures c.case_form.ensures

pub judge-returns-in-Cast : goal.judge-returns-in-Cast
judge-returns-in-Cast t c = cast_answers _ _ _ c.in-Cast.is c.get-in-Cast.ensures c.cast_form.ensures

pub judge-returns-in-Call : goal.judge-returns-in-Call
judge-returns-in-Call t c = call_answers _ _ _ c.in-Call.is c.as_slice-in-Call.ensures c.call_form.ensures
