use Rattle.std.proofs.Common.{◌≡◌, ◌+◌, ◌*◌, max, map, drop}
use Rattle.sql_tree.specs.declared.tree.Expr.TheViews.{size-Expr, weight-Expr-In-4, weight-Expr-Case-2, weight-Expr-Case-3}
use Rattle.std.specs.List.{fold}
use Rattle.typed_expr.specs.Rules.{collected, all}
use Rattle.typed_expr.specs.Typing.{typing}
use Rattle.typed_expr.specs.Steps.{typed_branch}
use Rattle.typed_expr.proofs.typing.+judge.Given as goal

abbrev pub invariant-all-loop-part : goal.invariant-all-loop-part
invariant-all-loop-part l =
    fold collected l.found (map (typing l.scope) (drop l.part-index l.parts)) ≡ all (map (typing l.scope) l.parts)

abbrev pub invariant-all_branches-loop-next : goal.invariant-all_branches-loop-next
invariant-all_branches-loop-next l =
    fold collected l.found (map (typed_branch l.scope) (drop l.next-index l.branches))
    ≡ all (map (typed_branch l.scope) l.branches)

-- Of what a call is given, the deepest part; and the rank of the function among those that pass parts on.
abbrev pub decreases-judge : goal.decreases-judge
decreases-judge l = 8 * size-Expr l.expr.now

abbrev pub decreases-pair : goal.decreases-pair
decreases-pair l = 8 * max (size-Expr l.left.now) (size-Expr l.right.now) + 1

abbrev pub decreases-three : goal.decreases-three
decreases-three l = 8 * max (size-Expr l.operand.now) (max (size-Expr l.low.now) (size-Expr l.high.now)) + 2

abbrev pub decreases-all : goal.decreases-all
decreases-all l = 8 * weight-Expr-In-4 l.parts.now + 1

abbrev pub decreases-with_list : goal.decreases-with_list
decreases-with_list l = 8 * max (size-Expr l.operand.now) (weight-Expr-In-4 l.items.now) + 2

abbrev pub decreases-branch : goal.decreases-branch
decreases-branch l = 8 * max (size-Expr l.branch.now.0) (size-Expr l.branch.now.1) + 2

abbrev pub decreases-all_branches : goal.decreases-all_branches
decreases-all_branches l = 8 * weight-Expr-Case-2 l.branches.now + 3

abbrev pub decreases-last : goal.decreases-last
decreases-last l = 8 * weight-Expr-Case-3 l.otherwise.now + 1

abbrev pub decreases-parts_of_case : goal.decreases-parts_of_case
decreases-parts_of_case l = 8 * max (weight-Expr-Case-2 l.branches.now) (weight-Expr-Case-3 l.otherwise.now) + 4

abbrev pub decreases-unary_form : goal.decreases-unary_form
decreases-unary_form l = 8 * size-Expr l.operand.now + 6

abbrev pub decreases-binary_form : goal.decreases-binary_form
decreases-binary_form l = 8 * max (size-Expr l.left.now) (size-Expr l.right.now) + 6

abbrev pub decreases-is_form : goal.decreases-is_form
decreases-is_form l = 8 * size-Expr l.operand.now + 6

abbrev pub decreases-between_form : goal.decreases-between_form
decreases-between_form l = 8 * max (size-Expr l.operand.now) (max (size-Expr l.low.now) (size-Expr l.high.now)) + 6

abbrev pub decreases-in_form : goal.decreases-in_form
decreases-in_form l = 8 * max (size-Expr l.operand.now) (weight-Expr-In-4 l.items.now) + 6

abbrev pub decreases-case_form : goal.decreases-case_form
decreases-case_form l = 8 * max (weight-Expr-Case-2 l.branches.now) (weight-Expr-Case-3 l.otherwise.now) + 6

abbrev pub decreases-cast_form : goal.decreases-cast_form
decreases-cast_form l = 8 * size-Expr l.operand.now + 6

abbrev pub decreases-call_form : goal.decreases-call_form
decreases-call_form l = 8 * weight-Expr-In-4 l.arguments.now + 6
