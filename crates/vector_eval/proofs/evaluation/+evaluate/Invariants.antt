use Rattle.std.proofs.Common.{◌≡◌, ◌+◌, ◌*◌, max, map, drop, false}
use Rattle.std.specs.Prelude.{option_map}
use Rattle.dm_types.specs.declared.value.Value.TheVariants.{Bool}
use Rattle.typed_expr.specs.declared.tree.TypedExpr.TheViews.{size-TypedExpr, weight-TypedExpr-In-1, weight-TypedExpr-Case-1, weight-TypedExpr-Case-2}
use Rattle.vector_eval.specs.Steps.{branch_of, line}
use Rattle.vector_eval.specs.Values.{value_of, among, chosen, first_known}
use Rattle.vector_eval.proofs.evaluation.+evaluate.Given as goal

abbrev pub invariant-among-loop-item : goal.invariant-among-loop-item
invariant-among-loop-item l =
    among l.value (Bool false) (map value_of l.items) (line l.row) ≡ among l.value l.found (map value_of (drop l.item-index l.items)) (line l.row)

abbrev pub invariant-case_form-loop-branch : goal.invariant-case_form-loop-branch
invariant-case_form-loop-branch l =
    chosen (map branch_of l.branches) (option_map value_of l.otherwise) (line l.row)
    ≡ chosen (map branch_of (drop l.branch-index l.branches)) (option_map value_of l.otherwise) (line l.row)

abbrev pub invariant-coalesce_form-loop-argument : goal.invariant-coalesce_form-loop-argument
invariant-coalesce_form-loop-argument l =
    first_known (map value_of l.arguments) (line l.row) ≡ first_known (map value_of (drop l.argument-index l.arguments)) (line l.row)

-- Of what a call is given, the deepest part; and the rank of the function among those that pass parts on.
abbrev pub decreases-evaluate : goal.decreases-evaluate
decreases-evaluate l = 8 * size-TypedExpr l.expr.now

abbrev pub decreases-lent : goal.decreases-lent
decreases-lent l = 8 * size-TypedExpr l.expr.now + 1

abbrev pub decreases-negate_form : goal.decreases-negate_form
decreases-negate_form l = 8 * size-TypedExpr l.operand.now + 6

abbrev pub decreases-not_form : goal.decreases-not_form
decreases-not_form l = 8 * size-TypedExpr l.operand.now + 6

abbrev pub decreases-binary_form : goal.decreases-binary_form
decreases-binary_form l = 8 * max (size-TypedExpr l.left.now) (size-TypedExpr l.right.now) + 6

abbrev pub decreases-same_form : goal.decreases-same_form
decreases-same_form l = 8 * max (size-TypedExpr l.left.now) (size-TypedExpr l.right.now) + 6

abbrev pub decreases-and_form : goal.decreases-and_form
decreases-and_form l = 8 * max (size-TypedExpr l.left.now) (size-TypedExpr l.right.now) + 6

abbrev pub decreases-or_form : goal.decreases-or_form
decreases-or_form l = 8 * max (size-TypedExpr l.left.now) (size-TypedExpr l.right.now) + 6

abbrev pub decreases-concat_form : goal.decreases-concat_form
decreases-concat_form l = 8 * max (size-TypedExpr l.left.now) (size-TypedExpr l.right.now) + 6

abbrev pub decreases-is_form : goal.decreases-is_form
decreases-is_form l = 8 * size-TypedExpr l.operand.now + 6

abbrev pub decreases-upper_form : goal.decreases-upper_form
decreases-upper_form l = 8 * size-TypedExpr l.high.now + 3

abbrev pub decreases-between_form : goal.decreases-between_form
decreases-between_form l = 8 * max (size-TypedExpr l.operand.now) (max (size-TypedExpr l.low.now) (size-TypedExpr l.high.now)) + 6

abbrev pub decreases-among : goal.decreases-among
decreases-among l = 8 * weight-TypedExpr-In-1 l.items.now + 3

abbrev pub decreases-in_form : goal.decreases-in_form
decreases-in_form l = 8 * max (size-TypedExpr l.operand.now) (weight-TypedExpr-In-1 l.items.now) + 6

abbrev pub decreases-last : goal.decreases-last
decreases-last l = 8 * weight-TypedExpr-Case-2 l.otherwise.now + 3

abbrev pub decreases-case_form : goal.decreases-case_form
decreases-case_form l = 8 * max (weight-TypedExpr-Case-1 l.branches.now) (weight-TypedExpr-Case-2 l.otherwise.now) + 6

abbrev pub decreases-coalesce_form : goal.decreases-coalesce_form
decreases-coalesce_form l = 8 * weight-TypedExpr-In-1 l.arguments.now + 6

abbrev pub decreases-cast_form : goal.decreases-cast_form
decreases-cast_form l = 8 * size-TypedExpr l.operand.now + 6

abbrev pub decreases-part_form : goal.decreases-part_form
decreases-part_form l = 8 * size-TypedExpr l.operand.now + 6

abbrev pub decreases-length_form : goal.decreases-length_form
decreases-length_form l = 8 * size-TypedExpr l.operand.now + 6
