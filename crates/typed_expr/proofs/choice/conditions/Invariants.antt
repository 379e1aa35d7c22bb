use Rattle.std.proofs.Common.{◌≡◌, drop}
use Rattle.std.specs.List.{fold}
use Rattle.typed_expr.specs.Forms.{with_condition, conditions}
use Rattle.typed_expr.proofs.choice.conditions.Given as goal

abbrev pub invariant-loop-branch : goal.invariant-loop-branch
invariant-loop-branch l = fold with_condition l.found (drop l.branch-index l.branches) ≡ conditions l.branches
