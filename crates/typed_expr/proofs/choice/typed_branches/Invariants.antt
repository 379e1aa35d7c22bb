use Rattle.std.proofs.Common.{◌≡◌, ◌++◌, map, length}
use Rattle.std.specs.Prelude.{reverse}
use Rattle.typed_expr.specs.Forms.{typed_branch}
use Rattle.typed_expr.proofs.choice.typed_branches.Given as goal

abbrev pub invariant-loop-last : goal.invariant-loop-last
invariant-loop-last l = map (typed_branch l.kind) l.rest ++ reverse l.typed.items ≡ map (typed_branch l.kind) l.fn.branches

abbrev pub decreases-loop-last : goal.decreases-loop-last
decreases-loop-last l = length l.rest
