use Rattle.std.proofs.Common.{◌≡◌, ◌++◌, map, length}
use Rattle.std.specs.Prelude.{reverse}
use Rattle.typed_expr.specs.Forms.{as_kind}
use Rattle.typed_expr.proofs.choice.all_as_kind.Given as goal

abbrev pub invariant-loop-last : goal.invariant-loop-last
invariant-loop-last l = map (as_kind l.kind) l.rest ++ reverse l.trees.items ≡ map (as_kind l.kind) l.fn.operands

abbrev pub decreases-loop-last : goal.decreases-loop-last
decreases-loop-last l = length l.rest
