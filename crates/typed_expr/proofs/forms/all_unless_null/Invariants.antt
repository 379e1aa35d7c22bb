use Rattle.std.proofs.Common.{◌≡◌, ◌++◌, map, length}
use Rattle.std.specs.Prelude.{reverse}
use Rattle.typed_expr.specs.Forms.{unless_null}
use Rattle.typed_expr.proofs.forms.all_unless_null.Given as goal

abbrev pub invariant-loop-last : goal.invariant-loop-last
invariant-loop-last l = map (unless_null l.kind) l.rest ++ reverse l.trees.items ≡ map (unless_null l.kind) l.fn.operands

abbrev pub decreases-loop-last : goal.decreases-loop-last
decreases-loop-last l = length l.rest
