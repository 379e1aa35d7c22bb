use Rattle.std.proofs.Common.{◌≡◌, map, drop}
use Rattle.std.specs.List.{fold}
use Rattle.typed_expr.specs.Kinds.{kind_of}
use Rattle.typed_expr.specs.Tables.{with_kind, common_of}
use Rattle.typed_expr.proofs.choice.common_of.Given as goal

abbrev pub invariant-loop-operand : goal.invariant-loop-operand
invariant-loop-operand l = fold with_kind l.joint (map kind_of (drop l.operand-index l.operands)) ≡ common_of (map kind_of l.operands)
