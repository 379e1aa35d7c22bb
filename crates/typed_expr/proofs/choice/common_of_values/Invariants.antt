use Rattle.std.proofs.Common.{◌≡◌, map, drop}
use Rattle.std.specs.List.{fold}
use Rattle.typed_expr.specs.Kinds.{kind_of}
use Rattle.typed_expr.specs.Tables.{with_kind, common_of}
use Rattle.typed_expr.proofs.choice.common_of_values.Given as goal

abbrev pub invariant-loop-branch : goal.invariant-loop-branch
invariant-loop-branch l =
    fold with_kind l.joint (map (λ b. kind_of b.value) (drop l.branch-index l.branches))
    ≡ common_of (map (λ b. kind_of b.value) l.branches)
