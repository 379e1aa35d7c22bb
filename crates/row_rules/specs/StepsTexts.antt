-- What steps of reading texts answer.
use Rattle.std.specs.Prelude.{◌≡◌, ⊤, Option, Some, None, Result, Ok, Err}
use Rattle.std.specs.declared.alloc.AllocError.{AllocError}
use Rattle.typed_expr.specs.declared.fault.TypeFault.{TypeFault}
use Rattle.typed_expr.specs.declared.fault.TypeFault.TheVariants as fault
use Rattle.typed_expr.specs.declared.tree.TypedExpr.{TypedExpr}

-- the tree, or none where a rule is broken
abbrev pub Comes : Result TypedExpr TypeFault → Result (Option TypedExpr) AllocError → Type 0
Comes (Ok tree) answer = answer ≡ Ok (Some tree)
Comes (Err (fault.Rule rule at)) answer = answer ≡ Ok None
Comes (Err fault.Memory) answer = answer ≡ Err (record {})
