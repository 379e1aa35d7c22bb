use Rattle.std.proofs.Common.{◌≡◌, ℕ, List, drop, min}
use Rattle.std.specs.List.{filter_map, reduce}
use Rattle.table_make.specs.Faults.{unchecked}
use Rattle.table_make.specs.Steps.{check_at, earlier}
use Rattle.table_make.specs.declared.elements.Check.{Check}
use Rattle.typed_expr.specs.declared.scope.ScopeColumn.{ScopeColumn}
use Rattle.table_make.proofs.rules.first_unchecked.Given as goal

abbrev pub faults : List ScopeColumn → List Check → List ℕ
faults scope checks = filter_map (λ check. unchecked scope (check_at check)) checks

abbrev pub invariant-loop-check : goal.invariant-loop-check
invariant-loop-check l =
    earlier l.fn.found (reduce min (faults l.scope l.checks))
    ≡ earlier l.found (reduce min (faults l.scope (drop l.check-index l.checks)))
