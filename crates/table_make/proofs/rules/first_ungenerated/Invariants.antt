use Rattle.std.proofs.Common.{◌≡◌, ℕ, List, drop, min}
use Rattle.std.specs.List.{filter_map, reduce}
use Rattle.table_make.specs.Faults.{ungenerated}
use Rattle.table_make.specs.Steps.{column_at, earlier}
use Rattle.table_make.specs.declared.elements.Column.{Column}
use Rattle.typed_expr.specs.declared.scope.ScopeColumn.{ScopeColumn}
use Rattle.table_make.proofs.rules.first_ungenerated.Given as goal

abbrev pub faults : List ScopeColumn → List Column → List ℕ
faults scope columns = filter_map (λ column. ungenerated scope (column_at column)) columns

abbrev pub invariant-loop-column : goal.invariant-loop-column
invariant-loop-column l =
    earlier l.fn.found (reduce min (faults l.scope l.columns))
    ≡ earlier l.found (reduce min (faults l.scope (drop l.column-index l.columns)))
