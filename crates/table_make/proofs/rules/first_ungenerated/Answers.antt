use Rattle.std.proofs.Common.{◌∙◌, ℕ, List, min, ap, sym}
use Rattle.std.specs.List.{reduce}
use Rattle.table_make.specs.Faults.{ungenerated}
use Rattle.table_make.specs.Steps.{column_at, earlier}
use Rattle.table_make.specs.declared.elements.Column.{Column}
use Rattle.table_make.proofs.Least.{end, step}
use Rattle.table_make.proofs.Lent.{filter_map_map}
use Rattle.table_make.proofs.rules.first_ungenerated.Invariants.{faults}
use Rattle.table_make.proofs.rules.first_ungenerated.Goals as goal

pub loop-column-preserved : goal.loop-column-preserved
loop-column-preserved c =
    step (λ (column : Column). ungenerated c.args.scope.now (column_at column)) c.args.columns.now c.column-item.result c.loop-column.column-index
    c.loop-column.found c.in_ok-found.found (earlier c.args.found (reduce min (faults c.args.scope.now c.args.columns.now)))
    c.loop-column-test.true c.column-item.is c.in_ok-found.ensures c.loop-column.invariant

pub returns : goal.returns
returns c =
    end (λ (column : Column). ungenerated c.args.scope.now (column_at column)) c.args.columns.now c.loop-column.column-index c.loop-column.found
    (earlier c.args.found (reduce min (faults c.args.scope.now c.args.columns.now)))
    c.loop-column-test.false c.loop-column.invariant
    ∙ ap (λ (places : List ℕ). earlier c.args.found (reduce min places)) (sym (filter_map_map (ungenerated c.args.scope.now) column_at c.args.columns.now))
