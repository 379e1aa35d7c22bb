use Rattle.std.proofs.Common.{◌∙◌, ℕ, List, min, ap, sym}
use Rattle.std.specs.List.{reduce}
use Rattle.table_make.specs.Faults.{unchecked}
use Rattle.table_make.specs.Steps.{check_at, earlier}
use Rattle.table_make.specs.declared.elements.Check.{Check}
use Rattle.table_make.proofs.Least.{end, step}
use Rattle.table_make.proofs.Lent.{filter_map_map}
use Rattle.table_make.proofs.rules.first_unchecked.Invariants.{faults}
use Rattle.table_make.proofs.rules.first_unchecked.Goals as goal

pub loop-check-preserved : goal.loop-check-preserved
loop-check-preserved c =
    step (λ (check : Check). unchecked c.args.scope.now (check_at check)) c.args.checks.now c.check-item.result c.loop-check.check-index
    c.loop-check.found c.in_ok-found.found (earlier c.args.found (reduce min (faults c.args.scope.now c.args.checks.now)))
    c.loop-check-test.true c.check-item.is c.in_ok-found.ensures c.loop-check.invariant

pub returns : goal.returns
returns c =
    end (λ (check : Check). unchecked c.args.scope.now (check_at check)) c.args.checks.now c.loop-check.check-index c.loop-check.found
    (earlier c.args.found (reduce min (faults c.args.scope.now c.args.checks.now)))
    c.loop-check-test.false c.loop-check.invariant
    ∙ ap (λ (places : List ℕ). earlier c.args.found (reduce min places)) (sym (filter_map_map (unchecked c.args.scope.now) check_at c.args.checks.now))
