use Rattle.std.proofs.Common.{min}
use Rattle.std.specs.List.{filter_map, reduce}
use Rattle.table_make.specs.Elements.{with_before}
use Rattle.table_make.specs.Faults.{improper}
use Rattle.table_make.specs.Steps.{earlier}
use Rattle.table_make.proofs.Told.{step_behind}
use Rattle.table_make.proofs.properties.first_improper.Goals as goal

pub loop-at-preserved : goal.loop-at-preserved
loop-at-preserved c =
    step_behind (improper) c.args.properties.now c.loop-at.at c.index-properties-at.result c.loop-at.found c.or_improper-found.result
    (earlier c.args.found (reduce min (filter_map (improper) (with_before c.args.properties.now))))
    c.loop-at-test.true c.index-properties-at.is c.or_improper-found.ensures c.loop-at.invariant
