use Rattle.std.proofs.Common.{map, min}
use Rattle.std.specs.List.{filter_map, reduce}
use Rattle.table_make.specs.Elements.{with_before}
use Rattle.table_make.specs.Faults.{unparted}
use Rattle.table_make.specs.Steps.{column_at, earlier}
use Rattle.table_make.proofs.Told.{step_behind}
use Rattle.table_make.proofs.partitions.first_unparted.Goals as goal

pub loop-at-preserved : goal.loop-at-preserved
loop-at-preserved c =
    step_behind (unparted (map column_at c.args.columns.now)) c.args.names.now c.loop-at.at c.index-names-at.result c.loop-at.found c.or_unparted-found.result
    (earlier c.args.found (reduce min (filter_map (unparted (map column_at c.args.columns.now)) (with_before c.args.names.now))))
    c.loop-at-test.true c.index-names-at.is c.or_unparted-found.ensures c.loop-at.invariant
