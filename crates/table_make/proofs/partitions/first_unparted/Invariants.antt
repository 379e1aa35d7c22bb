use Rattle.std.proofs.Common.{◌≡◌, drop, take, map, min}
use Rattle.std.specs.List.{filter_map, reduce}
use Rattle.table_make.specs.Elements.{each_behind, with_before}
use Rattle.table_make.specs.Faults.{unparted}
use Rattle.table_make.specs.Steps.{column_at, earlier}
use Rattle.table_make.proofs.partitions.first_unparted.Given as goal

abbrev pub invariant-loop-at : goal.invariant-loop-at
invariant-loop-at l =
    let fault = unparted (map column_at l.columns) in
    earlier l.fn.found (reduce min (filter_map fault (with_before l.names)))
    ≡ earlier l.found (reduce min (filter_map fault (each_behind (take l.at l.names) (drop l.at l.names))))
