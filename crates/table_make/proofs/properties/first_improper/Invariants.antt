use Rattle.std.proofs.Common.{◌≡◌, drop, take, min}
use Rattle.std.specs.List.{filter_map, reduce}
use Rattle.table_make.specs.Elements.{each_behind, with_before}
use Rattle.table_make.specs.Faults.{improper}
use Rattle.table_make.specs.Steps.{earlier}
use Rattle.table_make.proofs.properties.first_improper.Given as goal

abbrev pub invariant-loop-at : goal.invariant-loop-at
invariant-loop-at l =
    earlier l.fn.found (reduce min (filter_map improper (with_before l.properties)))
    ≡ earlier l.found (reduce min (filter_map improper (each_behind (take l.at l.properties) (drop l.at l.properties))))
