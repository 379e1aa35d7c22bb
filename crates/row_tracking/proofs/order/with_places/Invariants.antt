use Rattle.std.proofs.Common.{◌≡◌, map}
use Rattle.std.specs.List.{range_with_len}
use Rattle.row_tracking.specs.StepsOrder.{keyed}
use Rattle.row_tracking.proofs.order.with_places.Given as goal

abbrev pub invariant-loop-place : goal.invariant-loop-place
invariant-loop-place l = l.keys.items ≡ map (keyed l.rows) (range_with_len 0 l.place)
