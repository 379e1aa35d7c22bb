use Rattle.std.proofs.Common.{◌∙◌}
use Rattle.row_tracking.proofs.IdOrder.{keyed_more}
use Rattle.row_tracking.proofs.order.with_places.Goals as goal

pub loop-place-preserved : goal.loop-place-preserved
loop-place-preserved c = c.in_ok-push.ensures.items ∙ keyed_more _ _ _ c.loop-place.invariant
