use Rattle.select_rows.proofs.Valued.{every-push}
use Rattle.select_rows.proofs.rows.every_row.Goals as goal

pub loop-preserved : goal.loop-preserved
loop-preserved c = every-push c.loop.counter c.loop.every c.push.new.self c.in_ok-push.ensures.ok c.loop.invariant
