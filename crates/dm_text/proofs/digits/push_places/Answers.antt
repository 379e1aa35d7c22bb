use Rattle.std.proofs.Common.{◌-◌, arith}
use Rattle.dm_text.proofs.Fronts.{front_more, front_then}
use Rattle.dm_text.proofs.Powers.{power_some}
use Rattle.dm_text.proofs.Places.{place_written, places_done}
use Rattle.dm_text.proofs.digits.push_places.Goals as goal

pub nonzero_div-digit : goal.nonzero_div-digit
nonzero_div-digit c = rw c.ten_to.ensures (omega (arith, power_some (c.args.count - 1 - c.loop-written.written)))

pub loop-written-preserved : goal.loop-written-preserved
loop-written-preserved c = (
  place_written c.loop-written.out c.push.new.self _ c.args.count c.loop-written.written c.args.number c.loop-written.invariant.0 c.loop-written-test.true (rw c.ten_to.ensures at c.in_ok-push.ensures.ok),
  front_then _ _ _ c.loop-written.invariant.1 (rw c.in_ok-push.ensures.ok (front_more _ _)),
)

pub returns-clause-ok : goal.returns-clause-ok
returns-clause-ok c = places_done c.loop-written.out _ c.args.count c.loop-written.written c.args.number c.loop-written.invariant.0 c.loop-written-test.false

pub returns-clause-front : goal.returns-clause-front
returns-clause-front c = c.loop-written.invariant.1

pub returns-in_err-push-clause-front : goal.returns-in_err-push-clause-front
returns-in_err-push-clause-front c = rw c.in_err-push.ensures.err c.loop-written.invariant.1
