use Rattle.script_run.proofs.ValueLines.{one_kept}
use Rattle.script_run.proofs.selected.push_kept.Goals as goal

pub loop-place-preserved : goal.loop-place-preserved
loop-place-preserved c =
    one_kept c.args.kept.now c.args.all.now c.loop-place.place-index _ c.test.result c.args.places.now c.loop-place.places c.push_if.new.places c.loop-place-test.true c.test.ensures c.loop-place.invariant c.in_ok-push_if.ensures
