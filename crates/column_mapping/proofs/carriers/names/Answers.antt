use Rattle.column_mapping.proofs.Joining.{names_none, names_step}
use Rattle.column_mapping.proofs.carriers.names.Goals as goal

pub loop-at-init : goal.loop-at-init
loop-at-init c = names_none c.new-places.result c.new-places.ensures.empty

pub loop-at-preserved : goal.loop-at-preserved
loop-at-preserved c = names_step c.loop-at.places c.add.new.places c.args.leaves.now c.loop-at.at c.index-leaves-at.result c.as_slice.result c.single.result c.loop-at.invariant c.loop-at-test.true c.index-leaves-at.is c.as_slice.ensures c.single.ensures c.in_ok-add.ensures
