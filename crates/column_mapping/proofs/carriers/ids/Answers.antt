use Rattle.std.proofs.Common.{FitsSigned, w32, rules}
use Rattle.std.proofs.lemmas.Int.{to_z-of_z}
use Rattle.column_mapping.proofs.Joining.{ids_none, ids_step, ids_stay}
use Rattle.column_mapping.proofs.carriers.ids.Goals as goal
use Rattle.column_mapping.proofs.carriers.ids.Goals.{in-Some+in_ok-add, in_default}

pub loop-at-init : goal.loop-at-init
loop-at-init c = ids_none c.new-places.result c.new-places.ensures.empty

pub loop-at-preserved : goal.loop-at-preserved
loop-at-preserved c =
    elim c.match-leaf.branch [
      | in-Some+in_ok-add w ↦
          let fits : FitsSigned w32 w.in-Some.id = search rules in
          let updates = simp to_z-of_z at w.in_ok-add.ensures in
          rw w.places-is (ids_step c.loop-at.places w.add.new.places c.args.leaves.now c.loop-at.at c.index-leaves-at.result w.in-Some.id w.single.result c.loop-at.invariant c.loop-at-test.true c.index-leaves-at.is w.in-Some.is w.single.ensures updates)
      | in_default w ↦
          rw w.places-is (ids_stay c.loop-at.places c.args.leaves.now c.loop-at.at c.index-leaves-at.result c.loop-at.invariant c.loop-at-test.true c.index-leaves-at.is (search rules))
    ]
