use Rattle.level_runs.proofs.Filling.{packs_number, packs_more, packs_byte, sum_fits}
use Rattle.level_runs.proofs.Places.{left_fits}
use Rattle.level_runs.proofs.packing.BitsHeld.put.Goals as goal

pub loop-have-init : goal.loop-have-init
loop-have-init c = rw c.from.ensures (record {
  packs = packs_number c.args.out.now c.args.self.now.have c.args.self.now.pending c.args.number c.args.width c.args.self.now.few c.args.self.now.at_hand c.requires.fits c.requires.narrow;
  fits = sum_fits c.args.self.now.have c.args.self.now.pending c.args.number c.args.width c.args.self.now.few c.args.self.now.at_hand c.requires.fits c.requires.narrow;
})

pub loop-have-preserved : goal.loop-have-preserved
loop-have-preserved c = record {
  packs = packs_more _ _ _ _ _ _ c.loop-have.invariant.packs (packs_byte _ _ c.loop-have.have c.loop-have.pending c.loop-have-test.true c.in_ok-push.ensures.ok);
  fits = left_fits c.loop-have.have c.loop-have.pending 8 c.loop-have-test.true c.loop-have.invariant.fits;
}
