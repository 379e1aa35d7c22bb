use Rattle.std.proofs.Common.{◌∙◌, sym}
use Rattle.level_runs.specs.Bits.{byte_bits}
use Rattle.level_runs.proofs.Places.{bits-taken, left_fits}
use Rattle.level_runs.proofs.packed.BitsLeft.take.Goals as goal

pub invariant_of-self : goal.invariant_of-self
invariant_of-self c = record {
  at_hand = left_fits c.loop-self.self.have c.loop-self.self.pending c.args.width c.loop-self-test.false c.loop-self.self.at_hand;
}

pub returns-clause-taken : goal.returns-clause-taken
returns-clause-taken c =
    sym c.loop-self.invariant.same
    ∙ bits-taken c.loop-self.self.have c.loop-self.self.pending c.args.width (byte_bits c.loop-self.self.bytes.now) c.requires.narrow c.loop-self-test.false
