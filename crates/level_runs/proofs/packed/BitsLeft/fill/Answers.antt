use Rattle.std.proofs.Common.{◌∙◌, ◌<◌, ◌++◌, ap, arith}
use Rattle.level_runs.specs.Bits.{bits, byte_bits}
use Rattle.level_runs.proofs.Places.{filled, bits-filled, front_again}
use Rattle.level_runs.proofs.packed.BitsLeft.fill.Goals as goal

pub invariant_of-self : goal.invariant_of-self
invariant_of-self c =
    let byte : c.from.result < 256 = omega (arith, c.from.ensures) in
    record { at_hand = filled c.args.self.now.have c.args.self.now.pending c.from.result c.requires.room byte c.args.self.now.at_hand }

pub returns-clause-same : goal.returns-clause-same
returns-clause-same c =
    let byte : c.from.result < 256 = omega (arith, c.from.ensures) in
    bits-filled c.args.self.now.have c.args.self.now.pending c.from.result _ c.requires.room byte c.args.self.now.at_hand
    ∙ ap (λ bytes. bits c.args.self.now.have c.args.self.now.pending ++ byte_bits bytes) (front_again c.args.self.now.bytes.now c.from.result c.requires.some c.from.ensures)
