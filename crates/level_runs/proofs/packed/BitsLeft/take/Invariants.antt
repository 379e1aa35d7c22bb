use Rattle.std.proofs.Common.{◌-◌, ◌≡◌, ◌+◌, ◌*◌, ◌++◌, length}
use Rattle.level_runs.specs.Bits.{bits, byte_bits}
use Rattle.level_runs.proofs.packed.BitsLeft.take.Given as goal

abbrev pub invariant-loop-self : goal.invariant-loop-self
invariant-loop-self l = record {
  same : bits l.self.have l.self.pending ++ byte_bits l.self.bytes.now ≡ bits l.fn.self.have l.fn.self.pending ++ byte_bits l.fn.self.bytes.now;
  left : l.self.have + 8 * length l.self.bytes.now ≡ l.fn.self.have + 8 * length l.fn.self.bytes.now;
}

abbrev pub decreases-loop-self : goal.decreases-loop-self
decreases-loop-self l = l.width - l.self.have
