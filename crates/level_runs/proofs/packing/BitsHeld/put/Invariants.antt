use Rattle.std.proofs.Common.{◌++◌, ◌^◌, ◌<◌}
use Rattle.level_runs.specs.Steps.{PacksBits}
use Rattle.level_runs.specs.Bits.{bits}
use Rattle.level_runs.proofs.packing.BitsHeld.put.Given as goal

abbrev pub invariant-loop-have : goal.invariant-loop-have
invariant-loop-have l = record {
  packs : PacksBits l.fn.out l.out (bits l.fn.self.have l.fn.self.pending ++ bits l.width l.number) (bits l.have l.pending);
  fits : l.pending < 2 ^ l.have;
}

abbrev pub decreases-loop-have : goal.decreases-loop-have
decreases-loop-have l = l.have
