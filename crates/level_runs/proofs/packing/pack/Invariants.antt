use Rattle.std.proofs.Common.{map}
use Rattle.std.specs.Prelude.{slice_index}
use Rattle.std.specs.List.{flat_map, range_with_len}
use Rattle.level_runs.specs.Steps.{PacksBits}
use Rattle.level_runs.specs.Bits.{bits}
use Rattle.level_runs.proofs.packing.pack.Given as goal

abbrev pub invariant-loop-place : goal.invariant-loop-place
invariant-loop-place l = PacksBits l.fn.out l.out (flat_map (bits l.width) (map (slice_index l.numbers) (range_with_len 0 l.place))) (bits l.held.have l.held.pending)
