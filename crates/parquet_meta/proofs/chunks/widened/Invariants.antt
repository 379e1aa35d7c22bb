use Rattle.std.proofs.Common.{◌≡◌, take}
use Rattle.parquet_meta.proofs.chunks.widened.Given as goal

abbrev pub invariant-loop-number : goal.invariant-loop-number
invariant-loop-number l = l.wide ≡ take l.number-index l.numbers
