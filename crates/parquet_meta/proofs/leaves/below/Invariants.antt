use Rattle.std.proofs.Common.{◌≡◌, ◌+◌, ◌≤◌, drop, length}
use Rattle.parquet_meta.specs.Leaves.{leaves_of, joined}
use Rattle.parquet_meta.proofs.leaves.below.Given as goal

abbrev pub invariant-loop-index : goal.invariant-loop-index
invariant-loop-index l = record {
  left : leaves_of l.root 0 l.children l.elements ≡ joined l.leaves (leaves_of l.owner l.inside l.outside (drop l.index l.elements));
  room : l.inside + l.outside + l.index ≤ length l.elements;
}
