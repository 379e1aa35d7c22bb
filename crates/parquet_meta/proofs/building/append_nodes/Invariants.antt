use Rattle.std.proofs.Common.{◌≡◌, ◌++◌, drop, map}
use Rattle.std.specs.List.{AllByRecursion}
use Rattle.parquet_meta.proofs.building.append_nodes.Given as goal

abbrev pub invariant-loop-value : goal.invariant-loop-value
invariant-loop-value g l = record {
  nodes : l.initial.nodes ++ map g.T.Written.written l.values ≡ l.nodes ++ map g.T.Written.written (drop l.value-index l.values);
  range : AllByRecursion g.T.Written.fits (drop l.value-index l.values) → AllByRecursion g.T.Written.fits l.values;
}
