use Rattle.std.proofs.Common.{◌≡◌, drop}
use Rattle.parquet_meta.specs.Forms.{each}
use Rattle.parquet_meta.proofs.Collecting.{after}
use Rattle.parquet_meta.proofs.forms.elements.Given as goal

abbrev pub invariant-loop-node : goal.invariant-loop-node
invariant-loop-node g l = each (g.T.Form.form l.width) l.nodes ≡ after l.items (each (g.T.Form.form l.width) (drop l.node-index l.nodes))
