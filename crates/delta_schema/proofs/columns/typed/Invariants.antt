use Rattle.std.proofs.Common.{◌≡◌, []}
use Rattle.std.specs.Vec.Iter.{into_iter_items}
use Rattle.delta_schema.specs.Columns.{typed}
use Rattle.delta_schema.proofs.columns.typed.Given as goal

abbrev pub invariant-loop-column : goal.invariant-loop-column
invariant-loop-column l = typed [] l.fn.columns ≡ typed l.found (into_iter_items l.column-iterator)
