use Rattle.std.proofs.Common.{◌≡◌, []}
use Rattle.std.specs.Vec.Iter.{into_iter_items}
use Rattle.table_make.specs.NewProperties.{with_pairs}
use Rattle.table_make.proofs.configuration.in_order.Given as goal

abbrev pub invariant-loop-name : goal.invariant-loop-name
invariant-loop-name l = with_pairs [] l.fn.pairs ≡ with_pairs l.map.entries (into_iter_items l.name-iterator)
