use Rattle.std.proofs.Common.{◌≡◌, ◌+◌, ◌++◌, length, drop}
use Rattle.std.specs.Vec.Iter.{into_iter_items}
use Rattle.table_load.proofs.Joining.{AreEven, kinds}
use Rattle.table_load.specs.Files.{joined}
use Rattle.table_load.proofs.files.joined.Given as goal

abbrev pub invariant-loop-column : goal.invariant-loop-column
invariant-loop-column l = record {
  rows : l.all.rows ≡ l.fn.batch.rows + l.more.rows;
  whole : joined l.fn.batch.columns l.more.columns ≡ l.all.columns ++ joined (into_iter_items l.column-iterator) (drop (length l.all.columns) l.more.columns);
  kinds : kinds (into_iter_items l.column-iterator) ≡ kinds (drop (length l.all.columns) l.more.columns);
  even : AreEven l.fn.batch.rows (into_iter_items l.column-iterator);
}
