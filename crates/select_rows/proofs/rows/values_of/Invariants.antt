use Rattle.std.proofs.Common.{◌≡◌, map, take}
use Rattle.std.specs.Prelude.{All}
use Rattle.std.specs.List.{AllByRecursion, flat_map}
use Rattle.select_rows.specs.Rows.{column_of, errors_in}
use Rattle.vector_eval.specs.Batches.{IsRanged, values_on}
use Rattle.select_rows.proofs.rows.values_of.Given as goal

abbrev pub invariant-loop-item : goal.invariant-loop-item
invariant-loop-item l = record {
  rows : l.found.rows ≡ l.batch.rows;
  columns : l.found.columns ≡ map (column_of l.batch.columns l.kept) (map (λ item. item.value) (take l.item-index l.items));
  faults : map (λ fault. fault.1) l.faults ≡ flat_map (λ x. errors_in (values_on x l.batch.columns l.kept)) (map (λ item. item.value) (take l.item-index l.items));
  ranges : All IsRanged l.batch.columns → AllByRecursion IsRanged l.found.columns;
}
