use Rattle.std.proofs.Common.{◌≡◌, [], map, take}
use Rattle.table_load.proofs.files.empty_batch.Given as goal

abbrev pub invariant-loop-column : goal.invariant-loop-column
invariant-loop-column l = record {
  rows : l.batch.rows ≡ 0;
  columns : l.batch.columns ≡ map (λ column. record { kind = column.kind; values = [] }) (take l.column-index l.column-items);
}
