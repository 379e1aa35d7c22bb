use Rattle.std.proofs.Common.{◌≡◌, [], length, drop}
use Rattle.data_file.specs.Stored.{rows_in}
use Rattle.data_file.specs.Table.{columns_from}
use Rattle.data_file.proofs.table.columns_from.Given as goal

abbrev pub invariant-loop-at : goal.invariant-loop-at
invariant-loop-at l = record {
  same : columns_from l.file l.columns.mode l.constants l.column-items ([], l.fn.left) ≡ columns_from l.file l.columns.mode l.constants (drop l.at l.column-items) (l.batch.columns, l.left);
  counted : length l.batch.columns ≡ l.at;
  rows : l.batch.rows ≡ rows_in l.file;
}
