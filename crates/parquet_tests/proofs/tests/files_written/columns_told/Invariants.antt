use Rattle.std.proofs.Common.{◌≡◌, length}
use Rattle.std.specs.Prelude.{All}
use Rattle.parquet_file.specs.Writing.{IsWritableFileColumn}
use Rattle.parquet_tests.proofs.tests.files_written.columns_told.Given as goal

abbrev pub invariant-loop-told : goal.invariant-loop-told
invariant-loop-told l = record {
  each : All (IsWritableFileColumn 2) l.columns;
  counted : length l.columns ≡ l.told-index;
}
