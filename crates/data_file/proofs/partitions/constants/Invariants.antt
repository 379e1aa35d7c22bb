use Rattle.std.proofs.Common.{◌≡◌, [], length, drop}
use Rattle.data_file.specs.Partitions.{constants_from}
use Rattle.data_file.proofs.GivenValues.{Each}
use Rattle.data_file.proofs.partitions.constants.Given as goal

abbrev pub invariant-loop-at : goal.invariant-loop-at
invariant-loop-at l = record {
  same : constants_from l.columns.mode l.values l.column-items [] ≡ constants_from l.columns.mode l.values (drop l.at l.column-items) l.found;
  counted : length l.found ≡ l.at;
  each : Each l.column-items l.found;
}
