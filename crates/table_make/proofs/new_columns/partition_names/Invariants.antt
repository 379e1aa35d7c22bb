use Rattle.std.proofs.Common.{◌≡◌, ◌++◌, drop}
use Rattle.table_make.specs.NewColumns.{partitions_of}
use Rattle.table_make.proofs.new_columns.partition_names.Given as goal

abbrev pub invariant-loop-name : goal.invariant-loop-name
invariant-loop-name l = partitions_of l.columns l.partitions ≡ l.names ++ partitions_of l.columns (drop l.name-index l.partitions)
