use Rattle.std.proofs.Common.{◌≡◌, map, take}
use Rattle.parquet_file.specs.Writing.{file_leaf}
use Rattle.parquet_file.proofs.writing.leaves_of.Given as goal

abbrev pub invariant-loop-column : goal.invariant-loop-column
invariant-loop-column l = l.leaves ≡ map file_leaf (take l.column-index l.columns)
