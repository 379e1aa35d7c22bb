use Rattle.std.proofs.Common.{take}
use Rattle.parquet_file.specs.Chunks.{GoesOn}
use Rattle.parquet_file.proofs.writing.write_chunks.Given as goal

abbrev pub invariant-loop-column : goal.invariant-loop-column
invariant-loop-column l = GoesOn (take l.column-index l.columns) l.fn.out l.out l.chunks
