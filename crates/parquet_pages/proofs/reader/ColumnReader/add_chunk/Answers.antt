use Rattle.std.proofs.Common.{rules}
use Rattle.parquet_pages.specs.Chunk.{chunk_values}
use Rattle.parquet_pages.specs.Views.{wanted}
use Rattle.parquet_pages.proofs.Whole.{takes_kept}
use Rattle.parquet_pages.proofs.reader.ColumnReader.add_chunk.Goals as goal

pub invariant_of-result : goal.invariant_of-result
invariant_of-result c = takes_kept (chunk_values c.args.file.now c.args.chunk.now (wanted c.args.self c.args.leaf.now) c.args.rows) c.args.self c.take_chunk.new.reading (tt {0}) (search rules) (search rules)
