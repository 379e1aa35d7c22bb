use Rattle.parquet_pages.proofs.ReadBack.{all_read}
use Rattle.parquet_pages.proofs.writing.write_chunk.Goals as goal

pub returns-else-is_err-clause-again : goal.returns-else-is_err-clause-again
returns-else-is_err-clause-again c =
    all_read c.args.column.now c.args.out.now c.add_chunk-chunk.new.out c.add_chunk-chunk.result c.requires.column c.runs_again.ensures c.requires.start c.add_chunk-chunk.ensures.chunk
