use Rattle.parquet_pages.proofs.WholeChunks.{chunk_count}
use Rattle.parquet_pages.proofs.laws.chunks_are_whole.Goals as goal

pub returns : goal.returns
returns c = λ file chunk w rows values is. chunk_count c.runs_fit.ensures file chunk w rows values is
