use Rattle.parquet_pages.proofs.Ranged.{chunk_full, chunk_ranged}
use Rattle.parquet_pages.proofs.laws.values_are_ranged.Goals as goal

pub returns-clause-ranges : goal.returns-clause-ranges
returns-clause-ranges c = λ file chunk w rows values formed is. chunk_ranged file chunk w rows values formed is

pub returns-clause-full : goal.returns-clause-full
returns-clause-full c = λ file chunk w rows values formed none is. chunk_full file chunk w rows values formed none is
