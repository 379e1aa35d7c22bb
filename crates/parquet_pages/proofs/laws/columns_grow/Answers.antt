use Rattle.parquet_pages.proofs.Taken.{with_more-append, with_none}
use Rattle.parquet_pages.proofs.Whole.{finished_is}
use Rattle.parquet_pages.proofs.laws.columns_grow.Goals as goal

pub returns-clause-more : goal.returns-clause-more
returns-clause-more c = λ first then reading. with_more-append first then reading

pub returns-clause-none : goal.returns-clause-none
returns-clause-none c = λ reading. with_none reading

pub returns-clause-whole : goal.returns-clause-whole
returns-clause-whole c = λ kind nullable left values. finished_is kind nullable left values
