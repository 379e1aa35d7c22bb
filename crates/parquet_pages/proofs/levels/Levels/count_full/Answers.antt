use Rattle.parquet_pages.proofs.FullLevels.{full-replicate}
use Rattle.parquet_pages.proofs.levels.Levels.count_full.Goals as goal

pub returns-in-Full : goal.returns-in-Full
returns-in-Full c = rw c.in-Full.is (full-replicate c.in-Full.count)
