use Rattle.std.proofs.Common.{refl, []}
use Rattle.parquet_pages.proofs.Looked.{told_nothing}
use Rattle.parquet_pages.proofs.values.read_order.Goals as goal

pub returns-then-count-eq0 : goal.returns-then-count-eq0
returns-then-count-eq0 c = ([], rw c.if-count-eq0.true refl, rw c.new.ensures told_nothing)
