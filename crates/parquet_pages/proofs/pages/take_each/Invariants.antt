use Rattle.std.proofs.Common.{length, ◌-◌}
use Rattle.parquet_pages.specs.Pages.{pages_at}
use Rattle.parquet_pages.specs.Views.{state_of, wanted}
use Rattle.parquet_pages.proofs.PageByPage.{Reached}
use Rattle.parquet_pages.proofs.pages.take_each.Given as goal

abbrev pub invariant-loop : goal.invariant-loop
invariant-loop l = Reached l.leaf (pages_at (length l.bytes) (wanted l.fn.reading l.leaf) (state_of l.fn.progress) l.bytes) (length l.bytes - l.counter) (state_of l.progress) l.rest l.fn.reading l.reading
