use Rattle.parquet_pages.specs.Views.{level_list, page_values}
use Rattle.parquet_pages.proofs.Taken.{Running}
use Rattle.parquet_pages.proofs.entries.take_entries.Given as goal

abbrev pub invariant-loop-at : goal.invariant-loop-at
invariant-loop-at l = Running l.leaf (level_list l.levels) (page_values l.values) l.order l.at l.before l.fn.reading l.reading
