use Rattle.std.proofs.Common.{◌≡◌, map, take}
use Rattle.table_make.specs.Seen.{seen_by_generations}
use Rattle.table_make.specs.Steps.{column_at}
use Rattle.table_make.proofs.rules.seen_by_generations.Given as goal

abbrev pub invariant-loop-column : goal.invariant-loop-column
invariant-loop-column l = l.scope ≡ seen_by_generations (map column_at (take l.column-index l.columns))
