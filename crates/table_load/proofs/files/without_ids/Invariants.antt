use Rattle.std.proofs.Common.{◌≡◌, replicate}
use Rattle.row_tracking.specs.Checked.{no_row}
use Rattle.table_load.proofs.files.without_ids.Given as goal

abbrev pub invariant-loop : goal.invariant-loop
invariant-loop l = l.ids ≡ replicate l.counter no_row
