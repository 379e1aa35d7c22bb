use Rattle.std.proofs.Common.{Some}
use Rattle.row_tracking.specs.Ids.{row_at}
use Rattle.row_tracking.specs.StepsIds.{AreRows}
use Rattle.row_tracking.proofs.ids.rows_of.Given as goal

abbrev pub invariant-loop-position : goal.invariant-loop-position
invariant-loop-position l = AreRows (row_at (Some l.file.base) (Some l.file.version) l.ids l.versions) l.position l.rows
