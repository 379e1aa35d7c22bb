use Rattle.row_tracking.specs.Checked.{IsLeast}
use Rattle.row_tracking.specs.StepsChecked.{FailsBelow}
use Rattle.row_tracking.proofs.checking.least_alone.Given as goal

abbrev pub invariant-loop-row : goal.invariant-loop-row
invariant-loop-row l = IsLeast (FailsBelow l.rows l.mark l.version l.row-index) l.least
