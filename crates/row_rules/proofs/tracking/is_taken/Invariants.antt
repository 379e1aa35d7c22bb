use Rattle.std.proofs.Common.{◌≡◌, length}
use Rattle.std.specs.List.{list_any}
use Rattle.row_rules.specs.Rules.{is_named}
use Rattle.row_rules.proofs.tracking.is_taken.Given as goal

abbrev pub invariant-loop-column : goal.invariant-loop-column
invariant-loop-column l = list_any (is_named l.mode l.name) l.columns ≡ list_any (is_named l.mode l.name) l.rest

abbrev pub decreases-loop-column : goal.decreases-loop-column
decreases-loop-column l = length l.rest
