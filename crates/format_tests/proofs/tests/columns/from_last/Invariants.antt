use Rattle.std.proofs.Common.{◌<◌, All}
use Rattle.format_tests.proofs.tests.columns.from_last.Given as goal

abbrev pub invariant-loop-place : goal.invariant-loop-place
invariant-loop-place l = All (λ place. place < l.rows) l.places
