use Rattle.std.proofs.Common.{◌≡◌}
use Rattle.select_rows.specs.Rows.{every}
use Rattle.select_rows.proofs.rows.every_row.Given as goal

abbrev pub invariant-loop : goal.invariant-loop
invariant-loop l = l.every ≡ every l.counter
