use Rattle.std.proofs.Common.{◌≡◌, ◌-◌}
use Rattle.plain_values.specs.Meaning.{values_at}
use Rattle.plain_values.proofs.Turns.{with_values}
use Rattle.plain_values.proofs.in_turn.read_values.Given as goal

abbrev pub invariant-loop : goal.invariant-loop
invariant-loop g l = values_at (g.P.InTurn.value_at l.length) l.count l.bytes ≡ with_values l.values (values_at (g.P.InTurn.value_at l.length) (l.count - l.counter) l.rest)
