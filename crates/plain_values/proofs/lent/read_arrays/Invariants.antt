use Rattle.std.proofs.Common.{◌≡◌, ◌-◌}
use Rattle.plain_values.specs.Answers.{lent_values}
use Rattle.plain_values.specs.Forms.{array_at}
use Rattle.plain_values.specs.Meaning.{values_at}
use Rattle.plain_values.proofs.Turns.{with_values}
use Rattle.plain_values.proofs.lent.read_arrays.Given as goal

abbrev pub invariant-loop : goal.invariant-loop
invariant-loop l = values_at array_at l.count l.bytes ≡ with_values (lent_values l.arrays) (values_at array_at (l.count - l.counter) l.rest)
