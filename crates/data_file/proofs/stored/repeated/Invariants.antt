use Rattle.std.proofs.Common.{◌≡◌, replicate}
use Rattle.data_file.proofs.stored.repeated.Given as goal

abbrev pub invariant-loop : goal.invariant-loop
invariant-loop l = l.column ≡ record { kind = l.fn.kind; values = replicate l.counter l.value }
