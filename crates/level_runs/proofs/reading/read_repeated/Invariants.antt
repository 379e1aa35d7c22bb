use Rattle.std.proofs.Common.{◌≡◌, ◌++◌, replicate}
use Rattle.level_runs.proofs.reading.read_repeated.Given as goal

abbrev pub invariant-loop : goal.invariant-loop
invariant-loop l = l.numbers ≡ l.fn.numbers ++ replicate l.counter l.number
