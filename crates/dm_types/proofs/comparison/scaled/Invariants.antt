use Rattle.std.proofs.Common.{◌≡◌, ◌*ℤ◌, ◌^◌, pos}
use Rattle.dm_types.proofs.comparison.scaled.Given as goal

abbrev pub invariant-loop : goal.invariant-loop
invariant-loop l = l.product ≡ l.number *ℤ pos (10 ^ l.counter)
