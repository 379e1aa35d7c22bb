use Rattle.std.proofs.Common.{◌≡◌, ◌++◌, ◌-◌}
use Rattle.dm_text.specs.Fronts.{KeepsFront}
use Rattle.dm_text.specs.Printing.{places}
use Rattle.dm_text.proofs.digits.push_places.Given as goal

abbrev pub invariant-loop-written : goal.invariant-loop-written
invariant-loop-written l = (l.out ++ places (l.count - l.written) l.number ≡ l.fn.out ++ places l.count l.number) × KeepsFront l.fn.out l.out
