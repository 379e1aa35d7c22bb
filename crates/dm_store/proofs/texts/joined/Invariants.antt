use Rattle.std.proofs.Common.{◌≡◌, ◌++◌, take}
use Rattle.dm_store.proofs.texts.joined.Given as goal

abbrev pub invariant-loop-other : goal.invariant-loop-other
invariant-loop-other l = l.all ≡ l.initial.all ++ take l.other-index l.others
