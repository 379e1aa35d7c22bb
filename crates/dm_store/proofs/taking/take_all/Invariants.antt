use Rattle.std.proofs.Common.{◌≡◌, ◌≤◌, length}
use Rattle.std.specs.Io.KnownBytes.{Consumes}
use Rattle.dm_store.proofs.taking.take_all.Given as goal

abbrev pub invariant-loop-turn : goal.invariant-loop-turn
invariant-loop-turn g l = record {
  kept : g.S.Source.faults l.source ≡ g.S.Source.faults l.initial.source;
  turns : l._turn ≤ length l.taken;
  within : length l.taken ≤ l.limit;
  bytes : Consumes (g.S.Source.left l.initial.source) (g.S.Source.left l.source) l.taken;
}
