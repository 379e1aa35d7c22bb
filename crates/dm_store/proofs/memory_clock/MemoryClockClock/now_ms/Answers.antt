use Rattle.std.proofs.Common.{rules}
use Rattle.dm_store.proofs.Told.{clock_gave}
use Rattle.dm_store.proofs.memory_clock.MemoryClockClock.now_ms.Goals as goal

pub returns-clause-given : goal.returns-clause-given
returns-clause-given c = clock_gave c.args.self.now.answers c.args.self.now.calls c.saturating_add-self.result _ (search rules) (search rules)
