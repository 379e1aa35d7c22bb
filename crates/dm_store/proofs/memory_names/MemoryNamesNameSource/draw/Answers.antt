use Rattle.std.proofs.Common.{rules, ◌≡◌, false}
use Rattle.dm_store.specs.Plan.{is_in}
use Rattle.dm_store.proofs.Told.{names_gave}
use Rattle.dm_store.proofs.memory_names.MemoryNamesNameSource.draw.Goals as goal

pub returns-clause-given : goal.returns-clause-given
returns-clause-given c =
    let answered : is_in c.next_fails.new.self.calls c.args.self.now.plan.failing ≡ false = rw (← c.next_fails.ensures.failing, ← c.next_fails.ensures.answer) c.if-next_fails.false in
    rw c.next_fails.ensures.failing (names_gave c.args.self.now.names c.args.self.now.plan.failing c.args.self.now.plan.calls c.next_fails.new.self.calls _ c.next_fails.ensures.calls answered (search rules))
