use Rattle.std.proofs.Common.{rules}
use Rattle.dm_text.proofs.Clocks.{no_moment}
use Rattle.dm_text.proofs.moments.read_moment.Goals as goal

pub returns-in_err-clock : goal.returns-in_err-clock
returns-in_err-clock c = rw (no_moment c.args.day.now c.args.time.now c.in_err-clock.ensures.cases) (search rules)
