use Rattle.std.proofs.KnownBytes.{Keeps-trans}
use Rattle.dm_system.proofs.output.write_again.Goals as goal

pub returns-in_default-clause-bytes : goal.returns-in_default-clause-bytes
returns-in_default-clause-bytes g c = Keeps-trans _ _ _ c.loop-turn.invariant c.in-Err.ensures.bytes
