use Rattle.std.specs.Prelude.{Ok}
use Rattle.dm_text.proofs.InRange.{ranged}
use Rattle.dm_text.proofs.laws.what_reads_is_in_range.Goals as goal

pub returns : goal.returns
returns c = λ kind text value well read. ranged kind text (Ok value) well read
