use Rattle.table_make.proofs.Usable.{writable}
use Rattle.table_make.proofs.laws.created_reads_back.Goals as goal

pub returns : goal.returns
returns c = writable
