use Rattle.table_load.proofs.Plain.{plain}
use Rattle.table_load.proofs.laws.opened_files_are_plain.Goals as goal

pub returns : goal.returns
returns c = plain
