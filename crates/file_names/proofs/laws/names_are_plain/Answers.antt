use Rattle.file_names.proofs.Plain.{long, plain}
use Rattle.file_names.proofs.laws.names_are_plain.Goals as goal

pub returns : goal.returns
returns c drawn = (long drawn, plain drawn)
