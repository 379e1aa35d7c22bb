use Rattle.json_text.proofs.Plain.{read-compact_text}
use Rattle.json_text.proofs.laws.plain_reads_back.Goals as goal

pub returns : goal.returns
returns c = read-compact_text
