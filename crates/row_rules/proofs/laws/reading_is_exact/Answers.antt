use Rattle.row_rules.proofs.Exact.{read_so, reads_so}
use Rattle.row_rules.proofs.laws.reading_is_exact.Goals as goal

pub returns : goal.returns
returns c = λ text x. (read_so text x, reads_so text x)
