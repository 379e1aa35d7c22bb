use Rattle.level_runs.proofs.Using.{read_of, means_fit}
use Rattle.level_runs.proofs.laws.runs_fit.Goals as goal

pub returns : goal.returns
returns c = λ width count used bytes numbers is. let read = read_of width count used bytes numbers is in means_fit width count _ numbers read.means
