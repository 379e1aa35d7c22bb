use Rattle.level_runs.proofs.Using.{read_of}
use Rattle.level_runs.proofs.laws.runs_mean.Goals as goal

pub returns : goal.returns
returns c = λ width count used bytes numbers is. let read = read_of width count used bytes numbers is in (read.within, read.means)
