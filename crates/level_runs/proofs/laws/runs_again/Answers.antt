use Rattle.level_runs.proofs.Using.{read_again}
use Rattle.level_runs.proofs.laws.runs_again.Goals as goal

pub returns : goal.returns
returns c = read_again
