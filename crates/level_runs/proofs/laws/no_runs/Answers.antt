use Rattle.level_runs.proofs.Using.{refused}
use Rattle.level_runs.proofs.laws.no_runs.Goals as goal

pub returns : goal.returns
returns c = refused
