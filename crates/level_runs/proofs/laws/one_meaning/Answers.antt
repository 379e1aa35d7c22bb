use Rattle.level_runs.proofs.Using.{meaning_once}
use Rattle.level_runs.proofs.laws.one_meaning.Goals as goal

pub returns : goal.returns
returns c = meaning_once
