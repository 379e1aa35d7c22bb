use Rattle.delta_actions.specs.Meaning.{commit_of, lines}
use Rattle.delta_actions.proofs.First.{first}
use Rattle.delta_actions.proofs.laws.first_bad_line.Goals as goal

pub returns : goal.returns
unfolding commit_of
returns c = λ bytes line. first (lines bytes) line
