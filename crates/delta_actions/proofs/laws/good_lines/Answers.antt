use Rattle.delta_actions.specs.Meaning.{commit_of, lines}
use Rattle.delta_actions.proofs.First.{good}
use Rattle.delta_actions.proofs.laws.good_lines.Goals as goal

pub returns : goal.returns
unfolding commit_of
returns c = λ bytes. good 1 (lines bytes)
