use Rattle.delta_actions.specs.Meaning.{commit_of, lines}
use Rattle.delta_actions.proofs.Formed.{read_formed}
use Rattle.delta_actions.proofs.laws.good_forms.Goals as goal

pub returns : goal.returns
unfolding commit_of
returns c = λ bytes. read_formed (lines bytes)
