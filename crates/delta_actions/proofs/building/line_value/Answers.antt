use Rattle.std.proofs.Common.{rules}
use Rattle.delta_actions.specs.Written.{line_data}
use Rattle.delta_actions.proofs.building.line_value.Goals as goal

pub returns-in-Other-clause-value : goal.returns-in-Other-clause-value
unfolding line_data
returns-in-Other-clause-value c = search rules

pub returns-clause-value : goal.returns-clause-value
unfolding line_data
returns-clause-value c = search rules
