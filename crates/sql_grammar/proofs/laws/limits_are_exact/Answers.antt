use Rattle.sql_grammar.proofs.Within.{limits_kept, within_limits}
use Rattle.sql_grammar.proofs.laws.limits_are_exact.Goals as goal

pub returns : goal.returns
returns c = record { within = within_limits; kept = limits_kept }
