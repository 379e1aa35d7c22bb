use Rattle.sql_grammar.proofs.Growth.{expression_grows}
use Rattle.sql_grammar.proofs.Statements.{scripts_grow}
use Rattle.sql_grammar.proofs.laws.beginnings_go_on.Goals as goal

pub returns : goal.returns
returns c = record { scripts = λ bytes ts b. (scripts_grow bytes).goes_on ts b; expressions = λ bytes ts b. (expression_grows bytes).goes_on ts b }
