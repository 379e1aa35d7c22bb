use Rattle.sql_grammar.proofs.Keeping.{expression_held}
use Rattle.sql_grammar.proofs.Statements.{script_held}
use Rattle.sql_grammar.proofs.laws.trees_are_held.Goals as goal

pub returns : goal.returns
returns c = record { scripts = script_held; expressions = expression_held }
