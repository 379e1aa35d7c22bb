use Rattle.std.proofs.Common.{[]}
use Rattle.sql_grammar.proofs.Growth.{expression_grows}
use Rattle.sql_grammar.proofs.Statements.{scripts_grow}
use Rattle.sql_grammar.proofs.laws.limits_only_refuse.Goals as goal

pub returns : goal.returns
returns c = record { scripts = λ bytes ts a r. (scripts_grow bytes).into ts a [] r; expressions = λ bytes ts a r. (expression_grows bytes).into ts a [] r }
