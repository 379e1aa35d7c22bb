use Rattle.token_lang.proofs.Firsts.{one_longest}
use Rattle.sql_grammar.proofs.Fronts.{expression_plain}
use Rattle.sql_grammar.proofs.Statements.{scripts_plain}
use Rattle.sql_grammar.proofs.laws.places_are_one.Goals as goal

pub returns : goal.returns
returns c = record { scripts = λ bytes ts rest other x y. one_longest (scripts_plain bytes) ts rest other x y; expressions = λ bytes ts rest other x y. one_longest (expression_plain bytes) ts rest other x y }
