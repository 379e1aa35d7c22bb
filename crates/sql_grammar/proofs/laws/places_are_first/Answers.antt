use Rattle.token_lang.proofs.Firsts.{begins_earlier}
use Rattle.sql_grammar.proofs.Fronts.{expression_plain}
use Rattle.sql_grammar.proofs.Statements.{scripts_plain}
use Rattle.sql_grammar.proofs.laws.places_are_first.Goals as goal

pub returns : goal.returns
returns c = record { scripts = λ bytes front more rest b. begins_earlier (scripts_plain bytes) front more rest b; expressions = λ bytes front more rest b. begins_earlier (expression_plain bytes) front more rest b }
