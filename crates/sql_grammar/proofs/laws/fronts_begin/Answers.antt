use Rattle.token_lang.proofs.Firsts.{front_begins}
use Rattle.sql_grammar.proofs.Fronts.{expression_plain}
use Rattle.sql_grammar.proofs.Statements.{scripts_plain}
use Rattle.sql_grammar.proofs.laws.fronts_begin.Goals as goal

pub returns : goal.returns
returns c = record { scripts = λ bytes front more a r. front_begins (scripts_plain bytes) front more a r; expressions = λ bytes front more a r. front_begins (expression_plain bytes) front more a r }
