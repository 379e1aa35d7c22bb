use Rattle.token_lang.proofs.Firsts.{front_begins}
use Rattle.sql_grammar.proofs.Statements.{any_scripts_grow, any_scripts_plain}
use Rattle.sql_grammar.proofs.laws.beginnings_are_fronts_of_scripts.Goals as goal

pub returns : goal.returns
returns c = record { go_on = λ bytes ts b. (any_scripts_grow bytes).goes_on ts b; begin = λ bytes front more a r. front_begins (any_scripts_plain bytes) front more a r }
