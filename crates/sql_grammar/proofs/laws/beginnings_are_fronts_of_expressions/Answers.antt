use Rattle.token_lang.proofs.Firsts.{front_begins}
use Rattle.sql_grammar.proofs.Fronts.{any_expr_plain}
use Rattle.sql_grammar.proofs.Growth.{any_expr_grows}
use Rattle.sql_grammar.proofs.laws.beginnings_are_fronts_of_expressions.Goals as goal

pub returns : goal.returns
returns c = record { go_on = λ bytes ts b. (any_expr_grows bytes).goes_on ts b; begin = λ bytes front more a r. front_begins (any_expr_plain bytes) front more a r }
