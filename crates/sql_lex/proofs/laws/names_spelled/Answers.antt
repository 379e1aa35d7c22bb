use Rattle.sql_lex.proofs.Spelling.{names_again, names_spelled}
use Rattle.sql_lex.proofs.laws.names_spelled.Goals as goal

pub returns : goal.returns
returns c = record { spelled = names_spelled; again = names_again }
