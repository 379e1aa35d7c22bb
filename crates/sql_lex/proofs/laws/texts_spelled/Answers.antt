use Rattle.sql_lex.proofs.Spelling.{texts_again, texts_spelled}
use Rattle.sql_lex.proofs.laws.texts_spelled.Goals as goal

pub returns : goal.returns
returns c = record { spelled = texts_spelled; again = texts_again }
