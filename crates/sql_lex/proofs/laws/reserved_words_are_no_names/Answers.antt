use Rattle.sql_lex.proofs.Reserved.{reserved_words}
use Rattle.sql_lex.proofs.laws.reserved_words_are_no_names.Goals as goal

pub returns : goal.returns
returns c = reserved_words
