use Rattle.sql_lex.proofs.Texts.{same_test}
use Rattle.sql_lex.proofs.words.is_same_word.Goals as goal

pub returns : goal.returns
returns c = same_test _ _ _ c.eq_ignore_ascii_case.ensures.test
