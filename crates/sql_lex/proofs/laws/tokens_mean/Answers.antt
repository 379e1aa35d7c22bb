use Rattle.sql_lex.proofs.Meaning.{tokens_mean}
use Rattle.sql_lex.proofs.laws.tokens_mean.Goals as goal

pub returns : goal.returns
returns c = tokens_mean
