use Rattle.sql_lex.proofs.Standing.{tokens_alone, tokens_stand}
use Rattle.sql_lex.proofs.laws.tokens_stand.Goals as goal

pub returns : goal.returns
returns c = record { stand = tokens_stand; alone = tokens_alone }
