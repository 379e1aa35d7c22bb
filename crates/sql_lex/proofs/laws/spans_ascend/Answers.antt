use Rattle.sql_lex.proofs.Standing.{spans_ascend}
use Rattle.sql_lex.proofs.laws.spans_ascend.Goals as goal

pub returns : goal.returns
returns c = spans_ascend
