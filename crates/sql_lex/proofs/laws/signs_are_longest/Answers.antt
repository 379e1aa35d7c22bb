use Rattle.sql_lex.proofs.Longest.{signs_are_longest}
use Rattle.sql_lex.proofs.laws.signs_are_longest.Goals as goal

pub returns : goal.returns
returns c = signs_are_longest
