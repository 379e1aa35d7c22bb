use Rattle.std.proofs.Common.{rules, arith}
use Rattle.std.proofs.lemmas.Grind.{common_steps}
use Rattle.sql_lex.specs.Words.{word_kind, reserved, placed}
use Rattle.sql_lex.proofs.words.word_kind.Goals as goal

pub returns : goal.returns
unfolding word_kind reserved placed
returns c = first_of (search rules, grind (arith, common_steps))
