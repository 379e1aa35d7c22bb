use Rattle.std.proofs.Common.{◌≡◌, length}
use Rattle.token_lang.specs.Run.{run_one, run_rest}
use Rattle.token_lang.proofs.Loops.{at_end}
use Rattle.sql_grammar.specs.Reading.{run_all}
use Rattle.sql_reader.specs.Classes.{is_in}
use Rattle.sql_reader.proofs.expr.prefixes.Given as goal

abbrev pub invariant-items : goal.invariant-items
invariant-items l = run_all (is_in l.class) (run_one (is_in l.class)) l.fn.tokens ≡ run_rest at_end (is_in l.class) (run_one (is_in l.class)) l.all l.tokens

abbrev pub decreases-items : goal.decreases-items
decreases-items l = length l.tokens
