use Rattle.std.proofs.Common.{◌≡◌, length}
use Rattle.token_lang.specs.Run.{run_rest}
use Rattle.token_lang.proofs.Loops.{at_end}
use Rattle.sql_grammar.specs.Statements.{run_ended, run_script, first_statement}
use Rattle.sql_reader.proofs.statement.statements.Given as goal

abbrev pub invariant-items : goal.invariant-items
invariant-items l = run_script l.source l.fn.tokens ≡ run_rest at_end first_statement (run_ended l.source) l.all l.tokens

abbrev pub decreases-items : goal.decreases-items
decreases-items l = length l.tokens
