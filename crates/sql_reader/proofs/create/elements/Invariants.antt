use Rattle.std.proofs.Common.{◌≡◌, length}
use Rattle.token_lang.specs.Run.{run_rest}
use Rattle.token_lang.proofs.Loops.{at_end}
use Rattle.sql_tree.specs.Kinds.{is}
use Rattle.sql_tree.specs.declared.token.Kind.TheVariants.{Comma}
use Rattle.sql_grammar.specs.Reading.{run_next}
use Rattle.sql_grammar.specs.Create.{run_element, run_elements}
use Rattle.sql_reader.proofs.create.elements.Given as goal

abbrev pub invariant-items : goal.invariant-items
invariant-items l = run_elements l.source l.fn.tokens ≡ run_rest at_end (is Comma) (run_next (run_element l.source)) l.all l.tokens

abbrev pub decreases-items : goal.decreases-items
decreases-items l = length l.tokens
