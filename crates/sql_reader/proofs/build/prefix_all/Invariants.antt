use Rattle.std.proofs.Common.{◌≡◌, length}
use Rattle.sql_grammar.specs.Tree as tree
use Rattle.sql_reader.proofs.build.prefix_all.Given as goal

abbrev pub invariant-inner : goal.invariant-inner
invariant-inner l = tree.all_prefixed (l.fn.tokens, l.fn.expr) ≡ tree.all_prefixed (l.tokens, l.expr)

abbrev pub decreases-inner : goal.decreases-inner
decreases-inner l = length l.tokens
