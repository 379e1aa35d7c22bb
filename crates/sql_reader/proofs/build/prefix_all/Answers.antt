use Rattle.std.proofs.Common.{◌∙◌}
use Rattle.sql_grammar.proofs.Turns.{prefixed_last}
use Rattle.sql_reader.proofs.build.prefix_all.Goals as goal

pub inner-preserved : goal.inner-preserved
inner-preserved c = rw c.in_ok-expr.ensures (rw c.in-Some.ensures at c.inner.invariant ∙ prefixed_last c.pop.new.self c.in-Some.token c.inner.expr)
