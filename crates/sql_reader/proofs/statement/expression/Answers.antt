use Rattle.sql_reader.proofs.Cut.{expression_gives}
use Rattle.sql_reader.proofs.statement.expression.Goals as goal

pub returns : goal.returns
returns c =
    expression_gives c.args.source.now c.args.tokens.now c.new-front.result c.chain-found.new.tokens c.skip.new.self c.chain-found.result c.min-limit.result c.saturating_sub.result
    (rw c.rest-rest.ensures at c.min-limit.ensures) (rw c.rest-rest.ensures at c.new-front.ensures) c.chain-found.ensures (rw c.len.ensures at c.saturating_sub.ensures) c.skip.ensures
