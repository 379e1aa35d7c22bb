use Rattle.std.proofs.Common.{arith}
use Rattle.sql_grammar.proofs.Turns.{opening_none, opening_some}
use Rattle.sql_reader.proofs.expr.open.Goals as goal

pub returns-then-depth-eq0 : goal.returns-then-depth-eq0
returns-then-depth-eq0 c = opening_none c.args.depth c.args.kind c.args.tokens.now (omega arith)

pub returns : goal.returns
returns c = rw (opening_some c.args.depth c.args.kind c.args.tokens.now (omega arith)) c.take.ensures
