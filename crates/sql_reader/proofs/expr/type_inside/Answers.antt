use Rattle.std.proofs.Common.{arith}
use Rattle.sql_grammar.proofs.Turns.{type_inside_none, type_inside_some}
use Rattle.sql_reader.proofs.expr.type_inside.Goals as goal

pub returns-then-depth-eq0 : goal.returns-then-depth-eq0
returns-then-depth-eq0 c = type_inside_none c.args.source.now c.args.depth c.args.tokens.now (omega arith)

pub returns : goal.returns
returns c = rw (type_inside_some c.args.source.now c.args.depth c.args.tokens.now (omega arith)) c.written_type.ensures
