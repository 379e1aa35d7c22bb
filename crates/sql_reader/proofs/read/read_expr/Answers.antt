use Rattle.std.proofs.Common.{rules, length}
use Rattle.sql_grammar.specs.Grammar.{expression}
use Rattle.sql_grammar.specs.Held.{HoldsExpr}
use Rattle.sql_lex.specs.Tokens.{tokens}
use Rattle.sql_reader.proofs.Derived.{found_so, held_so, only_so, place_so}
use Rattle.sql_reader.proofs.read.read_expr.Goals as goal

pub returns : goal.returns
returns c =
    let bytes = c.args.bytes.now in
    let ts = c.as_slice.result.now in
    let found = found_so (expression bytes) ts (tokens bytes) (search rules) c.expression_of.result c.expression_of.ensures.found in
    record {
      found = found;
      only = only_so (expression bytes) ts (tokens bytes) (search rules) c.expression_of.result c.expression_of.ensures.only;
      place = place_so (expression bytes) ts (tokens bytes) (search rules) c.expression_of.result (length bytes) c.expression_of.ensures.place;
      holds = held_so (expression bytes) (tokens bytes) (HoldsExpr c.args.bytes.now) c.expression_of.result (λ a h. c.trees_are_held.ensures.expressions bytes (tokens bytes) a (c.tokens_mean.ensures bytes) (c.spans_ascend.ensures bytes) h) found;
    }
