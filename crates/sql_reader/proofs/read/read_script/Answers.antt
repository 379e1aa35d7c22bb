use Rattle.std.proofs.Common.{rules, length}
use Rattle.std.specs.Prelude.{All}
use Rattle.sql_grammar.specs.Statements.{HoldsStmt, script}
use Rattle.sql_lex.specs.Tokens.{tokens}
use Rattle.sql_reader.proofs.Derived.{found_so, held_so, only_so, place_so}
use Rattle.sql_reader.proofs.read.read_script.Goals as goal

pub returns : goal.returns
returns c =
    let bytes = c.args.bytes.now in
    let ts = c.as_slice.result.now in
    let found = found_so (script bytes) ts (tokens bytes) (search rules) c.script_of.result c.script_of.ensures.found in
    record {
      found = found;
      only = only_so (script bytes) ts (tokens bytes) (search rules) c.script_of.result c.script_of.ensures.only;
      place = place_so (script bytes) ts (tokens bytes) (search rules) c.script_of.result (length bytes) c.script_of.ensures.place;
      holds = held_so (script bytes) (tokens bytes) (All (HoldsStmt c.args.bytes.now)) c.script_of.result (λ a h. c.trees_are_held.ensures.scripts bytes (tokens bytes) a (c.tokens_mean.ensures bytes) (c.spans_ascend.ensures bytes) h) found;
    }
