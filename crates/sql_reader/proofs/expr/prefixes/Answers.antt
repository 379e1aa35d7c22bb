use Rattle.std.proofs.Common.{sym}
use Rattle.token_lang.specs.Run.{run_one}
use Rattle.token_lang.proofs.Loops.{collects}
use Rattle.sql_reader.specs.Classes.{is_in}
use Rattle.sql_reader.proofs.expr.prefixes.Goals as goal

pub items-init : goal.items-init
items-init c = rw c.new-all.ensures (sym (collects (is_in c.args.class) (run_one (is_in c.args.class)) c.args.tokens.now))
