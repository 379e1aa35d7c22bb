use Rattle.std.proofs.Common.{◌≡◌, ◌++◌, drop, false}
use Rattle.sql_lex.specs.Content.{halved}
use Rattle.sql_lex.proofs.content.halved.Given as goal

abbrev pub invariant-loop-byte : goal.invariant-loop-byte
invariant-loop-byte l = halved l.quote false l.bytes ≡ l.content ++ halved l.quote l.second (drop l.byte-index l.bytes)
