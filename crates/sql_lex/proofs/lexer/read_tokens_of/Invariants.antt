use Rattle.std.proofs.Common.{◌≡◌, ◌≤◌, ◌-◌, ◌++◌, length, drop}
use Rattle.sql_lex.specs.Tokens.{scan, tokens}
use Rattle.sql_lex.proofs.lexer.read_tokens_of.Given as goal

abbrev pub invariant-pieces : goal.invariant-pieces
invariant-pieces l = (tokens l.bytes ≡ l.tokens ++ scan 0 l.at l.before (drop l.at l.bytes)) × (l.at ≤ length l.bytes)

abbrev pub decreases-pieces : goal.decreases-pieces
decreases-pieces l = length l.bytes - l.at
