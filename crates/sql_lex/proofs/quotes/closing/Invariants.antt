use Rattle.std.proofs.Common.{◌≡◌, ◌+◌, length, false}
use Rattle.sql_lex.specs.Quotes.{closing}
use Rattle.sql_lex.proofs.quotes.closing.Given as goal

abbrev pub invariant-loop-bytes : goal.invariant-loop-bytes
invariant-loop-bytes l = (closing l.quote l.second l.at l.bytes ≡ closing l.quote false 0 l.initial.bytes) × (l.at + length l.bytes ≡ length l.initial.bytes)

abbrev pub decreases-loop-bytes : goal.decreases-loop-bytes
decreases-loop-bytes l = length l.bytes
