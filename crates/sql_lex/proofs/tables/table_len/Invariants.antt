use Rattle.std.proofs.Common.{◌≡◌, ◌+◌, length}
use Rattle.sql_lex.specs.Tables.{table_len}
use Rattle.sql_lex.proofs.tables.table_len.Given as goal

abbrev pub invariant-loop-bytes : goal.invariant-loop-bytes
invariant-loop-bytes l = (l.len + table_len l.bytes ≡ table_len l.initial.bytes) × (l.len + length l.bytes ≡ length l.initial.bytes)

abbrev pub decreases-loop-bytes : goal.decreases-loop-bytes
decreases-loop-bytes l = length l.bytes
