use Rattle.std.proofs.Common.{◌≡◌, ◌-◌, ◌^◌, ◌<◌, ◌≤◌, drop}
use Rattle.sql_lex.specs.Numbers.{digits, spelled_from}
use Rattle.sql_lex.proofs.numbers.spelled_from.Given as goal

abbrev pub invariant-loop-byte : goal.invariant-loop-byte
invariant-loop-byte l = record {
  spells : spelled_from l.number (drop l.byte-index l.bytes) ≡ spelled_from l.fn.number l.bytes;
  few : digits (drop l.byte-index l.bytes) ≤ 38;
  below : l.number < 10 ^ (38 - digits (drop l.byte-index l.bytes));
}
