use Rattle.std.proofs.Common.{◌∙◌, arith}
use Rattle.std.proofs.Common.{drop}
use Rattle.sql_lex.specs.Numbers.{digits}
use Rattle.sql_lex.proofs.Digits.{byte_spells, byte_room, byte_fits, fewer, in_38}
use Rattle.sql_lex.proofs.numbers.spelled_from.Goals as goal

pub with_byte-number-requires : goal.with_byte-number-requires
with_byte-number-requires c = byte_room c.loop-byte.number c.loop-byte.byte-index c.args.bytes.now c.loop-byte-test.true c.loop-byte.invariant.few c.loop-byte.invariant.below

pub loop-byte-preserved : goal.loop-byte-preserved
loop-byte-preserved c =
    let i = c.loop-byte.byte-index in
    let z = c.args.bytes.now in
    let before = c.loop-byte.invariant in record {
      spells = rw c.with_byte-number.ensures (byte_spells c.loop-byte.number i z c.loop-byte-test.true ∙ before.spells);
      few = omega (arith, fewer c.loop-byte.number i z c.loop-byte-test.true, before.few);
      below = rw c.with_byte-number.ensures (byte_fits c.loop-byte.number i z c.loop-byte-test.true before.few before.below);
    }

pub returns-clause-below : goal.returns-clause-below
returns-clause-below c = in_38 c.loop-byte.number (digits (drop c.loop-byte.byte-index c.args.bytes.now)) c.loop-byte.invariant.below
