use Rattle.std.proofs.Common.{◌≡◌, ◌+◌, ◌*◌, ◌++◌, length, drop}
use Rattle.level_runs.specs.Bits.{bits, byte_bits, packed_numbers}
use Rattle.level_runs.proofs.packed.unpack.Given as goal

abbrev pub invariant-loop : goal.invariant-loop
invariant-loop l = record {
  left : bits l.left.have l.left.pending ++ byte_bits l.left.bytes.now ≡ drop (l.counter * l.width) (byte_bits l.packed);
  size : l.left.have + 8 * length l.left.bytes.now + l.counter * l.width ≡ 8 * length l.packed;
  read : l.numbers ≡ l.fn.numbers ++ packed_numbers l.width l.packed l.counter;
}
