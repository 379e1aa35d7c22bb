use Rattle.std.proofs.Common.{◌≡◌, ℕ, ◌+◌, ◌-◌, ◌*◌, ◌^◌, ◌<◌}
use Rattle.thrift_compact.specs.Reading.{made, varint_of, varint}
use Rattle.thrift_compact.proofs.number.varint.Given as goal

abbrev pub invariant-loop-index : goal.invariant-loop-index
invariant-loop-index l = record {
  number : varint l.width l.fn.cursor ≡ made (λ high. l.number + 2 ^ (7 * l.index) * high) (varint_of (10 - l.index) l.left l.cursor);
  fits : (high : ℕ) → high < 2 ^ l.left → l.number + 2 ^ (7 * l.index) * high < 2 ^ l.width;
}
