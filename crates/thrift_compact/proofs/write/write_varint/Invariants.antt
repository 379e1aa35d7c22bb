use Rattle.std.proofs.Common.{◌≡◌, ◌++◌}
use Rattle.thrift_compact.specs.Steps.{KeepsFront}
use Rattle.thrift_compact.specs.Written as w
use Rattle.thrift_compact.proofs.write.write_varint.Given as goal

abbrev pub invariant-bytes : goal.invariant-bytes
invariant-bytes l = record {
  written : l.fn.out.items ++ w.varint l.fn.number ≡ l.out.items ++ w.varint l.number;
  front : KeepsFront l.fn.out.items l.out.items;
}

abbrev pub decreases-bytes : goal.decreases-bytes
decreases-bytes l = l.number
