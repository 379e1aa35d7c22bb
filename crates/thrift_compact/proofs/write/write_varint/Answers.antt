use Rattle.thrift_compact.proofs.Appending.{keeps_on, ok_then, byte_more, byte_last}
use Rattle.thrift_compact.proofs.write.write_varint.Goals as goal

pub bytes-preserved : goal.bytes-preserved
bytes-preserved c = record {
  written = byte_more _ c.bytes.out.items c.push.new.out.items c.bytes.number c.bytes.invariant.written c.bytes-test.true c.in_ok-push.ensures.ok;
  front = keeps_on _ _ _ c.bytes.invariant.front c.in_ok-push.ensures.front;
}

pub returns-clause-ok : goal.returns-clause-ok
returns-clause-ok c = ok_then c.push-2.result c.push-2.ensures.ok (byte_last _ c.bytes.out.items c.push-2.new.out.items c.bytes.number c.bytes.invariant.written c.bytes-test.false)
