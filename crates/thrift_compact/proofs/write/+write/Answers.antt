use Rattle.thrift_compact.proofs.Appending.{keeps_on}
use Rattle.thrift_compact.proofs.WriteTurns.{field_turn}
use Rattle.thrift_compact.proofs.write.+write.Goals as goal

pub write_fields-fields-preserved : goal.write_fields-fields-preserved
write_fields-fields-preserved t c = record {
  written = field_turn _ c.fields.out.items c.write_field.new.out.items c.args.fields.now c.fields.index c.index-fields-index.result c.fields.invariant.written c.fields-test.true c.index-fields-index.is c.in_ok-write_field.ensures.ok;
  front = keeps_on _ c.fields.out.items _ c.fields.invariant.front c.in_ok-write_field.ensures.front;
}
