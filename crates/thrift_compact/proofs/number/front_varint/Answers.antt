use Rattle.std.proofs.Common.{sym, arith}
use Rattle.thrift_compact.proofs.VarintLaws.{varint_within, first_ok, no_fault}
use Rattle.thrift_compact.proofs.number.front_varint.Goals as goal

pub overflow_sub-result : goal.overflow_sub-result
overflow_sub-result c =
    let within = varint_within c.args.bytes.now c.in-Ok.number c.varint.new.cursor (rw c.new-cursor.ensures at c.in-Ok.ensures.number) in
    omega (arith, within)

pub returns-in-Ok : goal.returns-in-Ok
returns-in-Ok c = rw c.len.ensures (sym (first_ok c.args.bytes.now c.in-Ok.number c.varint.new.cursor (rw c.new-cursor.ensures at c.in-Ok.ensures.number)))

pub returns-in-Err : goal.returns-in-Err
returns-in-Err c = sym (no_fault c.args.bytes.now _ c.new-cursor.ensures c.in-Err.field-0 c.varint.new.cursor c.in-Err.ensures.number)
