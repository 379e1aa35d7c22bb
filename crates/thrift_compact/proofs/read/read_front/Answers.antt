use Rattle.std.proofs.Common.{arith}
use Rattle.thrift_compact.proofs.StructLaws.{struct_within, fault_within, struct_placed, fault_placed}
use Rattle.thrift_compact.proofs.read.read_front.Goals as goal

pub overflow_sub-result : goal.overflow_sub-result
overflow_sub-result c =
    let within = struct_within c.args.bytes.now c.in-Ok.tree c.fields.new.cursor (rw c.new-cursor.ensures at c.in-Ok.ensures) in
    omega (arith, within)

pub overflow_sub-result-in-Err-Refused : goal.overflow_sub-result-in-Err-Refused
overflow_sub-result-in-Err-Refused c =
    let within = fault_within c.args.bytes.now c.fields.new.cursor (rw (c.in-Err-Refused.field-0-is, c.new-cursor.ensures) at c.in-Err-Refused.ensures) in
    omega (arith, within)

pub returns-in-Ok : goal.returns-in-Ok
returns-in-Ok c = rw c.len.ensures (struct_placed c.args.bytes.now c.in-Ok.tree c.fields.new.cursor (rw c.new-cursor.ensures at c.in-Ok.ensures))

pub returns-in-Err-Refused : goal.returns-in-Err-Refused
returns-in-Err-Refused c = rw c.len-in-Err-Refused.ensures (fault_placed c.args.bytes.now c.fields.new.cursor (rw (c.in-Err-Refused.field-0-is, c.new-cursor.ensures) at c.in-Err-Refused.ensures))
