use Rattle.std.proofs.Common.{arith}
use Rattle.plain_values.proofs.Truths.{flags_extra, flags_whole, flag_read}
use Rattle.plain_values.proofs.truth.PlainBooleanPlain.read.Goals as goal

pub returns-then-bytes-size-2 : goal.returns-then-bytes-size-2
returns-then-bytes-size-2 c = flags_extra c.args.count c.div_ceil-size.result c.args.bytes.now c.div_ceil-size.ensures c.if-bytes-size-2.true

pub loop-place-preserved : goal.loop-place-preserved
loop-place-preserved c = flag_read c.args.bytes.now c.loop-place.place c.loop-place.flags _ c.flag.result c.loop-place.invariant c.flag.ensures c.in_ok-push.ensures.ok

pub returns : goal.returns
returns c = flags_whole c.args.count c.div_ceil-size.result c.loop-place.place c.args.bytes.now c.loop-place.flags c.div_ceil-size.ensures (omega arith) (omega arith) c.loop-place.invariant
