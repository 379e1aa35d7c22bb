use Rattle.std.proofs.Common.{arith}
use Rattle.plain_values.proofs.Cut.{fixed_whole, fixed_extra, fixed_short}
use Rattle.plain_values.proofs.fixed.read_fixed.Goals as goal

pub returns : goal.returns
returns c = record { reads = fixed_whole c.args.size c.args.count c.args.bytes.now (omega arith) }

pub returns-then-bytes-all-2 : goal.returns-then-bytes-all-2
returns-then-bytes-all-2 c = record { reads = fixed_extra c.args.size c.args.count c.args.bytes.now (omega arith) }

pub returns-then-bytes-all : goal.returns-then-bytes-all
returns-then-bytes-all c = record { reads = fixed_short c.args.size c.args.count c.args.bytes.now (omega arith) }
