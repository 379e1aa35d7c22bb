use Rattle.dm_types.proofs.Sorting.{sorted-in_byte_order}
use Rattle.dm_types.proofs.order.sort_texts.Goals as goal

pub returns-clause-order : goal.returns-clause-order
returns-clause-order c = sorted-in_byte_order c.args.texts.now c.sort.new.self c.sort.ensures.permutation c.sort.ensures.sorted
