use Rattle.script_run.proofs.ByteOrder.{sorted_lines}
use Rattle.script_run.proofs.line_order.sort_lines.Goals as goal

pub returns : goal.returns
returns c =
    sorted_lines (λ line. line.items) c.args.lines.now.items c.sort_unstable.new.self.items c.sort_unstable.ensures.permutation c.sort_unstable.ensures.sorted
