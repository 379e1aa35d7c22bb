use Rattle.std.proofs.Common.{◌≤◌, length, drop, arith}
use Rattle.std.proofs.lemmas.Grind.{common_steps}
use Rattle.dm_store.proofs.Moves.{take_moves, none_moves}
use Rattle.dm_store.proofs.sure_source.SureSourceSource.take.Goals as goal

pub returns-clause-bytes : goal.returns-clause-bytes
returns-clause-bytes c =
    let enough : c.min-count.result ≤ length (drop c.args.self.now.at c.args.self.now.bytes) = grind (arith, common_steps) in
    (take_moves c.args.self.now.bytes c.copy_from_slice.new.self _ c.args.self.now.at c.min-count.result enough (grind (arith, common_steps)), λ none room. none_moves c.args.self.now.bytes c.args.self.now.at c.min-count.result none (grind (arith, common_steps)))
