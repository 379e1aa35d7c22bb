use Rattle.std.proofs.Common.{◌≤◌, arith}
use Rattle.column_vectors.proofs.Tested.{count_of-flags_of-le}
use Rattle.column_vectors.specs.Blocks.{flag_at}
use Rattle.column_vectors.proofs.selection.Selection.push.Goals as goal

pub overflow_add-self : goal.overflow_add-self
overflow_add-self c =
    let small : c.self.inside.count ≤ c.self.inside.rows = omega (arith, c.self.invariant.counted, count_of-flags_of-le c.self.inside.rows (flag_at c.self.inside.blocks.items)) in
    grind (arith, small)
