use Rattle.std.proofs.Common.{◌≡◌, drop}
use Rattle.data_file.specs.Partitions.{text_behind}
use Rattle.data_file.proofs.partitions.text_behind.Given as goal

abbrev pub invariant-loop-at : goal.invariant-loop-at
invariant-loop-at l = text_behind l.rows l.constant-items l.fn.left ≡ text_behind l.rows (drop l.at l.constant-items) l.left
