use Rattle.std.proofs.Common.{◌≡◌, ◌++◌, ◌+◌, ◌≤◌, drop, length}
use Rattle.std.specs.Option.{option_copied}
use Rattle.table_make.specs.NewColumns.{columns_of}
use Rattle.table_make.proofs.Numbered.{columns_from}
use Rattle.table_make.proofs.new_columns.columns.Given as goal

abbrev pub invariant-loop-element : goal.invariant-loop-element
invariant-loop-element l =
    (columns_of l.partitions (option_copied l.mapping) l.elements
    ≡ l.columns ++ columns_from (length l.columns + 1) l.partitions (option_copied l.mapping) (drop l.element-index l.elements))
    × (length l.columns ≤ l.element-index)
