use Rattle.std.proofs.Common.{◌≡◌, true, take}
use Rattle.std.specs.List.{list_all}
use Rattle.data_file.specs.Kinds.{is_kind}
use Rattle.data_file.proofs.kinds.are_kinds.Given as goal

abbrev pub invariant-loop-row : goal.invariant-loop-row
invariant-loop-row l = list_all is_kind (take l.row l.texts.values) ≡ true
