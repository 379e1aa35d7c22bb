use Rattle.std.proofs.Common.{◌≡◌, drop}
use Rattle.parquet_file.proofs.GroupsRead.{still}
use Rattle.parquet_file.proofs.file.read_groups.Given as goal

abbrev pub invariant-loop-group : goal.invariant-loop-group
invariant-loop-group l = still l.pages l.leaf l.i l.groups l.fn.reader ≡ still l.pages l.leaf l.i (drop l.group-index l.groups) l.reader
