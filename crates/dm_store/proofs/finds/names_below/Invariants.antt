use Rattle.std.proofs.Common.{◌≡◌, take}
use Rattle.dm_store.specs.Files.{names_below}
use Rattle.dm_store.proofs.finds.names_below.Given as goal

abbrev pub invariant-loop-file : goal.invariant-loop-file
invariant-loop-file l = l.names ≡ names_below l.dir (take l.file-index l.files)
