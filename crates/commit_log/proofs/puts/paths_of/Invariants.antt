use Rattle.std.proofs.Common.{◌≡◌, map, take}
use Rattle.table_log.specs.Log.{below}
use Rattle.commit_log.proofs.puts.paths_of.Given as goal

abbrev pub invariant-loop-file : goal.invariant-loop-file
invariant-loop-file l = l.paths ≡ map (λ file. below l.fresh.table file.0) (take l.file-index l.file-items)
