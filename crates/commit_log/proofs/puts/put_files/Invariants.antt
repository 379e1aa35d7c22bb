use Rattle.std.proofs.Common.{◌≡◌, take}
use Rattle.commit_log.specs.StepsPutting.{with_paths}
use Rattle.commit_log.specs.Commits.{AllPut}
use Rattle.commit_log.proofs.puts.put_files.Given as goal

abbrev pub invariant-loop-index : goal.invariant-loop-index
invariant-loop-index g l = record {
  put : AllPut (take l.index (with_paths l.paths l.files)) (g.S.Store.files l.fn.store) (g.S.Store.files l.store);
  faults : g.S.Store.faults l.store ≡ g.S.Store.faults l.fn.store;
  taken : g.S.Store.taken l.store ≡ g.S.Store.taken l.fn.store;
}
