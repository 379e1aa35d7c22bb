use Rattle.std.proofs.Common.{◌≡◌, ℕ, List, take}
use Rattle.table_load.specs.Files.{is_path_of}
use Rattle.table_load.specs.Loaded.{come_to}
use Rattle.table_load.specs.StepsFiles.{IsReading}
use Rattle.table_load.specs.StepsLoading.{is_held}
use Rattle.table_load.proofs.Following.{Follows}
use Rattle.table_load.proofs.files.live_files.Given as goal

abbrev pub invariant-loop-add : goal.invariant-loop-add
invariant-loop-add g l = record {
  kept : g.S.Store.files l.store ≡ g.S.Store.files l.fn.store;
  faults : g.S.Store.faults l.store ≡ g.S.Store.faults l.fn.store;
  taken : g.S.Store.taken l.store ≡ g.S.Store.taken l.fn.store;
  follows : Follows (g.S.Store.files l.fn.store) l.folder l.head l.add-index (come_to l.reading);
  paths : (path : List ℕ) → is_held l.paths.keys path ≡ is_path_of (take l.add-index l.head.snapshot.live) path;
  reading : IsReading l.head.schema l.reading;
}
