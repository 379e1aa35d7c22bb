use Rattle.std.proofs.Common.{◌≡◌, length}
use Rattle.log_replay.specs.Live.{AreNumbered}
use Rattle.table_load.proofs.Reading.{AreRead}
use Rattle.table_load.proofs.log.read_commits.Given as goal

abbrev pub invariant-loop-version : goal.invariant-loop-version
invariant-loop-version g l = record {
  files : g.S.Store.files l.store ≡ g.S.Store.files l.fn.store;
  faults : g.S.Store.faults l.store ≡ g.S.Store.faults l.fn.store;
  taken : g.S.Store.taken l.store ≡ g.S.Store.taken l.fn.store;
  count : length l.commits ≡ l.version;
  numbers : AreNumbered 0 l.commits;
  read : AreRead l.table l.version l.commits (g.S.Store.files l.fn.store);
}
