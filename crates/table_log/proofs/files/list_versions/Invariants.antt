use Rattle.std.proofs.Common.{◌≡◌, ℕ, take}
use Rattle.std.specs.List.{All, filter_map}
use Rattle.log_replay.specs.Numbers.{is_in}
use Rattle.table_log.specs.Log.{version_of}
use Rattle.table_log.specs.Listed.{IsVersion}
use Rattle.table_log.proofs.files.list_versions.Given as goal

abbrev pub invariant-loop-name : goal.invariant-loop-name
invariant-loop-name g l = record {
  found : (n : ℕ) → is_in n l.versions.keys ≡ is_in n (filter_map version_of (take l.name-index l.name-items));
  small : All IsVersion l.versions.keys;
}
