-- Whether a table may be written (PROTOCOL.md, "Writer Requirements").
use Rattle.std.specs.Prelude.{ℕ, ◌+◌, Result, Ok, Err, codes, nat_lt, if◌then◌else◌}
use Rattle.dm_types.specs.declared.refusal.TableRefusal.{TableRefusal}
use Rattle.dm_types.specs.declared.refusal.TableRefusal.TheVariants as refusal
use Rattle.dm_types.specs.declared.refusal.Counted.TheVariants as counted
use Rattle.dm_types.specs.Then.{go}
use Rattle.log_replay.specs.declared.numbers.TheConstants.{MAX_COMMITS}
use Rattle.log_replay.specs.declared.snapshot.Snapshot.{Snapshot}
use Rattle.table_features.specs.Features.{write_fault}
use Rattle.table_load.specs.Head.{unless_fault}
use Rattle.table_load.specs.Properties.{is_on}

-- the log has fewer commits than it may have
abbrev pub has_room : ℕ → Result (Unit {0}) TableRefusal
has_room newest = if nat_lt (newest + 1) MAX_COMMITS then Ok tt else Err (refusal.TooLarge counted.Commits)

-- no change files are to be written
abbrev pub keeps_rules : Snapshot → Result (Unit {0}) TableRefusal
keeps_rules table =
    if is_on table (codes "delta.enableChangeDataFeed")
    then Err (refusal.UnsupportedRule (codes "delta.enableChangeDataFeed"))
    else Ok tt

-- the table may be written, or the first refusal
unfoldable pub writable : Snapshot → Result (Unit {0}) TableRefusal
writable table =
    go (unless_fault table.protocol (write_fault table.protocol)) (λ _.
    go (has_room table.version) (λ _. keeps_rules table))
