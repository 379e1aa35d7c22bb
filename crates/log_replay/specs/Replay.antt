-- What a log says of its table.
use Rattle.std.specs.Prelude.{◌≡◌, ℕ, ◌-◌, List, length, Option, Some, None, Result, Ok, Err, ⊤}
use Rattle.dm_types.specs.Then.{◌>>=◌}
use Rattle.log_replay.specs.declared.commits.Commit.{Commit}
use Rattle.log_replay.specs.declared.snapshot.ReplayFault.{ReplayFault}
use Rattle.log_replay.specs.declared.snapshot.ReplayFault.TheVariants as fault
use Rattle.log_replay.specs.declared.snapshot.Snapshot.{Snapshot}
use Rattle.log_replay.specs.Force.{in_force, metadata_in, protocol_in, mark_in_force, fallen}
use Rattle.log_replay.specs.Live.{live_adds}

-- the version of the last commit, since the first is 0
abbrev pub newest : List Commit → ℕ
newest commits = length commits - 1

-- the table at the newest version, if a metadata and a protocol are in force
unfoldable pub snapshot_of : List Commit → Option Snapshot
snapshot_of commits = do
  metadata ← in_force metadata_in commits
  protocol ← in_force protocol_in commits
  Some (record {
    version = newest commits;
    metadata = metadata;
    protocol = protocol;
    live = live_adds commits;
    mark = mark_in_force commits;
    fallen = fallen commits;
  })

-- what replaying answers
abbrev pub Replays : Option Snapshot → Result Snapshot ReplayFault → Type 0
Replays known (Ok snapshot) = known ≡ Some snapshot
Replays known (Err fault.NoMetadata) = known ≡ None
Replays known (Err fault.Memory) = ⊤
