-- DELETE of all rows: each live file is removed.
use Rattle.std.specs.Prelude.{◌≡◌, ℕ, ◌+◌, ℤ, List, [], ◌∷◌, map, codes, None, Result, Ok, Err, if◌then◌else◌}
use Rattle.dm_store.specs.Files.{Files}
use Rattle.dm_types.specs.Then.{go}
use Rattle.dm_types.specs.declared.refusal.Refused.{Refused}
use Rattle.dm_types.specs.declared.refusal.StatementRefusal.{StatementRefusal}
use Rattle.dm_types.specs.declared.refusal.StatementRefusal.TheVariants as refusal
use Rattle.delta_actions.specs.Removal.{removal_of}
use Rattle.delta_actions.specs.declared.action.Action.{Action}
use Rattle.delta_actions.specs.declared.action.Action.TheVariants as action
use Rattle.log_replay.specs.declared.snapshot.Snapshot.{Snapshot}
use Rattle.table_load.specs.Loaded.{opened_for}
use Rattle.row_rules.specs.Rules.{kept_rules}
use Rattle.table_load.specs.declared.head.Head.{Head}
use Rattle.table_load.specs.declared.loaded.Purpose.TheVariants as purpose
use Rattle.table_load.specs.Properties.{is_on, tracks_rows}
use Rattle.commit_log.specs.declared.new_files.NewFiles.{NewFiles}
use Rattle.table_write.specs.Writing.{of_table, of_statement, Write}

-- rows may be taken away (PROTOCOL.md, "Append-only Tables"), and they have ids
abbrev pub changeable : Snapshot → Result (Unit {0}) StatementRefusal
changeable table =
    if is_on table (codes "delta.appendOnly") then Err refusal.AppendOnly
    else if tracks_rows table then Ok tt
    else Err refusal.RowTrackingOff

-- each rule of an opened table can be kept, and its rows may be taken away
abbrev pub head_check : Head → Result (Unit {0}) Refused
head_check head = go (of_table (kept_rules head)) (λ rules. of_statement (changeable head.snapshot))

-- the table's newest state, if its rows may be deleted, or the first refusal
unfoldable pub deletable : List ℕ → Files → Result Snapshot Refused
deletable table files =
    go (of_table (opened_for purpose.Write table None files)) (λ it.
    go (head_check it.head) (λ _. Ok it.head.snapshot))

-- where the commit comes from, and then a remove for each live file in log order
abbrev pub delete_actions : Snapshot → ℤ → List Action
delete_actions table time =
    action.Info (record { operation = codes "DELETE"; timestamp = time })
    ∷ map (λ add. action.Remove (removal_of time add)) table.live

-- the new version: its commit file alone
abbrev pub deletion : List ℕ → Snapshot → ℤ → NewFiles
deletion folder table time =
    record { version = table.version + 1; table = folder; files = []; actions = delete_actions table time }

-- DELETE FROM a table; it writes no data file, so no path is made of the drawn name
abbrev pub delete_from : List ℕ → Write
delete_from folder = record {
  Plan = Snapshot;
  checks = deletable folder;
  Makes = λ table name time fresh. fresh ≡ deletion folder table time;
}
