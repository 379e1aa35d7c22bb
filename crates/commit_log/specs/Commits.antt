-- What putting a new version does.
use Rattle.std.specs.Prelude.{◌≡◌, ℕ, ◌<◌, List, [], length, take, get_or, Option, Result, Ok, Err, ⊤}
use Rattle.dm_store.specs.Causes.{Rose}
use Rattle.dm_store.specs.Files.{Files, WhereTold, appended, IsPresent}
use Rattle.dm_types.specs.declared.refusal.Refused.TheVariants as refused
use Rattle.dm_types.specs.declared.refusal.PutRefusal.TheVariants as clash
use Rattle.dm_types.specs.declared.refusal.Stop.{Stop}
use Rattle.dm_types.specs.declared.refusal.Stop.TheVariants as stop
use Rattle.delta_actions.specs.Meaning.{commit_of}
use Rattle.delta_actions.specs.Writable.{AreWritable}
use Rattle.delta_actions.specs.Written.{commit_text}
use Rattle.table_log.specs.Log.{commit_path}
use Rattle.commit_log.specs.declared.new_files.NewFiles.{NewFiles}
use Rattle.commit_log.specs.declared.fault.CommitFault.{CommitFault}
use Rattle.commit_log.specs.declared.fault.CommitFault.TheVariants as fault
use Rattle.commit_log.specs.Block.{files_of, block_of, IsFresh}

-- these files were put, and none of their paths was there
pub record AllPut (block : Files) (old now : Option Files) : Type 0 where
  pub grown : now ≡ appended old block
  pub fresh : WhereTold old (IsFresh block)

-- the first of these files were put, so many of them
pub record SomePut (block : Files) (old now : Option Files) : Type 0 where
  pub count : ℕ
  pub put : AllPut (take count block) old now

-- the files before this place were put, and the path there was taken
pub record IsFirstTaken (block : Files) (index : ℕ) (old now : Option Files) : Type 0 where
  pub within : index < length block
  pub put : AllPut (take index block) old now
  pub there : IsPresent (get_or block index ([], [])).0 old

-- the files were put, and then the commit file was there
pub record IsOvertaken (fresh : NewFiles) (old now : Option Files) : Type 0 where
  pub put : AllPut (files_of fresh) old now
  pub there : IsPresent (commit_path fresh.table fresh.version) old

-- putting the files of a new version
abbrev pub Commits : NewFiles → Option Files → Option Files → Result ℕ CommitFault → Type 0
Commits fresh old now (Ok version) = (version ≡ fresh.version) × AllPut (block_of fresh) old now
Commits fresh old now (Err (fault.NameTaken path)) =
    (index : ℕ) × IsFirstTaken (files_of fresh) index old now × (path ≡ (get_or (files_of fresh) index ([], [])).0)
Commits fresh old now (Err (fault.VersionTaken version)) = (version ≡ fresh.version) × IsOvertaken fresh old now
Commits fresh old now (Err fault.Failed) = SomePut (block_of fresh) old now
Commits fresh old now (Err fault.Memory) = SomePut (files_of fresh) old now

-- what is written for the new version reads back, if its actions have the forms of their kinds
abbrev pub ReadsBack : NewFiles → Type 0
ReadsBack fresh = AreWritable fresh.actions → commit_of (commit_text fresh.actions) ≡ Ok fresh.actions

-- the same where all of it was built, as before each put
abbrev pub IsBuilt : NewFiles → Result ℕ CommitFault → Type 0
IsBuilt fresh (Ok version) = ReadsBack fresh
IsBuilt fresh (Err (fault.NameTaken path)) = ReadsBack fresh
IsBuilt fresh (Err (fault.VersionTaken version)) = ReadsBack fresh
IsBuilt fresh (Err fault.Failed) = ReadsBack fresh
IsBuilt fresh (Err fault.Memory) = ⊤

-- the count of the store's faults
abbrev pub CommitCause : CommitFault → ℕ → ℕ → Type 0
CommitCause (fault.NameTaken path) before now = now ≡ before
CommitCause (fault.VersionTaken version) before now = now ≡ before
CommitCause fault.Failed before now = Rose before now
CommitCause fault.Memory before now = now ≡ before

-- the count of the paths that were taken
abbrev pub CommitTaken : CommitFault → ℕ → ℕ → Type 0
CommitTaken (fault.NameTaken path) before now = Rose before now
CommitTaken (fault.VersionTaken version) before now = Rose before now
CommitTaken fault.Failed before now = now ≡ before
CommitTaken fault.Memory before now = now ≡ before

-- the stop of a statement whose version wasn't added
abbrev pub stop_of : CommitFault → Stop
stop_of (fault.NameTaken path) = stop.Refused (refused.Put (clash.NameTaken path))
stop_of (fault.VersionTaken version) = stop.Refused (refused.Put (clash.VersionTaken version))
stop_of fault.Failed = stop.Store
stop_of fault.Memory = stop.Memory
