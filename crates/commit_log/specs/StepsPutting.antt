-- The steps of putting a version: its files one by one, and then the commit file.
use Rattle.std.specs.Prelude.{◌≡◌, ◌⊎◌, ℕ, List, [], ◌∷◌, Option, Result, Ok, Err}
use Rattle.dm_store.specs.Causes.{Rose}
use Rattle.dm_store.specs.Files.{Files, appended, IsAbsent, IsPresent}
use Rattle.commit_log.specs.Commits.{AllPut, SomePut, IsFirstTaken}
use Rattle.commit_log.specs.declared.fault.CommitFault.{CommitFault}
use Rattle.commit_log.specs.declared.fault.CommitFault.TheVariants as fault
use Rattle.commit_log.specs.declared.puts.FileFault.{FileFault}
use Rattle.commit_log.specs.declared.puts.FileFault.TheVariants as file

-- the files under other paths
abbrev pub with_paths : List (List ℕ) → Files → Files
with_paths [] files = []
with_paths (path ∷ paths) [] = []
with_paths (path ∷ paths) (file ∷ files) = (path, file.1) ∷ with_paths paths files

-- putting files that aren't the commit file
abbrev pub PutsFiles : Files → Option Files → Option Files → Result (Unit {0}) FileFault → Type 0
PutsFiles block old now (Ok _) = AllPut block old now
PutsFiles block old now (Err (file.Exists index)) = IsFirstTaken block index old now
PutsFiles block old now (Err file.Failed) = SomePut block old now
PutsFiles block old now (Err file.Memory) = SomePut block old now

-- putting one of them
abbrev pub PutsFile : ℕ → List ℕ → List ℕ → Option Files → Option Files → Result (Unit {0}) FileFault → Type 0
PutsFile index path bytes old now (Ok _) = IsAbsent path old × (now ≡ appended old ((path, bytes) ∷ []))
PutsFile index path bytes old now (Err (file.Exists at)) = (at ≡ index) × IsPresent path old × (now ≡ old)
PutsFile index path bytes old now (Err file.Failed) =
    IsAbsent path old × ((now ≡ old) ⊎ (now ≡ appended old ((path, bytes) ∷ [])))
PutsFile index path bytes old now (Err file.Memory) = IsAbsent path old × (now ≡ old)

abbrev pub PutCause : FileFault → ℕ → ℕ → Type 0
PutCause (file.Exists index) before now = now ≡ before
PutCause file.Failed before now = Rose before now
PutCause file.Memory before now = now ≡ before

abbrev pub PutTaken : FileFault → ℕ → ℕ → Type 0
PutTaken (file.Exists index) before now = Rose before now
PutTaken file.Failed before now = now ≡ before
PutTaken file.Memory before now = now ≡ before

-- putting the commit file
abbrev pub PutsCommit : ℕ → List ℕ → List ℕ → Option Files → Option Files → Result ℕ CommitFault → Type 0
PutsCommit version path bytes old now (Ok found) =
    (found ≡ version) × IsAbsent path old × (now ≡ appended old ((path, bytes) ∷ []))
PutsCommit version path bytes old now (Err (fault.NameTaken taken)) = ⊥
PutsCommit version path bytes old now (Err (fault.VersionTaken found)) =
    (found ≡ version) × IsPresent path old × (now ≡ old)
PutsCommit version path bytes old now (Err fault.Failed) =
    IsAbsent path old × ((now ≡ old) ⊎ (now ≡ appended old ((path, bytes) ∷ [])))
PutsCommit version path bytes old now (Err fault.Memory) = IsAbsent path old × (now ≡ old)
