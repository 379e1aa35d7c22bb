-- The steps of a write statement: its checks and its puts.
use Rattle.std.specs.Prelude.{◌≡◌, ℕ, List, [], get_or, Option, Result, Ok, Err, ⊤}
use Rattle.dm_store.specs.Causes.{Rose}
use Rattle.dm_store.specs.Files.{Files, WhereTold}
use Rattle.dm_types.specs.declared.refusal.PutRefusal.TheVariants as clash
use Rattle.dm_types.specs.declared.refusal.Refused.{Refused}
use Rattle.dm_types.specs.declared.refusal.Refused.TheVariants as refused
use Rattle.dm_types.specs.declared.refusal.Stop.{Stop}
use Rattle.dm_types.specs.declared.refusal.Stop.TheVariants as stop
use Rattle.commit_log.specs.Block.{files_of, block_of}
use Rattle.commit_log.specs.Commits.{AllPut, SomePut, IsFirstTaken, IsOvertaken, ReadsBack}
use Rattle.commit_log.specs.declared.new_files.NewFiles.{NewFiles}
use Rattle.table_write.specs.Writing.{version_line}

-- the checks of a write statement answer as this function of the files says, where they are told: with the plan, or
-- with a refusal of the table or of the statement
abbrev pub TellsPlan : {A : Type 0} → Option Files → (Files → Result A Refused) → Result A Stop → Type 0
TellsPlan told checks (Ok plan) = WhereTold told (λ files. checks files ≡ Ok plan)
TellsPlan told checks (Err (stop.Refused (refused.Table refusal))) =
    WhereTold told (λ files. checks files ≡ Err (refused.Table refusal))
TellsPlan told checks (Err (stop.Refused (refused.Statement refusal))) =
    WhereTold told (λ files. checks files ≡ Err (refused.Statement refusal))
TellsPlan told checks (Err (stop.Refused (refused.Put refusal))) = ⊥
TellsPlan told checks (Err stop.Store) = ⊤
TellsPlan told checks (Err stop.Names) = ⊥
TellsPlan told checks (Err stop.Memory) = ⊤

-- the checks of an opened table answer so, unless there was no memory
abbrev pub Passes : Result (Unit {0}) Refused → Result (Unit {0}) Stop → Type 0
Passes known (Ok _) = known ≡ Ok tt
Passes known (Err (stop.Refused refusal)) = known ≡ Err refusal
Passes known (Err stop.Store) = ⊥
Passes known (Err stop.Names) = ⊥
Passes known (Err stop.Memory) = ⊤

-- what putting a new version leaves, by the answer: the files, and the count of the paths that were taken
abbrev pub PutsVersion : NewFiles → Option Files → Option Files → ℕ → ℕ → Result (List ℕ) Stop → Type 0
PutsVersion fresh old new before now (Ok text) =
    AllPut (block_of fresh) old new × (now ≡ before) × ReadsBack fresh × (text ≡ version_line fresh.version)
PutsVersion fresh old new before now (Err (stop.Refused (refused.Table refusal))) = ⊥
PutsVersion fresh old new before now (Err (stop.Refused (refused.Statement refusal))) = ⊥
PutsVersion fresh old new before now (Err (stop.Refused (refused.Put (clash.NameTaken path)))) =
    (index : ℕ) × IsFirstTaken (files_of fresh) index old new × (path ≡ (get_or (files_of fresh) index ([], [])).0)
    × Rose before now
PutsVersion fresh old new before now (Err (stop.Refused (refused.Put (clash.VersionTaken version)))) =
    IsOvertaken fresh old new × (version ≡ fresh.version) × Rose before now
PutsVersion fresh old new before now (Err stop.Store) =
    SomePut (block_of fresh) old new × (now ≡ before) × ReadsBack fresh
PutsVersion fresh old new before now (Err stop.Names) = ⊥
PutsVersion fresh old new before now (Err stop.Memory) = SomePut (files_of fresh) old new × (now ≡ before)
