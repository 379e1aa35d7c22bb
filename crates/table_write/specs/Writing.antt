-- What a write statement leaves, by its answer: its checks come first, then one draw of a name and one reading of the
-- clock, and then its files are put, the commit file last.
use Rattle.std.specs.Prelude.{◌≡◌, ◌⊎◌, ℕ, ℤ, List, ◌∷◌, [], ◌++◌, get_or, codes, Result, Ok, Err}
use Rattle.std.specs.Fmt.{decimal}
use Rattle.dm_store.specs.Causes.{Rose}
use Rattle.dm_store.specs.Files.{Files, WhereTold}
use Rattle.dm_store.specs.Given.{Gave, KeepsGiven}
use Rattle.dm_types.specs.declared.refusal.Refused.{Refused}
use Rattle.dm_types.specs.declared.refusal.Refused.TheVariants as refused
use Rattle.dm_types.specs.declared.refusal.StatementRefusal.{StatementRefusal}
use Rattle.dm_types.specs.declared.refusal.PutRefusal.{PutRefusal}
use Rattle.dm_types.specs.declared.refusal.PutRefusal.TheVariants as clash
use Rattle.dm_types.specs.declared.refusal.TableRefusal.{TableRefusal}
use Rattle.dm_types.specs.declared.refusal.Stop.{Stop}
use Rattle.dm_types.specs.declared.refusal.Stop.TheVariants as stop
use Rattle.commit_log.specs.Block.{files_of, block_of}
use Rattle.commit_log.specs.Commits.{AllPut, SomePut, IsFirstTaken, IsOvertaken, ReadsBack}
use Rattle.commit_log.specs.declared.new_files.NewFiles.{NewFiles}
use Rattle.table_write.specs.Outside.{Outside}

-- a write statement on a table: its checks over the files, and the new version that what they give makes with a drawn
-- name and the time
pub record Write : Type 1 where
  pub Plan : Type 0
  pub checks : Files → Result Plan Refused
  pub Makes : Plan → List ℕ → ℤ → NewFiles → Type 0

-- a refusal of a table, and one of a statement on an opened table
abbrev pub of_table : {A : Type 0} → Result A TableRefusal → Result A Refused
of_table (Ok value) = Ok value
of_table (Err refusal) = Err (refused.Table refusal)

abbrev pub of_statement : {A : Type 0} → Result A StatementRefusal → Result A Refused
of_statement (Ok value) = Ok value
of_statement (Err refusal) = Err (refused.Statement refusal)

-- the text of an accepted write statement
abbrev pub version_line : ℕ → List ℕ
version_line version = codes "version " ++ decimal version ++ 10 ∷ []

-- the checks passed, one name was drawn and the clock was read once, and of these the new version is made
pub record IsMade (w : Write) (old new : Outside) (fresh : NewFiles) : Type 0 where
  pub plan : w.Plan
  pub name : List ℕ
  pub time : ℤ
  pub passed : WhereTold old.files (λ files. w.checks files ≡ Ok plan)
  pub drawn : Gave old.names new.names name
  pub read : Gave old.times new.times time
  pub made : w.Makes plan name time fresh

-- the whole block of the new version was put, each path for the first time
pub record Accepts (w : Write) (old : Outside) (text : List ℕ) (new : Outside) : Type 0 where
  pub fresh : NewFiles
  pub made : IsMade w old new fresh
  pub put : AllPut (block_of fresh) old.files new.files
  pub taken : new.taken ≡ old.taken
  pub built : ReadsBack fresh
  pub line : text ≡ version_line fresh.version

-- the checks refuse, and nothing is touched
abbrev pub Refuses : Write → Outside → Refused → Outside → Type 0
Refuses w old refusal new = WhereTold old.files (λ files. w.checks files ≡ Err refusal) × (new ≡ old)

-- a path of the new files was taken; those before it were put
pub record NameIsTaken (w : Write) (old : Outside) (path : List ℕ) (new : Outside) : Type 0 where
  pub fresh : NewFiles
  pub made : IsMade w old new fresh
  pub index : ℕ
  pub first : IsFirstTaken (files_of fresh) index old.files new.files
  pub path_is : path ≡ (get_or (files_of fresh) index ([], [])).0
  pub taken : Rose old.taken new.taken

-- the commit file was there; the other new files were put
pub record VersionIsTaken (w : Write) (old : Outside) (version : ℕ) (new : Outside) : Type 0 where
  pub fresh : NewFiles
  pub made : IsMade w old new fresh
  pub overtaken : IsOvertaken fresh old.files new.files
  pub version_is : version ≡ fresh.version
  pub taken : Rose old.taken new.taken

-- a put failed: the first files of the block are put, so that the new version is absent or whole
pub record IsCutOff (w : Write) (old new : Outside) : Type 0 where
  pub fresh : NewFiles
  pub made : IsMade w old new fresh
  pub put : SomePut (block_of fresh) old.files new.files
  pub built : ReadsBack fresh
  pub taken : new.taken ≡ old.taken

-- there was no memory behind the draw: the first files are put, and the commit file isn't
pub record IsStarved (w : Write) (old new : Outside) : Type 0 where
  pub fresh : NewFiles
  pub made : IsMade w old new fresh
  pub put : SomePut (files_of fresh) old.files new.files
  pub taken : new.taken ≡ old.taken

-- the checks passed, and the draw failed
pub record IsUnnamed (w : Write) (old new : Outside) : Type 0 where
  pub plan : w.Plan
  pub passed : WhereTold old.files (λ files. w.checks files ≡ Ok plan)
  pub names : KeepsGiven old.names new.names
  pub others : new ≡ record old { names = new.names }

-- the checks passed, and the paths of the new files were not free
abbrev pub FindsTaken : Write → Outside → PutRefusal → Outside → Type 0
FindsTaken w old (clash.NameTaken path) new = NameIsTaken w old path new
FindsTaken w old (clash.VersionTaken version) new = VersionIsTaken w old version new

-- what stands after each answer; a call of the store may fail before the draw and at a put, and memory may be wanting
-- at both
abbrev pub CarriesOut : Write → Outside → Result (List ℕ) Stop → Outside → Type 0
CarriesOut w old (Ok text) new = Accepts w old text new
CarriesOut w old (Err (stop.Refused (refused.Table refusal))) new = Refuses w old (refused.Table refusal) new
CarriesOut w old (Err (stop.Refused (refused.Statement refusal))) new = Refuses w old (refused.Statement refusal) new
CarriesOut w old (Err (stop.Refused (refused.Put refusal))) new = FindsTaken w old refusal new
CarriesOut w old (Err stop.Store) new = (new ≡ old) ⊎ IsCutOff w old new
CarriesOut w old (Err stop.Names) new = IsUnnamed w old new
CarriesOut w old (Err stop.Memory) new = (new ≡ old) ⊎ IsStarved w old new
