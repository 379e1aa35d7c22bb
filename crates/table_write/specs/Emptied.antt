-- What DELETE leaves of files that are told.
use Rattle.std.specs.Prelude.{◌≡◌, ◌≢◌, ◌⊎◌, ℕ, ◌+◌, List, [], ◌∷◌, ◌++◌, Some, Ok, Err}
use Rattle.dm_store.specs.Files.{Files}
use Rattle.dm_types.specs.declared.refusal.Refused.TheVariants as refused
use Rattle.dm_types.specs.declared.refusal.PutRefusal.{PutRefusal}
use Rattle.dm_types.specs.declared.refusal.Stop.{Stop}
use Rattle.dm_types.specs.declared.refusal.Stop.TheVariants as stop
use Rattle.delta_actions.specs.declared.action.Action.{Action}
use Rattle.log_replay.specs.Live.{live_adds, numbered}
use Rattle.log_replay.specs.declared.commits.Commit.{Commit}
use Rattle.table_load.specs.Agree.{HeldStays}
use Rattle.table_load.specs.Held.{TableState, held}
use Rattle.table_log.specs.Agree.{AgreeBut, said_at}
use Rattle.table_log.specs.Log.{log_of}
use Rattle.table_log.specs.Versions.{newest_version}
use Rattle.table_write.specs.Delete.{delete_from}
use Rattle.table_write.specs.Outside.{Outside}
use Rattle.table_write.specs.Writing.{Accepts, CarriesOut, version_line}

-- the files have one more version of the table, in which no file is live; its commits are those of the version before
-- it and one more; its state is the one before it without rows; every other version of this table and of the others
-- says what it said and holds the state that it held
pub record DeletesAll (table : List ℕ) (files now : Files) (text : List ℕ) : Type 0 where
  pub newest : ℕ
  pub commits : List Commit
  pub actions : List Action
  pub was : newest_version (log_of table files) ≡ Ok newest
  pub said : said_at table newest files ≡ Ok commits
  pub says : said_at table (newest + 1) now ≡ Ok (commits ++ numbered (newest + 1) actions ∷ [])
  pub none : live_adds (commits ++ numbered (newest + 1) actions ∷ []) ≡ []
  pub before : TableState
  pub held_before : held table newest files ≡ Ok before
  pub empty : held table (newest + 1) now ≡ Ok (record before { version = newest + 1; rows = [] })
  pub others : AgreeBut table (newest + 1) files now
  pub stay : (version : ℕ) → version ≢ newest + 1 → HeldStays table version files now
  pub elsewhere : (other : List ℕ) (version : ℕ) → other ≢ table → HeldStays other version files now
  pub line : text ≡ version_line (newest + 1)

-- an accepted DELETE empties the table, in one new version
abbrev pub DeleteEmpties : Type 0
DeleteEmpties = (table text : List ℕ) (old new : Outside) (files : Files) → old.files ≡ Some files
    → Accepts (delete_from table) old text new
    → (now : Files) × (new.files ≡ Some now) × DeletesAll table files now text

-- the files hold the new version whole
abbrev pub IsWhole : List ℕ → Files → Outside → Type 0
IsWhole table files new = (now : Files) × (new.files ≡ Some now) × (text : List ℕ) × DeletesAll table files now text

-- a DELETE that isn't accepted leaves the files as they were, unless a put failed: then they may hold the new version
-- whole; and it finds no path taken
pub record LeavesFiles (table : List ℕ) (files : Files) (why : Stop) (new : Outside) : Type 0 where
  pub stands : (new.files ≡ Some files) ⊎ ((why ≡ stop.Store) × IsWhole table files new)
  pub free : (refusal : PutRefusal) → why ≢ stop.Refused (refused.Put refusal)

abbrev pub DeleteStands : Type 0
DeleteStands = (table : List ℕ) (old new : Outside) (files : Files) (why : Stop) → old.files ≡ Some files
    → CarriesOut (delete_from table) old (Err why) new → LeavesFiles table files why new
