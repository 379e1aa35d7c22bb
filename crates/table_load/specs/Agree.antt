-- What stays of the states of tables when files are added (PROTOCOL.md, "Delta Log Entries": a version is never written
-- again).
use Rattle.std.specs.Prelude.{◌≡◌, ◌≢◌, ℕ, ◌+◌, ◌<◌, List, [], ◌∷◌, ◌++◌, Some, None, Ok, Err}
use Rattle.dm_store.specs.Files.{Files, lookup}
use Rattle.dm_store.specs.LoggedPath.{path_of}
use Rattle.dm_types.specs.declared.refusal.TableRefusal.TheVariants as refusal
use Rattle.log_replay.specs.declared.numbers.TheConstants.{MAX_COMMITS}
use Rattle.table_load.specs.Held.{held}
use Rattle.table_log.specs.Agree.{AreUnseen}
use Rattle.table_log.specs.Log.{below, log_of, commit_path}
use Rattle.table_log.specs.Versions.{newest_version}

-- a version of the table in a folder
pub data HeldStays (folder : List ℕ) (version : ℕ) (old new : Files) : Type 0 where
  -- holds the same state, or gives the same refusal
  same : held folder version new ≡ held folder version old → HeldStays folder version old new
  -- was refused for a file that is there now
  found : (logged path : List ℕ) → held folder version old ≡ Err (refusal.MissingFile logged)
      → path_of logged ≡ Some path → lookup (below folder path) old ≡ None → lookup (below folder path) new ≢ None
      → HeldStays folder version old new

-- files that are no commit files change no version of any table
abbrev pub HeldByUnseen : Type 0
HeldByUnseen = (files more : Files) (folder : List ℕ) (version : ℕ) → AreUnseen more
    → HeldStays folder version files (files ++ more)

-- unseen files, and behind them the commit file of the version behind the newest of a table with room for one more
-- commit, change that version alone
abbrev pub HeldBesideNext : Type 0
HeldBesideNext = (files more : Files) (folder : List ℕ) (newest : ℕ) (bytes : List ℕ) → AreUnseen more
    → newest + 1 < MAX_COMMITS → newest_version (log_of folder files) ≡ Ok newest
    → (version : ℕ) → version ≢ newest + 1
    → HeldStays folder version files (files ++ (more ++ (commit_path folder (newest + 1), bytes) ∷ []))

-- and none of another table
abbrev pub HeldElsewhere : Type 0
HeldElsewhere = (files more : Files) (folder : List ℕ) (newest : ℕ) (bytes : List ℕ) → AreUnseen more
    → newest + 1 < MAX_COMMITS → newest_version (log_of folder files) ≡ Ok newest
    → (other : List ℕ) (version : ℕ) → other ≢ folder
    → HeldStays other version files (files ++ (more ++ (commit_path folder (newest + 1), bytes) ∷ []))

-- unseen files, and behind them the commit file of a table's first version, change no version of another table
abbrev pub HeldBesideFirst : Type 0
HeldBesideFirst = (files more : Files) (folder : List ℕ) (bytes : List ℕ) → AreUnseen more
    → (other : List ℕ) (version : ℕ) → other ≢ folder
    → HeldStays other version files (files ++ (more ++ (commit_path folder 0, bytes) ∷ []))
