-- What stays of tables when files are added (PROTOCOL.md, "Delta Log Entries": a version is never written again).
use Rattle.std.specs.Prelude.{◌≡◌, ◌≢◌, ℕ, ◌+◌, ◌<◌, ◌^◌, List, [], ◌∷◌, ◌++◌, Some, None, Result, Ok}
use Rattle.std.specs.List.{AllByRecursion}
use Rattle.dm_types.specs.declared.refusal.TableRefusal.{TableRefusal}
use Rattle.dm_types.specs.Then.{go}
use Rattle.dm_store.specs.Files.{Files, lookup}
use Rattle.delta_actions.specs.Meaning.{commit_of}
use Rattle.log_replay.specs.Live.{numbered}
use Rattle.log_replay.specs.declared.commits.Commit.{Commit}
use Rattle.log_replay.specs.declared.numbers.TheConstants.{MAX_COMMITS}
use Rattle.table_log.specs.Log.{log_of, version_at, commit_path}
use Rattle.table_log.specs.Versions.{newest_version, commits_at, good_lines}

-- what the log of a table says at a version
abbrev pub said_at : List ℕ → ℕ → Files → Result (List Commit) TableRefusal
said_at table version files = commits_at (Some version) (log_of table files)

-- a version says the same
abbrev pub Stays : List ℕ → ℕ → Files → Files → Type 0
Stays table version old new = said_at table version new ≡ said_at table version old

-- the files agree on every version of every table
pub record Agree (old new : Files) : Type 0 where
  pub all : (table : List ℕ) (version : ℕ) → Stays table version old new

-- they agree on all versions but this one
pub record AgreeBut (table : List ℕ) (version : ℕ) (old new : Files) : Type 0 where
  pub before : (other : ℕ) → other ≢ version → Stays table other old new
  pub elsewhere : (other : List ℕ) (at : ℕ) → other ≢ table → Stays other at old new

-- no table has this path as a commit file
abbrev pub IsUnseen : List ℕ → Type 0
IsUnseen path = (table : List ℕ) → version_at table path ≡ None

pub record AreUnseen (files : Files) : Type 0 where
  pub each : AllByRecursion (λ file. IsUnseen file.0) files

-- files that are no commit files change no version
abbrev pub FrameUnseen : Type 0
FrameUnseen = (files more : Files) → AreUnseen more → Agree files (files ++ more)

-- unseen files, and behind them the commit file of the version behind the newest of a table with room for one more
-- commit, change that version alone
abbrev pub FrameNext : Type 0
FrameNext = (files more : Files) (table : List ℕ) (newest : ℕ) (bytes : List ℕ) → AreUnseen more
    → newest + 1 < MAX_COMMITS → newest_version (log_of table files) ≡ Ok newest
    → AgreeBut table (newest + 1) files (files ++ (more ++ (commit_path table (newest + 1), bytes) ∷ []))

-- what that version then says: the commits before it, and the actions of the file
abbrev pub SaysNext : Type 0
SaysNext = (files more : Files) (table : List ℕ) (newest : ℕ) (bytes : List ℕ) → AreUnseen more
    → newest + 1 < MAX_COMMITS → newest_version (log_of table files) ≡ Ok newest
    → said_at table (newest + 1) (files ++ (more ++ (commit_path table (newest + 1), bytes) ∷ []))
    ≡ go (said_at table newest files) (λ commits.
    go (good_lines (newest + 1) (commit_of bytes)) (λ actions. Ok (commits ++ numbered (newest + 1) actions ∷ [])))

-- the version behind the newest has no file yet
abbrev pub NextIsAbsent : Type 0
NextIsAbsent = (files : Files) (table : List ℕ) (newest : ℕ) → newest + 1 < 2 ^ 63
    → newest_version (log_of table files) ≡ Ok newest → lookup (commit_path table (newest + 1)) files ≡ None

-- ---- the first version of a table

-- unseen files, and behind them the commit file of a table's first version, change no other table
abbrev pub FrameFirst : Type 0
FrameFirst = (files more : Files) (table : List ℕ) (bytes : List ℕ) → AreUnseen more
    → (other : List ℕ) (version : ℕ) → other ≢ table
    → Stays other version files (files ++ (more ++ (commit_path table 0, bytes) ∷ []))

-- where a table had no commit file, its first version then says the actions of the file
abbrev pub SaysFirst : Type 0
SaysFirst = (files more : Files) (table : List ℕ) (bytes : List ℕ) → AreUnseen more → log_of table files ≡ []
    → said_at table 0 (files ++ (more ++ (commit_path table 0, bytes) ∷ []))
    ≡ go (good_lines 0 (commit_of bytes)) (λ actions. Ok (numbered 0 actions ∷ []))

-- a table without commit files has no first version yet
abbrev pub FirstIsAbsent : Type 0
FirstIsAbsent = (files : Files) (table : List ℕ) → log_of table files ≡ [] → lookup (commit_path table 0) files ≡ None
