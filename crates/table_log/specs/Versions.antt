-- The versions of a log, and their commits.
use Rattle.std.specs.Prelude.{ℕ, zero, suc, ◌+◌, List, [], ◌∷◌, ◌++◌, Option, Some, None, Result, Ok, Err, nat_lt, if◌then◌else◌}
use Rattle.std.specs.Map as entries
use Rattle.dm_types.specs.declared.refusal.TableRefusal.{TableRefusal}
use Rattle.dm_types.specs.declared.refusal.TableRefusal.TheVariants as refusal
use Rattle.dm_types.specs.declared.refusal.Counted.TheVariants as counted
use Rattle.dm_types.specs.Then.{go}
use Rattle.delta_actions.specs.declared.action.Action.{Action}
use Rattle.delta_actions.specs.Meaning.{commit_of}
use Rattle.log_replay.specs.Live.{numbered}
use Rattle.log_replay.specs.Numbers.{newest_of}
use Rattle.log_replay.specs.declared.commits.Commit.{Commit}
use Rattle.log_replay.specs.declared.numbers.NumberFault.{NumberFault}
use Rattle.log_replay.specs.declared.numbers.NumberFault.TheVariants as fault
use Rattle.table_log.specs.Log.{Log, bytes_of}

-- why versions are no log, as the refusal of the table
abbrev pub of_numbers : Result ℕ NumberFault → Result ℕ TableRefusal
of_numbers (Ok newest) = Ok newest
of_numbers (Err fault.Nothing) = Err refusal.NoTable
of_numbers (Err fault.TooMany) = Err (refusal.TooLarge counted.Commits)
of_numbers (Err (fault.Gap version)) = Err (refusal.LogGap version)

-- the newest version of a log
unfoldable pub newest_version : Log → Result ℕ TableRefusal
newest_version log = of_numbers (newest_of (entries.keys_of log))

-- the actions of a version, unless a line is none
abbrev pub good_lines : ℕ → Result (List Action) ℕ → Result (List Action) TableRefusal
good_lines version (Ok actions) = Ok actions
good_lines version (Err line) = Err (refusal.BadAction version line)

-- the actions of a version's commit file, if there is one
abbrev pub actions_in : ℕ → Option (List ℕ) → Result (List Action) TableRefusal
actions_in version None = Err (refusal.LogGap version)
actions_in version (Some bytes) = good_lines version (commit_of bytes)

-- the actions of a version
abbrev pub commit_at : Log → ℕ → Result (List Action) TableRefusal
commit_at log version = actions_in version (bytes_of version log)

-- the commit of each version below the bound
unfoldable pub commits_below : Log → ℕ → Result (List Commit) TableRefusal
commits_below log zero = Ok []
commits_below log (suc n) =
    go (commits_below log n) (λ commits. go (commit_at log n) (λ actions. Ok (commits ++ numbered n actions ∷ [])))

-- the version that is asked for, if there is one up to the newest; without a question it is the newest
abbrev pub chosen : Option ℕ → ℕ → Result ℕ TableRefusal
chosen None newest = Ok newest
chosen (Some version) newest = if nat_lt newest version then Err (refusal.NoSuchVersion version) else Ok version

-- the commits up to the version that is asked for, or the first refusal
unfoldable pub commits_at : Option ℕ → Log → Result (List Commit) TableRefusal
commits_at asked log =
    go (newest_version log) (λ newest. go (chosen asked newest) (λ version. commits_below log (version + 1)))
