-- What the calls that look into a log answer.
use Rattle.std.specs.Prelude.{◌≡◌, ℕ, ◌<◌, ◌^◌, List, Option, Some, None, Result, Ok, Err, ⊤}
use Rattle.std.specs.BTreeSet.{BTreeSet}
use Rattle.std.specs.Map as entries
use Rattle.dm_store.specs.Files.{Files, WhereTold}
use Rattle.dm_store.specs.declared.faults.ListFault.{ListFault}
use Rattle.dm_store.specs.declared.faults.ReadFault.{ReadFault}
use Rattle.dm_store.specs.declared.faults.ReadFault.TheVariants as read
use Rattle.log_replay.specs.Numbers.{is_in}
use Rattle.table_log.specs.Log.{log_of, bytes_of}

-- a version fits an `i64`
abbrev pub IsVersion : ℕ → Type 0
IsVersion n = n < 2 ^ 63

-- the numbers are the versions of the log, where the files are told
abbrev pub AreVersions : List ℕ → Option Files → List ℕ → Type 0
AreVersions table told numbers =
    WhereTold told (λ files. (n : ℕ) → is_in n numbers ≡ is_in n (entries.keys_of (log_of table files)))

-- a listing gives the versions that have a commit file
abbrev pub ListsVersions : List ℕ → Option Files → Result (BTreeSet ℕ) ListFault → Type 0
ListsVersions table told (Ok versions) = AreVersions table told versions.keys
ListsVersions table told (Err e) = ⊤

-- a read gives the bytes of a version's commit file
abbrev pub ReadsVersion : List ℕ → ℕ → Option Files → Result (List ℕ) ReadFault → Type 0
ReadsVersion table version told (Ok bytes) =
    WhereTold told (λ files. bytes_of version (log_of table files) ≡ Some bytes)
ReadsVersion table version told (Err read.Absent) =
    WhereTold told (λ files. bytes_of version (log_of table files) ≡ None)
ReadsVersion table version told (Err read.Failed) = ⊤
ReadsVersion table version told (Err read.Memory) = ⊤
