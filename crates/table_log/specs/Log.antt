-- The log of a table: the commit files of its folder (PROTOCOL.md, "Delta Log Entries").
use Rattle.std.specs.Prelude.{ℕ, zero, suc, ◌+◌, ◌/◌, ◌%◌, ◌^◌, List, [], ◌∷◌, ◌++◌, Option, Some, None, take, drop, codes, nat_lt, ◌==◌, ◌&&◌, if◌then◌else◌}
use Rattle.std.specs.List.{filter_map}
use Rattle.std.specs.Map as entries
use Rattle.std.specs.Str.{bytes_eq, all_ascii_digits}
use Rattle.std.specs.Str.Parse.{digits_value}
use Rattle.dm_store.specs.Files.{Files, name_below}
use Rattle.dm_types.specs.Then.{◌>>=◌}

-- a path below a folder
abbrev pub below : List ℕ → List ℕ → List ℕ
below folder path = folder ++ 47 ∷ path

-- the folder of the commit files
abbrev pub log_folder : List ℕ → List ℕ
log_folder table = table ++ codes "/_delta_log"

-- a number in decimal digits, with leading zeros up to the width
unfoldable pub digits_of_width : ℕ → ℕ → List ℕ
digits_of_width zero n = []
digits_of_width (suc width) n = digits_of_width width (n / 10) ++ (48 + n % 10) ∷ []

-- the name of a version's commit file
abbrev pub commit_name : ℕ → List ℕ
commit_name version = digits_of_width 20 version ++ codes ".json"

-- its path, below the table's folder
unfoldable pub commit_path : List ℕ → ℕ → List ℕ
commit_path table version = below (log_folder table) (commit_name version)

-- the version that the name of a commit file spells: twenty digits and `.json`, up to 2^63 - 1
unfoldable pub version_of : List ℕ → Option ℕ
version_of name =
    let digits = take 20 name in
    if bytes_eq (drop 20 name) (codes ".json") && all_ascii_digits digits && nat_lt (digits_value 10 digits) (2 ^ 63)
    then Some (digits_value 10 digits) else None

-- the version of a path that is a commit file of the table
unfoldable pub version_at : List ℕ → List ℕ → Option ℕ
version_at table path = name_below (log_folder table) path >>= version_of

-- the commit files of a table as pairs of version and bytes
abbrev pub Log : Type 0
Log = List (ℕ × List ℕ)

abbrev pub with_bytes : Option ℕ → List ℕ → Option (ℕ × List ℕ)
with_bytes None bytes = None
with_bytes (Some version) bytes = Some (version, bytes)

-- in the order of their puts; other files are passed by
unfoldable pub log_of : List ℕ → Files → Log
log_of table files = filter_map (λ file. with_bytes (version_at table file.0) file.1) files

-- the bytes of a version's commit file, if there is one
abbrev pub bytes_of : ℕ → Log → Option (List ℕ)
bytes_of version log = entries.lookup (λ n. n == version) log
