-- The files of a store as a list of pairs of path and bytes, in the order of their puts.
use Rattle.std.specs.Prelude.{◌≡◌, ◌≢◌, ◌⊎◌, ℕ, ◌+◌, List, [], ◌∷◌, ◌++◌, length, take, drop, slice_index, Option, Some, None, Result, Ok, Err, ⊤, Bool, if◌then◌else◌, ◌&&◌, ◌||◌, ◌==◌, not}
use Rattle.std.specs.Option.{option_map}
use Rattle.std.specs.List.{filter_map, list_any, IsDistinct}
use Rattle.std.specs.List.Sorted.{IsPermutation}
use Rattle.std.specs.Str.{bytes_eq}
use Rattle.std.specs.Map as entries
use Rattle.dm_store.specs.declared.faults.ListFault.{ListFault}
use Rattle.dm_store.specs.declared.faults.ReadFault.{ReadFault}
use Rattle.dm_store.specs.declared.faults.ReadFault.TheVariants as read
use Rattle.dm_store.specs.declared.faults.PutFault.{PutFault}
use Rattle.dm_store.specs.declared.faults.PutFault.TheVariants as put

abbrev pub Files : Type 0
Files = List (List ℕ × List ℕ)

-- the bytes of the path, if a pair has it
abbrev pub lookup : List ℕ → Files → Option (List ℕ)
lookup path files = entries.lookup (bytes_eq path) files

-- no path stands twice
abbrev pub ArePathsDistinct : Files → Type 0
ArePathsDistinct files = IsDistinct bytes_eq (entries.keys_of files)

-- a fact of the files, where they are told
abbrev pub WhereTold : Option Files → (Files → Type 0) → Type 0
WhereTold None P = ⊤
WhereTold (Some files) P = P files

-- the name of a path directly below a folder: what follows the folder and a slash, without another slash
abbrev pub name_below : List ℕ → List ℕ → Option (List ℕ)
name_below dir path =
    let rest = drop (length dir + 1) path in
    if bytes_eq (take (length dir) path) dir && slice_index path (length dir) == 47
    && not (list_any (λ b. b == 47) rest) then Some rest else None

-- the names directly below a folder, in the order of their puts
abbrev pub names_below : List ℕ → Files → List (List ℕ)
names_below dir files = filter_map (λ file. name_below dir file.0) files

-- whether a text is in the list
abbrev pub is_among : List ℕ → List (List ℕ) → Bool
is_among text texts = list_any (bytes_eq text) texts

-- told files with these behind them
abbrev pub appended : Option Files → Files → Option Files
appended told block = option_map (λ files. files ++ block) told

-- what a listing says, where the files are told
abbrev pub Lists : List ℕ → Option Files → Result (List (List ℕ)) ListFault → Type 0
Lists dir told (Ok names) = WhereTold told (λ files. IsPermutation (names_below dir files) names)
Lists dir told (Err e) = ⊤

-- what a listing says that has the names of a list besides: each name once, and those of both
abbrev pub ListsBoth : List ℕ → Files → List (List ℕ) → Result (List (List ℕ)) ListFault → Type 0
ListsBoth dir files added (Ok names) = IsDistinct bytes_eq names
    × ((name : List ℕ) → is_among name names ≡ (is_among name (names_below dir files) || is_among name added))
ListsBoth dir files added (Err e) = ⊤

-- no file has the path
abbrev pub IsAbsent : List ℕ → Option Files → Type 0
IsAbsent path told = WhereTold told (λ files. lookup path files ≡ None)

-- a file has the path
abbrev pub IsPresent : List ℕ → Option Files → Type 0
IsPresent path told = WhereTold told (λ files. lookup path files ≢ None)

-- what a read says
abbrev pub Reads : List ℕ → Option Files → Result (List ℕ) ReadFault → Type 0
Reads path told (Ok bytes) = WhereTold told (λ files. lookup path files ≡ Some bytes)
Reads path told (Err read.Absent) = IsAbsent path told
Reads path told (Err read.Failed) = IsPresent path told
Reads path told (Err read.Memory) = IsPresent path told

-- what a put of a new file does
abbrev pub Puts : List ℕ → List ℕ → Option Files → Option Files → Result (Unit {0}) PutFault → Type 0
Puts path bytes old new (Ok _) = IsAbsent path old × (new ≡ appended old ((path, bytes) ∷ []))
Puts path bytes old new (Err put.Exists) = IsPresent path old × (new ≡ old)
Puts path bytes old new (Err put.Failed) = IsAbsent path old × ((new ≡ old) ⊎ (new ≡ appended old ((path, bytes) ∷ [])))
Puts path bytes old new (Err put.Memory) = IsAbsent path old × (new ≡ old)

-- a listing of told files whose paths differ has each name once
abbrev pub ListsOnce : Type 0
ListsOnce = (dir : List ℕ) (files : Files) (names : List (List ℕ)) → ArePathsDistinct files
    → Lists dir (Some files) (Ok names) → IsDistinct bytes_eq names
