-- The files that a new version adds.
use Rattle.std.specs.Prelude.{◌≡◌, ℕ, List, [], ◌∷◌, ◌++◌, map, None}
use Rattle.std.specs.List.{AllByRecursion, IsDistinct}
use Rattle.std.specs.Str.{bytes_eq}
use Rattle.dm_store.specs.Files.{Files, lookup}
use Rattle.delta_actions.specs.Written.{commit_text}
use Rattle.table_log.specs.Log.{below, commit_path}
use Rattle.commit_log.specs.declared.new_files.NewFiles.{NewFiles}

abbrev pub whole_paths : NewFiles → List (List ℕ)
whole_paths fresh = map (λ file. below fresh.table file.0) fresh.files

abbrev pub placed : List ℕ → List ℕ × List ℕ → List ℕ × List ℕ
placed table file = (below table file.0, file.1)

-- the data files and change files, by their whole paths
unfoldable pub files_of : NewFiles → Files
files_of fresh = map (placed fresh.table) fresh.files

-- the path and the bytes of the commit file
abbrev pub commit_file : NewFiles → List ℕ × List ℕ
commit_file fresh = (commit_path fresh.table fresh.version, commit_text fresh.actions)

-- the block of a version: its files in the order of their puts, the commit file last
abbrev pub block_of : NewFiles → Files
block_of fresh = files_of fresh ++ commit_file fresh ∷ []

-- the paths differ, and none is that of the commit file
pub record AreApart (fresh : NewFiles) : Type 0 where
  pub distinct : IsDistinct bytes_eq (whole_paths fresh)
  pub no_commit : lookup (commit_path fresh.table fresh.version) (files_of fresh) ≡ None

-- no file has a path of the block
pub record IsFresh (block files : Files) : Type 0 where
  pub each : AllByRecursion (λ file. lookup file.0 files ≡ None) block
