-- The answer of SHOW FILES: the live files of the newest version, or the first refusal.
use Rattle.std.specs.Prelude.{ℕ, List, [], ◌∷◌, ◌++◌, None, Result, Ok}
use Rattle.std.specs.List.{flat_map}
use Rattle.dm_store.specs.Files.{Files}
use Rattle.dm_types.specs.Order.{in_byte_order}
use Rattle.dm_types.specs.declared.refusal.TableRefusal.{TableRefusal}
use Rattle.dm_types.specs.Then.{go}
use Rattle.dm_text.specs.Printing.{field}
use Rattle.table_log.specs.Log.{log_of}
use Rattle.table_log.specs.Versions.{commits_at}
use Rattle.log_replay.specs.Live.{live_adds, paths_of}

-- a line for each path
abbrev pub path_lines : List (List ℕ) → List ℕ
path_lines paths = flat_map (λ path. field path ++ 10 ∷ []) paths

-- the paths of the table in a folder as logged, in byte order
unfoldable pub show_files : List ℕ → Files → Result (List ℕ) TableRefusal
show_files folder files =
    go (commits_at None (log_of folder files)) (λ commits.
    Ok (path_lines (in_byte_order (paths_of (live_adds commits)))))
