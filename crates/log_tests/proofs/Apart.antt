-- A data file and a change file don't meet, and neither is a commit file.
use Rattle.std.proofs.Common.{◌≡◌, ℕ, List, [], ◌∷◌, codes, refl}
use Rattle.std.specs.List.{IsDistinct}
use Rattle.dm_store.specs.Files.{Files}
use Rattle.delta_actions.specs.declared.action.Action.{Action}
use Rattle.table_log.specs.Log.{commit_path}
use Rattle.commit_log.specs.Block.{AreApart, files_of}
use Rattle.commit_log.specs.declared.new_files.NewFiles.{NewFiles}

pub apart : (version : ℕ) (table : List ℕ) (files : Files) (actions : List Action) → table ≡ codes "t" → files ≡ (codes "a.parquet", codes "1") ∷ (codes "_change_data/c.parquet", codes "2") ∷ [] → AreApart (record { version = version; table = table; files = files; actions = actions })
unfolding IsDistinct files_of commit_path
apart version table files actions t f = rw (t, f) (record { distinct = ((refl, tt), (tt, tt)); no_commit = refl })
