-- The answer of SHOW FILES, from the commits that were loaded.
use Rattle.std.proofs.Common.{◌≡◌, ℕ, List, Option, Some, None, Result, Ok, Err, refl, sym, subst}
use Rattle.dm_store.specs.Files.{Files, WhereTold}
use Rattle.dm_types.specs.Order.{in_byte_order}
use Rattle.dm_types.specs.declared.refusal.Refused.TheVariants as refused
use Rattle.dm_types.specs.declared.refusal.Stop.{Stop}
use Rattle.dm_types.specs.declared.refusal.Stop.TheVariants as stop
use Rattle.log_replay.specs.declared.commits.Commit.{Commit}
use Rattle.table_log.specs.Log.{log_of}
use Rattle.table_log.specs.Versions.{commits_at}
use Rattle.log_replay.specs.Live.{live_adds, paths_of}
use Rattle.script_run.specs.Shown.{path_lines, show_files}
use Rattle.table_load.specs.Tells.{Tells}

pub shown : (told : Option Files) (table : List ℕ) (commits : List Commit) (paths sorted : List (List ℕ)) (text : List ℕ) → WhereTold told (λ files. commits_at None (log_of table files) ≡ Ok commits)
    → paths ≡ paths_of (live_adds commits) → sorted ≡ in_byte_order paths → text ≡ path_lines sorted → WhereTold told (λ files. show_files table files ≡ Ok text)
unfolding show_files
shown None table commits paths sorted text loaded live order lines = tt
shown (Some files) table commits paths sorted text loaded live order lines = rw (loaded, lines, order, live) refl

refused_told : (told : Option Files) (table : List ℕ) (why : Stop) → Tells told (λ files. commits_at None (log_of table files)) (Err why) → Tells told (λ files. show_files table files) (Err why)
unfolding show_files
refused_told told table stop.Store loaded = tt
refused_told told table stop.Names loaded = loaded
refused_told told table stop.Memory loaded = tt
refused_told None table (stop.Refused (refused.Table refusal)) loaded = tt
refused_told (Some files) table (stop.Refused (refused.Table refusal)) loaded = rw loaded refl
refused_told told table (stop.Refused (refused.Statement refusal)) loaded = loaded
refused_told told table (stop.Refused (refused.Put refusal)) loaded = loaded

pub not_shown : (told : Option Files) (table : List ℕ) (why : Stop) (answer : Result (List ℕ) Stop) → answer ≡ Err why → Tells told (λ files. commits_at None (log_of table files)) (Err why) → Tells told (λ files. show_files table files) answer
not_shown told table why answer is loaded = subst (λ (r : Result (List ℕ) Stop). Tells told (λ files. show_files table files) r) (sym is) (refused_told told table why loaded)
