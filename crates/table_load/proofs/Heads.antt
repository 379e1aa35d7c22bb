-- The head of a table, from its commits.
use Rattle.std.proofs.Common.{◌≡◌, ℕ, List, Option, Result, Ok, Err, refl, ◌∙◌}
use Rattle.dm_store.specs.Files.{Files, WhereTold}
use Rattle.delta_schema.specs.declared.schema.ColumnDef.{ColumnDef}
use Rattle.column_mapping.specs.declared.mode.Mode.{Mode}
use Rattle.dm_types.specs.Then.{go}
use Rattle.dm_types.specs.declared.refusal.Stop.{Stop}
use Rattle.dm_types.specs.declared.refusal.TableRefusal.{TableRefusal}
use Rattle.log_replay.specs.Replay.{snapshot_of}
use Rattle.log_replay.specs.declared.commits.Commit.{Commit}
use Rattle.log_replay.specs.declared.snapshot.Snapshot.{Snapshot}
use Rattle.table_features.specs.Features.{read_fault}
use Rattle.table_log.specs.Log.{log_of}
use Rattle.table_log.specs.Versions.{commits_at}
use Rattle.table_load.specs.Head.{columns_in, head_at, head_of, mode_in, readable, state_of, unless_fault, with_columns}
use Rattle.table_load.specs.StepsLoading.{Gives}
use Rattle.table_load.specs.Tells.{Tells}
use Rattle.table_load.specs.declared.head.Head.{Head}
use Rattle.table_load.proofs.InTurn.{gives_same, gives_stops, goes_on, tells_follows, tells_stops, told}

-- ---- over files

pub head_stops : (files : Option Files) (table : List ℕ) (asked : Option ℕ) (why : Stop) (answer : Result Head Stop) → answer ≡ Err why → Tells files (λ all. commits_at asked (log_of table all)) (Err why) → Tells files (λ all. head_at asked (log_of table all)) answer
unfolding head_at
head_stops files table asked why answer is here = tells_stops (List Commit) Head (λ value. value) (λ value. value) files (λ all. commits_at asked (log_of table all)) (λ _. head_of) why answer here is

pub head_follows : (files : Option Files) (table : List ℕ) (asked : Option ℕ) (commits : List Commit) (answer : Result Head Stop) → WhereTold files (λ all. commits_at asked (log_of table all) ≡ Ok commits) → Gives (head_of commits) answer → Tells files (λ all. head_at asked (log_of table all)) answer
unfolding head_at
head_follows files table asked commits answer here gives =
    tells_follows Head (λ value. value) files files (λ all. commits_at asked (log_of table all)) (λ _. head_of) commits answer refl here (told Head (λ value. value) files (head_of commits) answer gives)

-- ---- its columns

abbrev moded : Snapshot → List ColumnDef → Result Head TableRefusal
moded table columns = go (mode_in table columns) (λ mode. Ok (record { snapshot = table; schema = columns; mode = mode }))

columns_are : (table : Snapshot) → with_columns table ≡ go (columns_in table) (moded table)
unfolding with_columns
columns_are table = refl

pub no_columns : (table : Snapshot) (why : Stop) (answer : Result Head Stop) → answer ≡ Err why → Gives (columns_in table) (Err why) → Gives (with_columns table) answer
no_columns table why answer is gives = gives_stops (List ColumnDef) Head (λ value. value) (λ value. value) (columns_in table) (moded table) (with_columns table) why answer (columns_are table) gives is

behind_columns : (table : Snapshot) (columns : List ColumnDef) → columns_in table ≡ Ok columns → with_columns table ≡ moded table columns
behind_columns table columns read = columns_are table ∙ goes_on (columns_in table) (moded table) columns read

pub no_mode : (table : Snapshot) (columns : List ColumnDef) (why : Stop) (answer : Result Head Stop) → answer ≡ Err why → columns_in table ≡ Ok columns → Gives (mode_in table columns) (Err why) → Gives (with_columns table) answer
no_mode table columns why answer is read gives =
    gives_stops Mode Head (λ value. value) (λ value. value) (mode_in table columns) (λ mode. Ok (record { snapshot = table; schema = columns; mode = mode })) (with_columns table) why answer (behind_columns table columns read) gives is

pub has_columns : (table : Snapshot) (columns : List ColumnDef) (mode : Mode) → columns_in table ≡ Ok columns → mode_in table columns ≡ Ok mode → with_columns table ≡ Ok (record { snapshot = table; schema = columns; mode = mode })
has_columns table columns mode read mapped = behind_columns table columns read ∙ goes_on (mode_in table columns) (λ m. Ok (record { snapshot = table; schema = columns; mode = m })) mode mapped

-- ---- its state

abbrev read_and_columned : Snapshot → Result Head TableRefusal
read_and_columned table = go (readable table) with_columns

pub no_state : (commits : List Commit) (why : Stop) (answer : Result Head Stop) → answer ≡ Err why → Gives (state_of (snapshot_of commits)) (Err why) → Gives (head_of commits) answer
no_state commits why answer is gives = gives_stops Snapshot Head (λ value. value) (λ value. value) (state_of (snapshot_of commits)) read_and_columned (head_of commits) why answer refl gives is

readable_stops : (table : Snapshot) (why : Stop) (answer : Result Snapshot Stop) → answer ≡ Err why → Gives (unless_fault table.protocol (read_fault table.protocol)) (Err why) → Gives (readable table) answer
readable_stops table why answer is gives = gives_stops (Unit {0}) Snapshot (λ value. value) (λ value. value) (unless_fault table.protocol (read_fault table.protocol)) (λ _. Ok table) (readable table) why answer refl gives is

pub unreadable : (commits : List Commit) (table : Snapshot) (why : Stop) (answer : Result Head Stop) → answer ≡ Err why → state_of (snapshot_of commits) ≡ Ok table → Gives (unless_fault table.protocol (read_fault table.protocol)) (Err why) → Gives (head_of commits) answer
unreadable commits table why answer is known gives =
    gives_stops Snapshot Head (λ value. value) (λ value. value) (readable table) with_columns (head_of commits) why answer (goes_on (state_of (snapshot_of commits)) read_and_columned table known) (readable_stops table why (Err why) refl gives) is

pub headed : (commits : List Commit) (table : Snapshot) (answer : Result Head Stop) → state_of (snapshot_of commits) ≡ Ok table → unless_fault table.protocol (read_fault table.protocol) ≡ Ok tt → Gives (with_columns table) answer → Gives (head_of commits) answer
headed commits table answer known permits gives =
    let read : readable table ≡ Ok table = goes_on (unless_fault table.protocol (read_fault table.protocol)) (λ _. Ok table) tt permits in
    gives_same Head (λ value. value) (with_columns table) (head_of commits) answer (goes_on (state_of (snapshot_of commits)) read_and_columned table known ∙ goes_on (readable table) with_columns table read) gives
