-- What CREATE TABLE leaves of files that are told.
use Rattle.std.specs.Prelude.{◌≡◌, ◌≢◌, ◌⊎◌, ℕ, ℤ, negsuc, List, [], ◌∷◌, Some, None, Ok, Err}
use Rattle.dm_store.specs.Files.{Files}
use Rattle.dm_store.specs.Given.{Gave}
use Rattle.dm_types.specs.declared.refusal.PutRefusal.{PutRefusal}
use Rattle.dm_types.specs.declared.refusal.Refused.TheVariants as refused
use Rattle.dm_types.specs.declared.refusal.Stop.{Stop}
use Rattle.dm_types.specs.declared.refusal.Stop.TheVariants as stop
use Rattle.file_names.specs.Names.{name_of}
use Rattle.log_replay.specs.Live.{numbered}
use Rattle.log_replay.specs.declared.snapshot.Snapshot.{Snapshot}
use Rattle.sql_statements.specs.declared.CreateStmt.{CreateStmt}
use Rattle.table_load.specs.Agree.{HeldStays}
use Rattle.table_load.specs.Held.{TableState, held}
use Rattle.table_log.specs.Agree.{said_at}
use Rattle.table_log.specs.Log.{log_of}
use Rattle.table_make.specs.Created.{actions_of, new_columns, new_metadata, new_protocol}
use Rattle.table_make.specs.Good.{IsWritten}
use Rattle.table_write.specs.Create.{create_table}
use Rattle.table_write.specs.Outside.{Outside}
use Rattle.table_write.specs.Writing.{Accepts, CarriesOut, version_line}

-- a new table as its log says it: no file is live, and no row id is given
abbrev pub new_snapshot : CreateStmt → List ℕ → ℤ → Snapshot
new_snapshot stmt id time = record {
  version = 0;
  metadata = new_metadata stmt id time;
  protocol = new_protocol stmt id;
  live = [];
  mark = negsuc 0;
  fallen = None;
}

-- the state of a new table: the columns, the rules, the properties and the protocol of its definition, and no row
abbrev pub new_state : CreateStmt → List ℕ → ℤ → TableState
new_state stmt id time = record {
  version = 0;
  protocol = new_protocol stmt id;
  metadata = record (new_metadata stmt id time) { schema_string = [] };
  columns = new_columns stmt id;
  mark = negsuc 0;
  rows = [];
}

-- the files have the first version of the table, which is made of the definition, a drawn name and a time; it holds the
-- state of the new table; every version of each other table holds what it held
pub record MakesTable (table : List ℕ) (stmt : CreateStmt) (name : List ℕ) (time : ℤ) (files now : Files) (text : List ℕ)
    : Type 0 where
  pub none : log_of table files ≡ []
  pub said : said_at table 0 now ≡ Ok (numbered 0 (actions_of stmt (name_of name) time) ∷ [])
  pub state : held table 0 now ≡ Ok (new_state stmt (name_of name) time)
  pub elsewhere : (other : List ℕ) (version : ℕ) → other ≢ table → HeldStays other version files now
  pub line : text ≡ version_line 0

-- an accepted CREATE TABLE makes the table, of the name that it drew and the time that it read
abbrev pub CreateMakes : Type 0
CreateMakes = (table text : List ℕ) (stmt : CreateStmt) (old new : Outside) (files : Files)
    → IsWritten stmt → old.files ≡ Some files → Accepts (create_table table stmt) old text new
    → (now : Files) × (new.files ≡ Some now) × (name : List ℕ) × (time : ℤ) × Gave old.names new.names name
    × Gave old.times new.times time × MakesTable table stmt name time files now text

-- the files hold the new table whole
abbrev pub HoldsTable : List ℕ → CreateStmt → Outside → Files → Outside → Type 0
HoldsTable table stmt old files new =
    (now : Files) × (new.files ≡ Some now) × (name : List ℕ) × (time : ℤ) × Gave old.names new.names name
    × Gave old.times new.times time × (text : List ℕ) × MakesTable table stmt name time files now text

-- a CREATE TABLE that isn't accepted leaves the files as they were, unless a put failed: then they may hold the new
-- table whole; and it finds no path taken
pub record LeavesTable (table : List ℕ) (stmt : CreateStmt) (old : Outside) (files : Files) (why : Stop) (new : Outside)
    : Type 0 where
  pub stands : (new.files ≡ Some files) ⊎ ((why ≡ stop.Store) × HoldsTable table stmt old files new)
  pub free : (refusal : PutRefusal) → why ≢ stop.Refused (refused.Put refusal)

abbrev pub CreateStands : Type 0
CreateStands = (table : List ℕ) (stmt : CreateStmt) (old new : Outside) (files : Files) (why : Stop) → IsWritten stmt
    → old.files ≡ Some files → CarriesOut (create_table table stmt) old (Err why) new
    → LeavesTable table stmt old files why new
