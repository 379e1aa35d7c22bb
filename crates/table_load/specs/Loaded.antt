-- What is known of rows that were read, whatever the store.
use Rattle.std.specs.Prelude.{◌≡◌, ℕ, List, length, All, Option, Result, Ok}
use Rattle.data_file.specs.Answers.{AreRanged, HasTypes}
use Rattle.data_file.specs.declared.rows.PartRows.{PartRows}
use Rattle.delta_schema.specs.declared.schema.ColumnDef.{ColumnDef}
use Rattle.dm_store.specs.Files.{Files}
use Rattle.dm_types.specs.Then.{go}
use Rattle.dm_types.specs.Ranges.{IsWellFormed}
use Rattle.dm_types.specs.declared.refusal.TableRefusal.{TableRefusal}
use Rattle.log_replay.specs.declared.snapshot.Snapshot.{Snapshot}
use Rattle.table_load.specs.Files.{Joined}
use Rattle.table_load.specs.Held.{Opened, opened_at}
use Rattle.table_load.specs.OpenedForWriting.{writable}
use Rattle.table_load.specs.StepsFiles.{HasIds}
use Rattle.table_load.specs.declared.files.Reading.{Reading}
use Rattle.table_load.specs.declared.loaded.Loaded.{Loaded}
use Rattle.table_load.specs.declared.loaded.Purpose.{Purpose}
use Rattle.table_load.specs.declared.loaded.Purpose.TheVariants as purpose

-- the rows of a file: columns of the schema's types, each value null or in the range of its type, and none null where
-- the column takes no null; and beside them columns of as many rows
pub record IsPart (schema : List ColumnDef) (part : PartRows) : Type 0 where
  pub types : HasTypes schema part.batch.columns
  pub ranges : AreRanged schema part.batch.columns
  pub beside : HasIds part

-- the rows of a table, the same, each with its id and commit version
pub record IsLoaded (loaded : Loaded) : Type 0 where
  pub kinds : All (λ column. IsWellFormed column.kind) loaded.head.schema
  pub types : HasTypes loaded.head.schema loaded.batch.columns
  pub ranges : AreRanged loaded.head.schema loaded.batch.columns
  pub ids : length loaded.ids ≡ loaded.batch.rows

-- what a reader has read of files
abbrev pub come_to : Reading → Joined
come_to reading = record {
  files = reading.files;
  rows = reading.batch.rows;
  columns = reading.batch.columns;
  ids = reading.ids;
  room = reading.room;
}

-- what `load_table` gives
abbrev pub seen : Loaded → Opened
seen loaded = record {
  head = loaded.head;
  rows = loaded.batch.rows;
  columns = loaded.batch.columns;
  ids = loaded.ids;
  files = loaded.files;
}

-- whether the table may be used so
abbrev pub permitted : Purpose → Snapshot → Result (Unit {0}) TableRefusal
permitted purpose.Read table = Ok tt
permitted purpose.Write table = writable table

-- the table that is opened for a purpose, or the first refusal
unfoldable pub opened_for : Purpose → List ℕ → Option ℕ → Files → Result Opened TableRefusal
opened_for purpose folder asked files =
    go (opened_at folder asked files) (λ it. go (permitted purpose it.head.snapshot) (λ _. Ok it))
