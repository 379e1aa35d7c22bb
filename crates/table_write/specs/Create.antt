-- CREATE TABLE: the first version of a table that isn't there.
use Rattle.std.specs.Prelude.{◌≡◌, ℕ, List, [], ◌∷◌, Result, Ok, Err}
use Rattle.dm_store.specs.Files.{Files}
use Rattle.dm_types.specs.Then.{go}
use Rattle.dm_types.specs.declared.refusal.Refused.{Refused}
use Rattle.dm_types.specs.declared.refusal.StatementRefusal.{StatementRefusal}
use Rattle.dm_types.specs.declared.refusal.StatementRefusal.TheVariants as refusal
use Rattle.sql_statements.specs.declared.CreateStmt.{CreateStmt}
use Rattle.table_log.specs.Log.{Log, log_of}
use Rattle.table_make.specs.Created.{created}
use Rattle.table_make.specs.Making.{sound}
use Rattle.table_write.specs.Writing.{of_statement, Write}

-- a log without commit files
abbrev pub none_in : Log → Result (Unit {0}) StatementRefusal
none_in [] = Ok tt
none_in (commit ∷ log) = Err refusal.TableExists

-- the table isn't there
abbrev pub absent : List ℕ → Files → Result (Unit {0}) Refused
absent folder files = of_statement (none_in (log_of folder files))

-- it isn't there, and its definition has no fault
unfoldable pub creatable : List ℕ → CreateStmt → Files → Result (Unit {0}) Refused
creatable folder stmt files = go (absent folder files) (λ _. of_statement (sound stmt))

-- CREATE TABLE in a folder
abbrev pub create_table : List ℕ → CreateStmt → Write
create_table folder stmt = record {
  Plan = Unit {0};
  checks = creatable folder stmt;
  Makes = λ _ name time fresh. fresh ≡ created stmt folder name time;
}
