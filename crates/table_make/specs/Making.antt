-- What making a table answers, and what it leaves of the names and the clock.
use Rattle.std.specs.Prelude.{◌≡◌, ◌⊎◌, ℕ, ℤ, List, Option, Some, None, Result, Ok, Err, ⊤}
use Rattle.commit_log.specs.declared.new_files.NewFiles.{NewFiles}
use Rattle.dm_store.specs.Given.{Gave, KeepsGiven}
use Rattle.dm_types.specs.declared.refusal.Refused.TheVariants as refused
use Rattle.dm_types.specs.declared.refusal.StatementRefusal.{StatementRefusal}
use Rattle.dm_types.specs.declared.refusal.StatementRefusal.TheVariants as refusal
use Rattle.dm_types.specs.declared.refusal.Stop.{Stop}
use Rattle.dm_types.specs.declared.refusal.Stop.TheVariants as stop
use Rattle.sql_statements.specs.declared.CreateStmt.{CreateStmt}
use Rattle.table_make.specs.Created.{created}
use Rattle.table_make.specs.Faults.{first_fault}

-- a definition without faults, or the first of them
abbrev pub unless_faulty : Option ℕ → Result (Unit {0}) StatementRefusal
unless_faulty None = Ok tt
unless_faulty (Some at) = Err (refusal.BadDefinition at)

abbrev pub sound : CreateStmt → Result (Unit {0}) StatementRefusal
sound stmt = unless_faulty (first_fault stmt)

-- the names and the times that were given
abbrev pub Given : Type 0
Given = Option (List (List ℕ)) × Option (List ℤ)

-- one name was drawn, and the clock was read once
abbrev pub Drew : Given → Given → List ℕ → ℤ → Type 0
Drew old new name time = Gave old.0 new.0 name × Gave old.1 new.1 time

-- the first version of a table, of one drawn name and one time, where the definition has no fault; else its first fault,
-- before any draw
abbrev pub MakesTable : CreateStmt → List ℕ → Given → Given → Result NewFiles Stop → Type 0
MakesTable stmt table old new (Ok fresh) =
    (sound stmt ≡ Ok tt) × (name : List ℕ) × (time : ℤ) × Drew old new name time × (fresh ≡ created stmt table name time)
MakesTable stmt table old new (Err (stop.Refused (refused.Table why))) = ⊥
MakesTable stmt table old new (Err (stop.Refused (refused.Statement why))) = (sound stmt ≡ Err why) × (new ≡ old)
MakesTable stmt table old new (Err (stop.Refused (refused.Put why))) = ⊥
MakesTable stmt table old new (Err stop.Store) = ⊥
MakesTable stmt table old new (Err stop.Names) = (sound stmt ≡ Ok tt) × KeepsGiven old.0 new.0 × (new.1 ≡ old.1)
MakesTable stmt table old new (Err stop.Memory) =
    (new ≡ old) ⊎ ((sound stmt ≡ Ok tt) × (name : List ℕ) × (time : ℤ) × Drew old new name time)

-- whether a definition has a fault
abbrev pub Judges : CreateStmt → Result (Unit {0}) Stop → Type 0
Judges stmt (Ok _) = sound stmt ≡ Ok tt
Judges stmt (Err (stop.Refused (refused.Table why))) = ⊥
Judges stmt (Err (stop.Refused (refused.Statement why))) = sound stmt ≡ Err why
Judges stmt (Err (stop.Refused (refused.Put why))) = ⊥
Judges stmt (Err stop.Store) = ⊥
Judges stmt (Err stop.Names) = ⊥
Judges stmt (Err stop.Memory) = ⊤
