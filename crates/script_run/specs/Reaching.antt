-- The steps of a run: what is due is reached, and statement after statement is run and written.
use Rattle.std.specs.Prelude.{◌≡◌, ℕ, List, [], ◌∷◌, Option, IfSome, Result, Ok, Err, ⊤, ◌⊎◌}
use Rattle.std.specs.Io.KnownBytes.{Appends, IsAtEnd}
use Rattle.dm_store.specs.Causes.{Rose}
use Rattle.dm_store.specs.declared.faults.SinkFault.{SinkFault}
use Rattle.dm_store.specs.declared.faults.SinkFault.TheVariants as sink
use Rattle.script_run.specs.declared.halt.Halt.{Halt}
use Rattle.script_run.specs.declared.halt.Halt.TheVariants as halt
use Rattle.script_run.specs.declared.outcome.Outcome.{Outcome}
use Rattle.script_run.specs.declared.outcome.Due.{Due}
use Rattle.script_run.specs.declared.outcome.Due.TheVariants as due
use Rattle.sql_statements.specs.declared.Stmt.{Stmt}
use Rattle.script_run.specs.declared.status.Status.{Status}
use Rattle.script_run.specs.declared.status.Status.TheVariants as status
use Rattle.script_run.specs.Outcome.{IsDue}
use Rattle.script_run.specs.Script.{IsScript, IsNoScript}
use Rattle.sql_reader.specs.declared.fault.ScriptFault.{ScriptFault}
use Rattle.sql_reader.specs.declared.fault.ScriptFault.TheVariants as fault
use Rattle.script_run.specs.Ran.{ReadsSource, Counters, Blames, EndsLine}
use Rattle.table_write.specs.Outside.{Outside}
use Rattle.script_run.specs.Running.{Answers, Runs}

-- what some script makes due, the source's where it tells its bytes; or the source failed, which only a run without
-- words asks
abbrev pub Reaches : {W : Type 0} → List W → Option (List ℕ) → Result Due Halt → Type 0
Reaches words left (Ok what) = (script : List ℕ) × IfSome left (λ bytes. script ≡ bytes) × IsDue words script what
Reaches words left (Err halt.Source) = words ≡ []
Reaches words left (Err halt.Memory) = ⊤

-- what was read of the source before
abbrev pub ReadsBefore : Result Due Halt → Option (List ℕ) → Option (List ℕ) → Type 0
ReadsBefore (Ok (due.Ends ending)) old new = ReadsSource ending.status old new
ReadsBefore (Ok (due.Runs statements)) old new = IsAtEnd new
ReadsBefore (Err halt.Source) old new = ⊤
ReadsBefore (Err halt.Memory) old new = ⊤

-- what reading a script answers
abbrev pub ReadsScript : List ℕ → Result (List Stmt) ScriptFault → Type 0
ReadsScript script (Ok statements) = IsScript script statements
ReadsScript script (Err (fault.BadScript at)) = IsNoScript script at
ReadsScript script (Err fault.Memory) = ⊤

abbrev pub SourceCause : Halt → ℕ → ℕ → Type 0
SourceCause halt.Source before now = Rose before now
SourceCause halt.Memory before now = now ≡ before

-- the status of a line that ends a run: no call failed
abbrev pub IsLineStatus : Status → Type 0
IsLineStatus ended = (ended ≡ status.BadWords) ⊎ (ended ≡ status.BadScript)

abbrev pub EndsByLine : Due → Type 0
EndsByLine (due.Ends ending) = IsLineStatus ending.status
EndsByLine (due.Runs statements) = ⊤

-- the line is written, or a failure came before
abbrev pub EndsRun : Outcome → Option (List ℕ) → Option (List ℕ) → Status → Type 0
EndsRun ending old new how = (text : List ℕ) × Appends old new text × EndsLine ending text how

-- the status where a text isn't written
abbrev pub status_of_fault : SinkFault → Status
status_of_fault sink.Failed = status.SinkFailed
status_of_fault sink.Memory = status.NoMemory

-- a statement is run and its text written: the next is run, or the run ends
abbrev pub RunsOne : List ℕ → ℕ → Stmt → Outside → Outside → Option (List ℕ) → Option (List ℕ) → Result (Unit {0}) Status
    → Type 0
RunsOne root number first before after old new (Ok _) =
    (text : List ℕ) × Answers root first before (Ok text) after × Appends old new text
RunsOne root number first before after old new (Err ended) =
    (text : List ℕ) × Appends old new text × ((more : List Stmt) → Runs root number (first ∷ more) before after text ended)

-- statements are run and their texts written
abbrev pub RunsAll : List ℕ → List Stmt → Outside → Outside → Option (List ℕ) → Option (List ℕ) → Status → Type 0
RunsAll root statements before after old new ended =
    (text : List ℕ) × Appends old new text × Runs root 1 statements before after text ended

-- where the run goes on no count rose
abbrev pub BlamesOne : Counters → Counters → Result (Unit {0}) Status → Type 0
BlamesOne before now (Ok _) = now ≡ before
BlamesOne before now (Err ended) = Blames ended before now
