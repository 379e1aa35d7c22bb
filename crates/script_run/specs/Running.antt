-- Running statements in turn: each sees the files that the one before left, and the first refusal ends the run.
use Rattle.std.specs.Prelude.{◌≡◌, ℕ, ◌+◌, List, [], ◌∷◌, ◌++◌, take, Result, Ok, Err}
use Rattle.dm_types.specs.declared.refusal.Refused.{Refused}
use Rattle.dm_types.specs.declared.refusal.Stop.{Stop}
use Rattle.dm_types.specs.declared.refusal.Stop.TheVariants as stop
use Rattle.table_load.specs.Tells.{Tells}
use Rattle.table_log.specs.Log.{below}
use Rattle.sql_statements.specs.declared.Stmt.{Stmt}
use Rattle.sql_statements.specs.declared.Stmt.TheVariants as stmt
use Rattle.script_run.specs.declared.status.Status.{Status}
use Rattle.script_run.specs.declared.status.Status.TheVariants as status
use Rattle.table_write.specs.Create.{create_table}
use Rattle.table_write.specs.Delete.{delete_from}
use Rattle.script_run.specs.Outcome.{refused_line}
use Rattle.table_write.specs.Outside.{Outside}
use Rattle.script_run.specs.Refusals.{refused_cause}
use Rattle.script_run.specs.Selected.{TellsAnswer, select}
use Rattle.script_run.specs.Shown.{show_files}
use Rattle.script_run.specs.ShownRows.{show_rows}
use Rattle.table_write.specs.Writing.{CarriesOut}

-- the folder of a table below a root; where the root is empty, the table's name
abbrev pub folder_of : List ℕ → List ℕ → List ℕ
folder_of [] table = table
folder_of (byte ∷ root) table = below (byte ∷ root) table

-- a statement on the tables below a root, over the outside before it: its text, its refusal or why it stopped, and the
-- outside that it leaves. Each kind of statement is a case; one that only reads touches nothing, and its answer is a
-- function of the files
abbrev pub Answers : List ℕ → Stmt → Outside → Result (List ℕ) Stop → Outside → Type 0
Answers root (stmt.ShowFiles table) old answer new =
    Tells old.files (show_files (folder_of root table.text)) answer × (new ≡ old)
Answers root (stmt.ShowRows table version) old answer new =
    Tells old.files (show_rows (folder_of root table.text) version) answer × (new ≡ old)
Answers root (stmt.Select items table version condition) old answer new =
    TellsAnswer old.files (select (folder_of root table.text) table.text version items condition) answer × (new ≡ old)
Answers root (stmt.Create create) old answer new =
    CarriesOut (create_table (folder_of root create.table.text) create) old answer new
Answers root (stmt.Delete table) old answer new =
    CarriesOut (delete_from (folder_of root table.text)) old answer new

-- a statement's text, or why it is refused
abbrev pub Answer : Type 0
Answer = Result (List ℕ) Refused

abbrev pub with_stop : Answer → Result (List ℕ) Stop
with_stop (Ok text) = Ok text
with_stop (Err refusal) = Err (stop.Refused refusal)

-- what is written for the answer of the statement with this number
abbrev pub text_of : ℕ → Answer → List ℕ
text_of number (Ok text) = text
text_of number (Err refusal) = refused_line number (refused_cause refusal)

-- statements on the tables below a root, the first of this number, are run in turn over the outside: what they leave,
-- what is written, and how the run ends
pub data Runs (root : List ℕ) : ℕ → List Stmt → Outside → Outside → List ℕ → Status → Type 0 where
  -- no statement is left
  done : (number : ℕ) (old : Outside) → Runs root number [] old old [] status.Done
  -- the first is accepted, its text is written, and the others are run
  accepted : (number : ℕ) (first : Stmt) (more : List Stmt) (old mid new : Outside) (text rest : List ℕ)
      (ended : Status)
      → Answers root first old (Ok text) mid → Runs root (number + 1) more mid new rest ended
      → Runs root number (first ∷ more) old new (text ++ rest) ended
  -- the first is refused, and its line is written
  refused : (number : ℕ) (first : Stmt) (more : List Stmt) (old new : Outside) (refusal : Refused)
      → Answers root first old (Err (stop.Refused refusal)) new
      → Runs root number (first ∷ more) old new (text_of number (Err refusal)) status.Refused
  -- a call of the store failed within the first
  stopped : (number : ℕ) (first : Stmt) (more : List Stmt) (old new : Outside)
      → Answers root first old (Err stop.Store) new → Runs root number (first ∷ more) old new [] status.StoreFailed
  -- the draw of a name failed within the first
  unnamed : (number : ℕ) (first : Stmt) (more : List Stmt) (old new : Outside)
      → Answers root first old (Err stop.Names) new → Runs root number (first ∷ more) old new [] status.NamesFailed
  -- a call of the sink failed, and a front of what was due is written
  cut : (number : ℕ) (first : Stmt) (more : List Stmt) (old new : Outside) (answer : Answer) (count : ℕ)
      → Answers root first old (with_stop answer) new
      → Runs root number (first ∷ more) old new (take count (text_of number answer)) status.SinkFailed
  -- there was no memory within the first, or none to write for it
  starved : (number : ℕ) (first : Stmt) (more : List Stmt) (old new : Outside)
      → Answers root first old (Err stop.Memory) new → Runs root number (first ∷ more) old new [] status.NoMemory
  unwritten : (number : ℕ) (first : Stmt) (more : List Stmt) (old new : Outside) (answer : Answer)
      → Answers root first old (with_stop answer) new → Runs root number (first ∷ more) old new [] status.NoMemory
