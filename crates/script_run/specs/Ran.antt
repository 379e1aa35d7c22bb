-- What a run leaves: its status, what it wrote, what it read, and the counts of faults.
use Rattle.std.specs.Prelude.{◌≡◌, ℕ, ◌≤◌, List, [], length, take, Option, IfSome, ⊤, ◌⊎◌, ◌==◌, if◌then◌else◌}
use Rattle.std.specs.Io.KnownBytes.{Appends, IsAtEnd}
use Rattle.dm_store.specs.Causes.{Rose}
use Rattle.script_run.specs.declared.status.Status.{Status}
use Rattle.script_run.specs.declared.status.Status.TheVariants as status
use Rattle.script_run.specs.declared.outcome.Outcome.{Outcome}
use Rattle.sql_statements.specs.declared.Stmt.{Stmt}
use Rattle.script_run.specs.declared.outcome.Due.TheVariants as due
use Rattle.script_run.specs.Outcome.{IsDue}
use Rattle.table_write.specs.Outside.{Outside}
use Rattle.script_run.specs.Running.{Runs}
use Rattle.script_run.specs.declared.runs.TheConstants.{MAX_SCRIPT}

-- the number that a run returns
abbrev pub code_of : Status → ℕ
code_of status.Done = 0
code_of status.Refused = 1
code_of status.BadWords = 2
code_of status.BadScript = 3
code_of status.StoreFailed = 4
code_of status.SinkFailed = 5
code_of status.SourceFailed = 6
code_of status.NoMemory = 7
code_of status.NamesFailed = 8

-- the status of a number, those past 8 counting as 8
abbrev pub status_of : ℕ → Status
status_of code =
    if code == 0 then status.Done
    else if code == 1 then status.Refused
    else if code == 2 then status.BadWords
    else if code == 3 then status.BadScript
    else if code == 4 then status.StoreFailed
    else if code == 5 then status.SinkFailed
    else if code == 6 then status.SourceFailed
    else if code == 7 then status.NoMemory
    else status.NamesFailed

-- how often a call of each object failed
pub record Counters : Type 0 where
  pub store : ℕ
  pub sink : ℕ
  pub source : ℕ
  pub names : ℕ

-- the counts of the four objects
abbrev pub counters : ℕ → ℕ → ℕ → ℕ → Counters
counters store sink source names = record { store = store; sink = sink; source = source; names = names }

-- a failure is told only where its object's count rose, and every other count is as at entry
abbrev pub Blames : Status → Counters → Counters → Type 0
Blames status.Done before now = now ≡ before
Blames status.Refused before now = now ≡ before
Blames status.BadWords before now = now ≡ before
Blames status.BadScript before now = now ≡ before
Blames status.StoreFailed before now = Rose before.store now.store × (now ≡ record before { store = now.store })
Blames status.SinkFailed before now = Rose before.sink now.sink × (now ≡ record before { sink = now.sink })
Blames status.SourceFailed before now = Rose before.source now.source × (now ≡ record before { source = now.source })
Blames status.NoMemory before now = now ≡ before
Blames status.NamesFailed before now = Rose before.names now.names × (now ≡ record before { names = now.names })

-- the line that ends a run is written, or a front of it, or nothing for want of memory
pub data EndsLine : Outcome → List ℕ → Status → Type 0 where
  whole : (ending : Outcome) → EndsLine ending ending.text ending.status
  line_cut : (ending : Outcome) (count : ℕ) → EndsLine ending (take count ending.text) status.SinkFailed
  line_unwritten : (ending : Outcome) → EndsLine ending [] status.NoMemory

-- what the words and the script make due is done, or a failure comes before: the outside before and after, what is
-- written, and the status
pub data Does {W : Type 0} (words : List W) (script : List ℕ) : Outside → Outside → List ℕ → Status → Type 0 where
  -- the line is written
  ended : (ending : Outcome) (old : Outside) (text : List ℕ) (how : Status) → IsDue words script (due.Ends ending)
      → EndsLine ending text how → Does words script old old text how
  -- the statements are run, the first with the number 1
  ran : (statements : List Stmt) (old new : Outside) (text : List ℕ) (how : Status)
      → IsDue words script (due.Runs statements) → Runs [] 1 statements old new text how
      → Does words script old new text how
  -- a call of the source failed before the script was read, which only a run without words asks for
  unread : (old : Outside) → words ≡ [] → Does words script old old [] status.SourceFailed
  -- there was no memory
  no_memory : (old : Outside) → Does words script old old [] status.NoMemory

-- what a run with these words did, by the bytes of its source, the outside before and after, what was written before
-- and
-- after, and its status; where the source tells its bytes, they are the script
pub record Ran {W : Type 0} (words : List W) (left : Option (List ℕ)) (before after : Outside)
    (old new : Option (List ℕ)) (status : Status) : Type 0 where
  pub script : List ℕ
  pub text : List ℕ
  pub of_source : IfSome left (λ bytes. script ≡ bytes)
  pub written : Appends old new text
  pub does : Does words script before after text status

-- where statements ran, or the script isn't in the grammar, the source was read to its end; where the words
-- aren't accepted it wasn't touched
abbrev pub ReadsSource : Status → Option (List ℕ) → Option (List ℕ) → Type 0
ReadsSource status.Done old new = IsAtEnd new
ReadsSource status.Refused old new = IsAtEnd new
ReadsSource status.BadWords old new = new ≡ old
ReadsSource status.BadScript old new = IfSome old (λ bytes. length bytes ≤ MAX_SCRIPT → IsAtEnd new)
ReadsSource status.StoreFailed old new = IsAtEnd new
ReadsSource status.SinkFailed old new = ⊤
ReadsSource status.SourceFailed old new = ⊤
ReadsSource status.NoMemory old new = ⊤
ReadsSource status.NamesFailed old new = ⊤

-- before the first statement the store, the clock and the names are untouched
abbrev pub IsBeforeStatements : Status → Type 0
IsBeforeStatements end = (end ≡ status.BadWords) ⊎ (end ≡ status.BadScript) ⊎ (end ≡ status.SourceFailed)
