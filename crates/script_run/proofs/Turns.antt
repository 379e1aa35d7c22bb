-- Statement after statement.
use Rattle.std.proofs.Common.{◌≡◌, ℕ, ◌+◌, ◌<◌, ◌≤◌, List, [], ◌∷◌, ◌++◌, length, take, drop, get_or, add-one, append-nil, append_assoc, Option, Some, None, Result, Ok, Err, inl, inr, refl, sym, ◌∙◌, subst}
use Rattle.std.proofs.Math.Seq.{drop-cons}
use Rattle.std.proofs.Math.ListN.{drop_of_length-le}
use Rattle.std.specs.Io.KnownBytes.{Appends, Keeps, IsAtEnd}
use Rattle.dm_store.specs.Streams.{Writes}
use Rattle.dm_store.specs.declared.faults.SinkFault.{SinkFault}
use Rattle.dm_store.specs.declared.faults.SinkFault.TheVariants as sink
use Rattle.dm_types.specs.declared.refusal.Refused.{Refused}
use Rattle.sql_statements.specs.declared.Stmt.{Stmt}
use Rattle.script_run.specs.declared.status.Status.{Status}
use Rattle.script_run.specs.declared.status.Status.TheVariants as status
use Rattle.script_run.specs.Running.{Answer, Answers, with_stop, text_of, Runs, done, accepted, refused, stopped, unnamed, cut, starved, unwritten}
use Rattle.table_write.specs.Outside.{Outside}
use Rattle.dm_types.specs.declared.refusal.Stop.TheVariants as stop
use Rattle.script_run.specs.declared.outcome.Outcome.{Outcome}
use Rattle.script_run.specs.Ran.{IsBeforeStatements, ReadsSource, EndsLine, whole, line_cut, line_unwritten}
use Rattle.script_run.specs.Reaching.{RunsOne, RunsAll, status_of_fault}

-- bytes that were written one after the other
pub appends_more : (old mid new : Option (List ℕ)) (first second : List ℕ) → Appends old mid first → Appends mid new second → Appends old new (first ++ second)
appends_more None mid new first second before after = tt
appends_more (Some xs) None new first second before after = absurd before
appends_more (Some xs) (Some ys) None first second before after = absurd after
appends_more (Some xs) (Some ys) (Some zs) first second before after = after ∙ rw before (append_assoc xs first second)

pub appends_none : (old new : Option (List ℕ)) → Keeps old new → Appends old new []
appends_none None new kept = tt
appends_none (Some xs) None kept = absurd kept
appends_none (Some xs) (Some ys) kept = kept ∙ sym (append-nil xs)

pub appends_same : (old : Option (List ℕ)) → Appends old old []
appends_same None = tt
appends_same (Some xs) = sym (append-nil xs)

-- ---- one statement

-- its text isn't written
pub put_fails : (root : List ℕ) (number : ℕ) (first : Stmt) (files files_new : Outside) (old new : Option (List ℕ)) (answer : Answer) (piece : List ℕ) (fault : SinkFault) (result : Result (Unit {0}) Status)
    → Answers root first files (with_stop answer) files_new → piece ≡ text_of number answer → Writes piece old new (Err fault) → result ≡ Err (status_of_fault fault) → RunsOne root number first files files_new old new result
put_fails root number first files files_new old new answer piece sink.Failed result answered is (count, within, written) ends =
    rw ends (take count piece, written, λ more. rw is (cut number first more files files_new answer count answered))
put_fails root number first files files_new old new answer piece sink.Memory result answered is kept ends =
    rw ends ([], appends_none old new kept, λ more. unwritten number first more files files_new answer answered)

-- its refusal is written
pub put_refused : {root : List ℕ} (number : ℕ) (first : Stmt) (files files_new : Outside) (old new : Option (List ℕ)) (refusal : Refused) (piece : List ℕ)
    → Answers root first files (Err (stop.Refused refusal)) files_new → piece ≡ text_of number (Err refusal) → Appends old new piece → RunsOne root number first files files_new old new (Err status.Refused)
put_refused number first files files_new old new refusal piece answered is written =
    (piece, written, λ more. rw is (refused number first more files files_new refusal answered))

-- there was no memory for the line of its refusal
pub line_unmade : (root : List ℕ) (number : ℕ) (first : Stmt) (files files_new : Outside) (old : Option (List ℕ)) (answer : Answer) (result : Result (Unit {0}) Status)
    → Answers root first files (with_stop answer) files_new → result ≡ Err status.NoMemory → RunsOne root number first files files_new old old result
line_unmade root number first files files_new old answer result answered ends =
    rw ends ([], appends_same old, λ more. unwritten number first more files files_new answer answered)

pub store_fails : {root : List ℕ} (number : ℕ) (first : Stmt) (files files_new : Outside) (old : Option (List ℕ)) → Answers root first files (Err stop.Store) files_new → RunsOne root number first files files_new old old (Err status.StoreFailed)
store_fails number first files files_new old left = ([], appends_same old, λ more. stopped number first more files files_new left)

pub names_fail : {root : List ℕ} (number : ℕ) (first : Stmt) (files files_new : Outside) (old : Option (List ℕ)) → Answers root first files (Err stop.Names) files_new → RunsOne root number first files files_new old old (Err status.NamesFailed)
names_fail number first files files_new old left = ([], appends_same old, λ more. unnamed number first more files files_new left)

pub memory_fails : {root : List ℕ} (number : ℕ) (first : Stmt) (files files_new : Outside) (old : Option (List ℕ)) → Answers root first files (Err stop.Memory) files_new → RunsOne root number first files files_new old old (Err status.NoMemory)
memory_fails number first files files_new old left = ([], appends_same old, λ more. starved number first more files files_new left)

-- ---- all statements

-- the statement at a place, with those behind it
at_place : (statements : List Stmt) (count : ℕ) (first : Stmt) → count < length statements → first ≡ get_or statements count first → drop count statements ≡ first ∷ drop (count + 1) statements
at_place statements count first within is = drop-cons statements count first within ∙ rw (← is, ← add-one count) refl

-- the first statements were accepted: what a run of the others makes, behind the texts that are written, the whole run makes
pub record AreAccepted (root : List ℕ) (statements : List Stmt) (count : ℕ) (files now : Outside) (old new : Option (List ℕ)) : Type 0 where
  pub text : List ℕ
  pub written : Appends old new text
  pub onward : (files_new : Outside) (rest : List ℕ) (end : Status) → Runs root (count + 1) (drop count statements) now files_new rest end → Runs root 1 statements files files_new (text ++ rest) end

pub accepted_none : {root : List ℕ} (statements : List Stmt) (files : Outside) (old : Option (List ℕ)) → AreAccepted root statements 0 files files old old
accepted_none statements files old = record { text = []; written = appends_same old; onward = λ files_new rest end runs. runs }

pub accepted_more : {root : List ℕ} (statements : List Stmt) (count : ℕ) (files mid now : Outside) (old between new : Option (List ℕ)) (first : Stmt)
    → AreAccepted root statements count files mid old between → count < length statements → first ≡ get_or statements count first → RunsOne root (count + 1) first mid now between new (Ok tt) → AreAccepted root statements (count + 1) files now old new
accepted_more {root} statements count files mid now old between new first so_far within is (text, answered, written) = record {
  text = so_far.text ++ text;
  written = appends_more old between new so_far.text text so_far.written written;
  onward = λ files_new rest end runs.
      let next : Runs root (count + 1) (first ∷ drop (count + 1) statements) mid files_new (text ++ rest) end = accepted (count + 1) first (drop (count + 1) statements) mid now files_new text rest end answered runs in
      subst (λ (all : List ℕ). Runs root 1 statements files files_new all end) (sym (append_assoc so_far.text text rest)) (so_far.onward files_new (text ++ rest) end (rw (at_place statements count first within is) next));
}

pub accepted_ends : {root : List ℕ} (statements : List Stmt) (count : ℕ) (files mid now : Outside) (old between new : Option (List ℕ)) (first : Stmt) (end : Status)
    → AreAccepted root statements count files mid old between → count < length statements → first ≡ get_or statements count first → RunsOne root (count + 1) first mid now between new (Err end) → RunsAll root statements files now old new end
accepted_ends statements count files mid now old between new first end so_far within is (text, written, runs) =
    (so_far.text ++ text, appends_more old between new so_far.text text so_far.written written, so_far.onward now text end (rw (at_place statements count first within is) (runs (drop (count + 1) statements))))

pub accepted_all : {root : List ℕ} (statements : List Stmt) (count : ℕ) (files now : Outside) (old new : Option (List ℕ)) → AreAccepted root statements count files now old new → length statements ≤ count → RunsAll root statements files now old new status.Done
accepted_all {root} statements count files now old new so_far past =
    (so_far.text, so_far.written, subst (λ (all : List ℕ). Runs root 1 statements files now all status.Done) (append-nil so_far.text) (so_far.onward now [] status.Done (rw (drop_of_length-le statements past) (done (count + 1) now))))

-- ---- statements that were run

-- statements end a run in no way that comes before them
pub runs_on : {root : List ℕ} {number : ℕ} {statements : List Stmt} {old new : Outside} {text : List ℕ} {how : Status} → Runs root number statements old new text how → IsBeforeStatements how → ⊥
runs_on (done number old) (inl e) = cc
runs_on (done number old) (inr (inl e)) = cc
runs_on (done number old) (inr (inr e)) = cc
runs_on (accepted number first more old mid new text rest how answered runs) before = runs_on runs before
runs_on (refused number first more old new refusal answered) (inl e) = cc
runs_on (refused number first more old new refusal answered) (inr (inl e)) = cc
runs_on (refused number first more old new refusal answered) (inr (inr e)) = cc
runs_on (stopped number first more old new halted) (inl e) = cc
runs_on (stopped number first more old new halted) (inr (inl e)) = cc
runs_on (stopped number first more old new halted) (inr (inr e)) = cc
runs_on (unnamed number first more old new halted) (inl e) = cc
runs_on (unnamed number first more old new halted) (inr (inl e)) = cc
runs_on (unnamed number first more old new halted) (inr (inr e)) = cc
runs_on (cut number first more old new answer count answered) (inl e) = cc
runs_on (cut number first more old new answer count answered) (inr (inl e)) = cc
runs_on (cut number first more old new answer count answered) (inr (inr e)) = cc
runs_on (starved number first more old new halted) (inl e) = cc
runs_on (starved number first more old new halted) (inr (inl e)) = cc
runs_on (starved number first more old new halted) (inr (inr e)) = cc
runs_on (unwritten number first more old new answer answered) (inl e) = cc
runs_on (unwritten number first more old new answer answered) (inr (inl e)) = cc
runs_on (unwritten number first more old new answer answered) (inr (inr e)) = cc

-- ---- what was read of the source

pub statements_read : {root : List ℕ} {number : ℕ} {statements : List Stmt} {old new : Outside} {text : List ℕ} {ended : Status} (left now : Option (List ℕ)) → Runs root number statements old new text ended → IsAtEnd now → ReadsSource ended left now
statements_read left now (done number files) at_end = at_end
statements_read left now (accepted number first more old mid new text rest end answered runs) at_end = statements_read left now runs at_end
statements_read left now (refused number first more old new refusal answered) at_end = at_end
statements_read left now (stopped number first more old new halted) at_end = at_end
statements_read left now (unnamed number first more old new halted) at_end = tt
statements_read left now (cut number first more old new answer count answered) at_end = tt
statements_read left now (starved number first more old new halted) at_end = tt
statements_read left now (unwritten number first more old new answer answered) at_end = tt

-- a line that ends the run leaves the source as it was
pub line_read_on : {line : Outcome} {text : List ℕ} {how : Status} (left now : Option (List ℕ)) → EndsLine line text how → ReadsSource line.status left now → ReadsSource how left now
line_read_on left now (whole line) before = before
line_read_on left now (line_cut line count) before = tt
line_read_on left now (line_unwritten line) before = tt
