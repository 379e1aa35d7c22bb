-- What is due, and how its line ends the run.
use Rattle.std.proofs.Common.{◌≡◌, ℕ, ◌+◌, ◌<◌, List, [], ◌∷◌, length, take, ◌==◌, Bool, true, false, Option, Some, None, Ok, Err, refl, sym, subst, ◌∙◌, arith}
use Rattle.std.specs.Prelude.{IfSome, replicate}
use Rattle.std.specs.Io.KnownBytes.{Appends}
use Rattle.std.proofs.lemmas.Bool.Decides.{nat_tests}
use Rattle.std.proofs.lemmas.List.{length-replicate}
use Rattle.table_write.specs.Outside.{Outside}
use Rattle.dm_store.specs.Streams.{Writes}
use Rattle.dm_store.specs.Taking.{TakesAll}
use Rattle.dm_store.specs.declared.faults.SinkFault.{SinkFault}
use Rattle.dm_store.specs.declared.faults.SinkFault.TheVariants as sink
use Rattle.dm_store.specs.declared.taking.TakeFault.TheVariants as fault
use Rattle.script_run.specs.declared.outcome.Due.{Due}
use Rattle.script_run.specs.declared.outcome.Due.TheVariants as due
use Rattle.script_run.specs.declared.outcome.Outcome.{Outcome}
use Rattle.script_run.specs.declared.status.Status.{Status}
use Rattle.script_run.specs.declared.status.Status.TheVariants as status
use Rattle.script_run.specs.Outcome.{ending, usage_line, refused_line, IsDueOf, usage, scripted, too_long}
use Rattle.sql_statements.specs.declared.Stmt.{Stmt}
use Rattle.script_run.specs.Ran.{Ran, whole, line_cut, line_unwritten, ended, ran, unread, no_memory}
use Rattle.script_run.specs.Running.{Runs}
use Rattle.script_run.specs.Reaching.{Reaches, EndsRun, RunsAll, status_of_fault}
use Rattle.script_run.proofs.Turns.{appends_none, appends_same}
use Rattle.script_run.specs.declared.runs.TheConstants.{MAX_SCRIPT}

-- what the source told, or nothing
known : Option (List ℕ) → List ℕ
known None = []
known (Some bytes) = bytes

known_is : (left : Option (List ℕ)) → IfSome left (λ bytes. known left ≡ bytes)
unfolding known
known_is None = tt
known_is (Some bytes) = refl

-- ---- the words

pub words_none : {W : Type 0} (words : List W) (empty : Bool) → empty ≡ (length words == 0) → empty ≡ true → words ≡ []
words_none [] empty is holds = refl
words_none (word ∷ words) empty is holds = absurd (let wrong : (length (word ∷ words) == 0) ≡ true = sym is ∙ holds in grind (arith, nat_tests))

pub due_usage : {W : Type 0} (words : List W) (left : Option (List ℕ)) (line : Outcome) (empty : Bool) → empty ≡ (length words == 0) → empty ≡ false → line ≡ ending status.BadWords usage_line → Reaches words left (Ok (due.Ends line))
due_usage [] left line empty is apart same = absurd (let wrong : true ≡ false = sym is ∙ apart in cc)
due_usage (word ∷ words) left line empty is apart same = (known left, known_is left, rw same (usage (λ e. cc)))

-- ---- the script

-- a list of any length
long : (n : ℕ) → (bytes : List ℕ) × (n < length bytes)
long n = (replicate (n + 1) 0, omega (arith, length-replicate {A = ℕ} (n + 1) 0))

pub due_too_long : {W : Type 0} (words : List W) (left : Option (List ℕ)) (line : Outcome) → words ≡ [] → TakesAll MAX_SCRIPT left (Err fault.TooLong) → line ≡ ending status.BadScript (refused_line 0 (80 ∷ 50 ∷ [])) → Reaches words left (Ok (due.Ends line))
due_too_long words None line none over is = let some = long MAX_SCRIPT in (some.0, tt, rw is (scripted (due.Ends (ending status.BadScript (refused_line 0 (80 ∷ 50 ∷ [])))) none (too_long some.0 some.1)))
due_too_long words (Some bytes) line none over is = (bytes, refl, rw is (scripted (due.Ends (ending status.BadScript (refused_line 0 (80 ∷ 50 ∷ [])))) none (too_long bytes over)))

taken_is : (limit : ℕ) (left : Option (List ℕ)) (script : List ℕ) → TakesAll limit left (Ok script) → IfSome left (λ bytes. script ≡ bytes)
taken_is limit None script taken = tt
taken_is limit (Some bytes) script taken = taken.0

pub due_read : {W : Type 0} (words : List W) (left : Option (List ℕ)) (script text : List ℕ) (what : Due) → words ≡ [] → TakesAll MAX_SCRIPT left (Ok script) → text ≡ script → IsDueOf text what → Reaches words left (Ok what)
due_read words left script text what none taken is of_script = (script, taken_is MAX_SCRIPT left script taken, scripted what none (subst (λ (s : List ℕ). IsDueOf s what) is of_script))

-- ---- the line that ends the run

pub line_fails : (line : Outcome) (old new : Option (List ℕ)) (piece : List ℕ) (fault : SinkFault) (result : Status) → piece ≡ line.text → Writes piece old new (Err fault) → result ≡ status_of_fault fault → EndsRun line old new result
line_fails line old new piece sink.Failed result is (count, within, written) ends = rw ends (take count piece, written, rw is (line_cut line count))
line_fails line old new piece sink.Memory result is kept ends = rw ends ([], appends_none old new kept, line_unwritten line)

pub line_written : (line : Outcome) (old new : Option (List ℕ)) (piece : List ℕ) → piece ≡ line.text → Appends old new piece → EndsRun line old new line.status
line_written line old new piece is written = (piece, written, rw is (whole line))

-- ---- what was due is done

pub line_ran : {W : Type 0} (words : List W) (left : Option (List ℕ)) (found : Outside) (old new : Option (List ℕ)) (line : Outcome) (end : Status) → Reaches words left (Ok (due.Ends line)) → EndsRun line old new end → Ran words left found found old new end
line_ran words left found old new line end (script, of_source, is) (text, written, ends) =
    record { script = script; text = text; of_source = of_source; written = written; does = ended line found text end is ends }

pub statements_ran : {W : Type 0} (words : List W) (left : Option (List ℕ)) (files files_new : Outside) (old new : Option (List ℕ)) (statements : List Stmt) (end : Status) (root : List ℕ) → root ≡ []
    → Reaches words left (Ok (due.Runs statements)) → RunsAll root statements files files_new old new end → Ran words left files files_new old new end
statements_ran words left files files_new old new statements end root none (script, of_source, is) (text, written, runs) =
    record { script = script; text = text; of_source = of_source; written = written; does = ran statements files files_new text end is (subst (λ (r : List ℕ). Runs r 1 statements files files_new text end) none runs) }

pub source_failed : {W : Type 0} (words : List W) (left : Option (List ℕ)) (files : Outside) (old : Option (List ℕ)) → words ≡ [] → Ran words left files files old old status.SourceFailed
source_failed words left files old none = record { script = known left; text = []; of_source = known_is left; written = appends_same old; does = unread files none }

pub memory_failed : {W : Type 0} (words : List W) (left : Option (List ℕ)) (files : Outside) (old : Option (List ℕ)) → Ran words left files files old old status.NoMemory
memory_failed words left files old =
    record { script = known left; text = []; of_source = known_is left; written = appends_same old; does = no_memory files }
