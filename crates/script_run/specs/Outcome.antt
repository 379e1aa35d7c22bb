-- What the words and the script of a run make due.
use Rattle.std.specs.Prelude.{◌≡◌, ◌≢◌, ℕ, ◌<◌, ◌≤◌, List, [], ◌∷◌, ◌++◌, length, codes}
use Rattle.std.specs.Fmt.{decimal}
use Rattle.script_run.specs.declared.outcome.Outcome.{Outcome}
use Rattle.script_run.specs.declared.outcome.Due.{Due}
use Rattle.script_run.specs.declared.outcome.Due.TheVariants as due
use Rattle.sql_statements.specs.declared.Stmt.{Stmt}
use Rattle.script_run.specs.declared.status.Status.{Status}
use Rattle.script_run.specs.declared.status.Status.TheVariants as status
use Rattle.script_run.specs.Script.{IsScript, IsNoScript}
use Rattle.script_run.specs.declared.runs.TheConstants.{MAX_SCRIPT}

abbrev pub ending : Status → List ℕ → Outcome
ending status text = record { status = status; text = text }

abbrev pub usage_line : List ℕ
usage_line = codes "usage: deltamerge [--root DIR] [--workload N]" ++ 10 ∷ []

-- the statement's number from 1, or 0 for the script, and the cause
abbrev pub refused_line : ℕ → List ℕ → List ℕ
refused_line number cause = codes "refused " ++ decimal number ++ codes ": " ++ cause ++ 10 ∷ []

-- what a script makes due
pub data IsDueOf : List ℕ → Due → Type 0 where
  -- a longer script is refused before it is read for its grammar
  too_long : (script : List ℕ) → MAX_SCRIPT < length script
      → IsDueOf script (due.Ends (ending status.BadScript (refused_line 0 (codes "P2"))))
  -- a script that isn't in the grammar is refused with the place
  bad : (script : List ℕ) (at : ℕ) → length script ≤ MAX_SCRIPT → IsNoScript script at
      → IsDueOf script (due.Ends (ending status.BadScript (refused_line 0 (codes "P1 " ++ decimal at))))
  -- a script of the grammar is run
  good : (script : List ℕ) (statements : List Stmt) → length script ≤ MAX_SCRIPT → IsScript script statements
      → IsDueOf script (due.Runs statements)

-- what these words and this script make due: no words are accepted yet
pub data IsDue {W : Type 0} (words : List W) (script : List ℕ) : Due → Type 0 where
  usage : words ≢ [] → IsDue words script (due.Ends (ending status.BadWords usage_line))
  scripted : (what : Due) → words ≡ [] → IsDueOf script what → IsDue words script what
