-- What a script makes due.
use Rattle.std.proofs.Common.{◌≡◌, ℕ, ◌≤◌, List, [], ◌++◌, length, Result, Ok, Err, refl, codes}
use Rattle.std.specs.Prelude.{IfOk}
use Rattle.std.specs.Fmt.{decimal}
use Rattle.sql_grammar.specs.Statements as grammar
use Rattle.sql_lex.specs.Tokens.{tokens}
use Rattle.sql_reader.specs.Answers.{IsRead, IsPlace}
use Rattle.sql_reader.specs.declared.fault.ScriptFault.{ScriptFault}
use Rattle.sql_reader.specs.declared.fault.ScriptFault.TheVariants as fault
use Rattle.sql_statements.specs.declared.Stmt.{Stmt}
use Rattle.script_run.specs.declared.outcome.Due.TheVariants as due
use Rattle.script_run.specs.declared.outcome.Outcome.{Outcome}
use Rattle.script_run.specs.declared.status.Status.TheVariants as status
use Rattle.script_run.specs.Outcome.{ending, refused_line, IsDueOf, bad}
use Rattle.script_run.specs.Reaching.{ReadsScript}
use Rattle.script_run.specs.Script.{IsNoScript}
use Rattle.script_run.specs.declared.runs.TheConstants.{MAX_SCRIPT}

-- a script that was read, or wasn't
pub script_read : (script : List ℕ) (r : Result (List Stmt) ScriptFault) → IfOk r (λ all. (grammar.script script).reads (tokens script) all [])
    → ((all : List Stmt) → (grammar.script script).reads (tokens script) all [] → IsRead r all)
    → ((at : ℕ) → r ≡ Err (fault.BadScript at) → IsPlace (grammar.script script) (length script) (tokens script) at) → ReadsScript script r
script_read script (Ok all) found only place = record { derived = found }
script_read script (Err (fault.BadScript at)) found only place = record { none = λ all reads. only all reads; place = place at refl }
script_read script (Err fault.Memory) found only place = tt

pub bad_due : (script : List ℕ) (at : ℕ) (line : Outcome) → length script ≤ MAX_SCRIPT → IsNoScript script at → line ≡ ending status.BadScript (refused_line 0 (codes "P1 " ++ decimal at)) → IsDueOf script (due.Ends line)
bad_due script at line within none is = rw is (bad script at within none)
