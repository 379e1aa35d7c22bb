-- What DELETE leaves, step by step.
use Rattle.std.proofs.Common.{◌≡◌, ℕ, ℤ, List, Option, Some, None, Result, Ok, Err, refl, sym, subst}
use Rattle.std.specs.Result.{IsErrAnd}
use Rattle.dm_store.specs.Files.{Files, WhereTold}
use Rattle.dm_store.specs.Given.{Gave}
use Rattle.dm_types.specs.declared.refusal.Refused.TheVariants as refused
use Rattle.dm_types.specs.declared.refusal.StatementRefusal.{StatementRefusal}
use Rattle.dm_types.specs.declared.refusal.PutRefusal.{PutRefusal}
use Rattle.dm_types.specs.declared.refusal.Stop.{Stop}
use Rattle.dm_types.specs.declared.refusal.Stop.TheVariants as stop
use Rattle.log_replay.specs.declared.snapshot.Snapshot.{Snapshot}
use Rattle.std.specs.List.{IsDistinct}
use Rattle.dm_store.specs.Causes.{Counts, StopCause}
use Rattle.commit_log.specs.Block.{files_of, AreApart}
use Rattle.commit_log.specs.declared.new_files.NewFiles.{NewFiles}
use Rattle.dm_types.specs.Then.{go}
use Rattle.dm_types.specs.declared.refusal.TableRefusal.{TableRefusal}
use Rattle.row_rules.specs.Answers as rules
use Rattle.row_rules.specs.Answers.{Reads}
use Rattle.row_rules.specs.Rules.{kept_rules, rules_of}
use Rattle.row_rules.specs.declared.fault.RuleFault.{RuleFault}
use Rattle.row_rules.specs.declared.fault.RuleFault.TheVariants as rule
use Rattle.row_rules.specs.declared.rules.Rules.{Rules}
use Rattle.table_load.specs.Loaded.{opened_for, seen}
use Rattle.table_load.specs.declared.head.Head.{Head}
use Rattle.table_load.specs.Tells.{TellsAs}
use Rattle.table_load.specs.declared.loaded.Loaded.{Loaded}
use Rattle.table_load.specs.declared.loaded.Purpose.TheVariants as purpose
use Rattle.table_write.specs.Delete.{changeable, deletable, deletion, delete_from, head_check}
use Rattle.table_write.specs.StepsWriting.{Passes, TellsPlan}
use Rattle.table_write.specs.Writing.{of_table, of_statement}
use Rattle.table_write.proofs.Written.{handed, HasMade}

-- ---- the checks of DELETE

deletable_refused : (told : Option Files) (table : List ℕ) (why : Stop) → TellsAs {X = Loaded} seen told (opened_for purpose.Write table None) (Err why) → TellsPlan {A = Snapshot} told (deletable table) (Err why)
unfolding deletable
deletable_refused told table stop.Store loaded = tt
deletable_refused told table stop.Names loaded = loaded
deletable_refused told table stop.Memory loaded = tt
deletable_refused None table (stop.Refused (refused.Table refusal)) loaded = tt
deletable_refused (Some files) table (stop.Refused (refused.Table refusal)) loaded = rw loaded refl
deletable_refused told table (stop.Refused (refused.Statement refusal)) loaded = absurd loaded
deletable_refused told table (stop.Refused (refused.Put refusal)) loaded = absurd loaded

pub not_loaded : (told : Option Files) (table : List ℕ) (why : Stop) (answer : Result Snapshot Stop) → answer ≡ Err why → TellsAs {X = Loaded} seen told (opened_for purpose.Write table None) (Err why) → TellsPlan told (deletable table) answer
not_loaded told table why answer is loaded = subst (λ (r : Result Snapshot Stop). TellsPlan told (deletable table) r) (sym is) (deletable_refused told table why loaded)

-- a rule that can't be kept
pub rules_refused : (head : Head) (fault : RuleFault) (answer : Result (Unit {0}) Stop) → IsErrAnd answer (λ found. found ≡ rules.stop_of fault) → Reads (rules_of head) (Err fault) → Passes (head_check head) answer
rules_refused head (rule.Unsupported name) answer is unkept = rw (handed answer _ is, unkept) refl
rules_refused head rule.Memory answer is unkept = rw (handed answer stop.Memory is) tt

pub not_changeable : (head : Head) (kept : Rules) (fault : StatementRefusal) (answer : Result (Unit {0}) Stop) → IsErrAnd answer (λ found. found ≡ stop.Refused (refused.Statement fault)) → rules_of head ≡ Ok kept → changeable head.snapshot ≡ Err fault
    → Passes (head_check head) answer
not_changeable head kept fault answer is rules changes = rw (handed answer (stop.Refused (refused.Statement fault)) is, rules, changes) refl

pub head_passes : (head : Head) (kept : Rules) → rules_of head ≡ Ok kept → changeable head.snapshot ≡ Ok tt → head_check head ≡ Ok tt
head_passes head kept rules changes = rw (rules, changes) refl

-- the checks of an opened table refuse nothing that is put
nothing_to_put : {A : Type 0} (table : Result A TableRefusal) (statement : Result (Unit {0}) StatementRefusal) (refusal : PutRefusal) → go (of_table table) (λ a. of_statement statement) ≡ Err (refused.Put refusal) → ⊥
nothing_to_put (Ok a) (Ok u) refusal e = cc
nothing_to_put (Ok a) (Err r) refusal e = cc
nothing_to_put (Err r) statement refusal e = cc

head_refused : (told : Option Files) (table : List ℕ) (found : Loaded) (why : Stop) → WhereTold told (λ files. opened_for purpose.Write table None files ≡ Ok (seen found)) → Passes (head_check found.head) (Err why) → TellsPlan {A = Snapshot} told (deletable table) (Err why)
unfolding deletable
head_refused told table found stop.Store loaded fails = absurd fails
head_refused told table found stop.Names loaded fails = absurd fails
head_refused told table found stop.Memory loaded fails = tt
head_refused None table found (stop.Refused (refused.Table refusal)) loaded fails = tt
head_refused (Some files) table found (stop.Refused (refused.Table refusal)) loaded fails = rw (loaded, fails) refl
head_refused None table found (stop.Refused (refused.Statement refusal)) loaded fails = tt
head_refused (Some files) table found (stop.Refused (refused.Statement refusal)) loaded fails = rw (loaded, fails) refl
head_refused told table found (stop.Refused (refused.Put refusal)) loaded fails = nothing_to_put (kept_rules found.head) (changeable found.head.snapshot) refusal fails

-- the store isn't asked by them
counts_as : (head : Head) (why : Stop) (before now : ℕ) → now ≡ before → Passes (head_check head) (Err why) → StopCause why before now
counts_as head (stop.Refused refusal) before now same fails = same
counts_as head stop.Store before now same fails = absurd fails
counts_as head stop.Names before now same fails = absurd fails
counts_as head stop.Memory before now same fails = same

pub passes_count : (head : Head) (why : Stop) (answer : Result Snapshot Stop) (before now : ℕ) → answer ≡ Err why → now ≡ before → Passes (head_check head) (Err why) → Counts StopCause before now answer
passes_count head why answer before now is same fails =
    subst (λ (r : Result Snapshot Stop). Counts StopCause before now r) (sym is) (counts_as head why before now same fails)

pub not_passed : (told : Option Files) (table : List ℕ) (found : Loaded) (why : Stop) (answer : Result Snapshot Stop) → answer ≡ Err why → WhereTold told (λ files. opened_for purpose.Write table None files ≡ Ok (seen found))
    → Passes (head_check found.head) (Err why) → TellsPlan told (deletable table) answer
not_passed told table found why answer is loaded fails =
    subst (λ (r : Result Snapshot Stop). TellsPlan told (deletable table) r) (sym is) (head_refused told table found why loaded fails)

pub is_deletable : (told : Option Files) (table : List ℕ) (found : Loaded) → WhereTold told (λ files. opened_for purpose.Write table None files ≡ Ok (seen found)) → head_check found.head ≡ Ok tt → WhereTold told (λ files. deletable table files ≡ Ok found.head.snapshot)
unfolding deletable
is_deletable None table found loaded is = tt
is_deletable (Some files) table found loaded is = rw (loaded, is) refl

-- ---- its new version

-- what DELETE makes
pub deletion_made : (folder : List ℕ) (told : Option Files) (names names_new : Option (List (List ℕ))) (times times_new : Option (List ℤ)) (found : Snapshot) (name : List ℕ) (time : ℤ) → WhereTold told (λ files. deletable folder files ≡ Ok found) → Gave names names_new name → Gave times times_new time
    → HasMade (delete_from folder) told names names_new times times_new (deletion folder found time)
deletion_made folder told names names_new times times_new found name time passed drawn read = record { plan = found; name = name; time = time; passed = passed; drawn = drawn; read = read; made = refl }

-- the version of a DELETE has one file
pub deletion_apart : (folder : List ℕ) (table : Snapshot) (time : ℤ) (fresh : NewFiles) → fresh ≡ deletion folder table time → AreApart fresh
unfolding files_of IsDistinct
deletion_apart folder table time fresh is = rw is (record { distinct = tt; no_commit = refl })

-- the same moment, as it was read and as it is written
pub deletion_same : (folder : List ℕ) (table : Snapshot) (fresh : NewFiles) (written read : ℤ) → fresh ≡ deletion folder table written → written ≡ read → fresh ≡ deletion folder table read
deletion_same folder table fresh written read is same = subst (λ (t : ℤ). fresh ≡ deletion folder table t) same is
