-- What CREATE TABLE leaves, step by step.
use Rattle.std.proofs.Common.{◌≡◌, ℕ, ℤ, List, [], ◌∷◌, length, true, false, Option, Some, None, Result, Ok, Err, inl, inr, refl, ap, sym, ◌∙◌, subst, arith}
use Rattle.std.specs.BTreeSet.{BTreeSet}
use Rattle.std.specs.Map as entries
use Rattle.std.proofs.lemmas.Bool.Decides.{nat_tests}
use Rattle.dm_store.specs.Files.{Files, WhereTold}
use Rattle.dm_store.specs.Given.{Gave}
use Rattle.dm_types.specs.declared.refusal.Refused.TheVariants as refused
use Rattle.dm_types.specs.declared.refusal.StatementRefusal.{StatementRefusal}
use Rattle.dm_types.specs.declared.refusal.StatementRefusal.TheVariants as refusal
use Rattle.dm_types.specs.declared.refusal.Stop.{Stop}
use Rattle.dm_types.specs.declared.refusal.Stop.TheVariants as stop
use Rattle.dm_store.specs.Causes.{Counts, StopCause}
use Rattle.sql_statements.specs.declared.CreateStmt.{CreateStmt}
use Rattle.log_replay.specs.Numbers.{is_in}
use Rattle.table_log.specs.Listed.{AreVersions}
use Rattle.table_log.specs.Log.{Log, log_of}
use Rattle.table_make.specs.Created.{created}
use Rattle.table_make.specs.Making.{Given, MakesTable, sound}
use Rattle.table_write.proofs.Written.{HasMade, unmade}
use Rattle.table_write.specs.Create.{absent, creatable, create_table, none_in}
use Rattle.table_write.specs.Outside.{outside}
use Rattle.table_write.specs.StepsWriting.{TellsPlan}
use Rattle.table_write.specs.Writing.{CarriesOut}

-- ---- its checks

here : (n : ℕ) (ns : List ℕ) → is_in n (n ∷ ns) ≡ true
here n ns = grind (arith, nat_tests)

-- a log without versions has no commit file
none_listed : (keys : List ℕ) (log : Log) → length keys ≡ 0 → ((n : ℕ) → is_in n keys ≡ is_in n (entries.keys_of log)) → none_in log ≡ Ok tt
none_listed [] [] none same = refl
none_listed [] (commit ∷ log) none same = absurd (let there : false ≡ true = same commit.0 ∙ here commit.0 (entries.keys_of log) in cc)
none_listed (key ∷ keys) log none same = absurd (omega (arith, none))

some_listed : (keys : List ℕ) (log : Log) → (length keys ≡ 0 → ⊥) → ((n : ℕ) → is_in n keys ≡ is_in n (entries.keys_of log)) → none_in log ≡ Err refusal.TableExists
some_listed [] log some same = absurd (some refl)
some_listed (key ∷ keys) [] some same = absurd (let there : true ≡ false = sym (here key keys) ∙ same key in cc)
some_listed (key ∷ keys) (commit ∷ log) some same = refl

pub is_absent : (told : Option Files) (folder : List ℕ) (versions : BTreeSet ℕ) → AreVersions folder told versions.keys → length versions.keys ≡ 0 → WhereTold told (λ files. absent folder files ≡ Ok tt)
is_absent None folder versions same none = tt
is_absent (Some files) folder versions same none = rw (none_listed versions.keys (log_of folder files) none same) refl

exists : (told : Option Files) (folder : List ℕ) (versions : BTreeSet ℕ) → AreVersions folder told versions.keys → (length versions.keys ≡ 0 → ⊥) → TellsPlan {A = Unit {0}} told (absent folder) (Err (stop.Refused (refused.Statement refusal.TableExists)))
exists None folder versions same some = tt
exists (Some files) folder versions same some = rw (some_listed versions.keys (log_of folder files) some same) refl

pub is_there : (told : Option Files) (folder : List ℕ) (versions : BTreeSet ℕ) (why : Stop) → why ≡ stop.Refused (refused.Statement refusal.TableExists) → AreVersions folder told versions.keys → (length versions.keys ≡ 0 → ⊥)
    → TellsPlan {A = Unit {0}} told (absent folder) (Err why)
is_there told folder versions why is same some = rw is (exists told folder versions same some)

-- the table is there, or its log can't be listed
pub not_absent : (told : Option Files) (folder : List ℕ) (stmt : CreateStmt) (why : Stop) → TellsPlan {A = Unit {0}} told (absent folder) (Err why) → TellsPlan {A = Unit {0}} told (creatable folder stmt) (Err why)
unfolding creatable
not_absent None folder stmt (stop.Refused (refused.Table refusal)) is = tt
not_absent (Some files) folder stmt (stop.Refused (refused.Table refusal)) is = rw is refl
not_absent None folder stmt (stop.Refused (refused.Statement refusal)) is = tt
not_absent (Some files) folder stmt (stop.Refused (refused.Statement refusal)) is = rw is refl
not_absent told folder stmt (stop.Refused (refused.Put refusal)) is = is
not_absent told folder stmt stop.Store is = tt
not_absent told folder stmt stop.Names is = is
not_absent told folder stmt stop.Memory is = tt

-- its definition has a fault
not_sound : (told : Option Files) (folder : List ℕ) (stmt : CreateStmt) (why : StatementRefusal) → WhereTold told (λ files. absent folder files ≡ Ok tt) → sound stmt ≡ Err why → WhereTold told (λ files. creatable folder stmt files ≡ Err (refused.Statement why))
unfolding creatable
not_sound None folder stmt why free is = tt
not_sound (Some files) folder stmt why free is = rw (free, is) refl

pub is_creatable : (told : Option Files) (folder : List ℕ) (stmt : CreateStmt) → WhereTold told (λ files. absent folder files ≡ Ok tt) → sound stmt ≡ Ok tt → WhereTold told (λ files. creatable folder stmt files ≡ Ok tt)
unfolding creatable
is_creatable None folder stmt free is = tt
is_creatable (Some files) folder stmt free is = rw (free, is) refl

-- ---- its first version

-- what it makes of a name and a time
pub table_made : (folder : List ℕ) (stmt : CreateStmt) (told : Option Files) (old new : Given) (name : List ℕ) (time : ℤ) → WhereTold told (λ files. absent folder files ≡ Ok tt) → sound stmt ≡ Ok tt → Gave old.0 new.0 name → Gave old.1 new.1 time
    → HasMade (create_table folder stmt) told old.0 new.0 old.1 new.1 (created stmt folder name time)
table_made folder stmt told old new name time free is drawn read =
    record { plan = tt; name = name; time = time; passed = is_creatable told folder stmt free is; drawn = drawn; read = read; made = refl }

-- no version was made
fails : (folder : List ℕ) (stmt : CreateStmt) (told : Option Files) (taken : ℕ) (old new : Given) (why : Stop) → WhereTold told (λ files. absent folder files ≡ Ok tt) → MakesTable stmt folder old new (Err why)
    → CarriesOut (create_table folder stmt) (outside told taken old.0 old.1) (Err why) (outside told taken new.0 new.1)
fails folder stmt told taken old new (stop.Refused (refused.Table refusal)) free made = absurd made
fails folder stmt told taken old new (stop.Refused (refused.Statement refusal)) free (faulty, same) =
    (not_sound told folder stmt refusal free faulty, ap (λ (g : Given). outside told taken g.0 g.1) same)
fails folder stmt told taken old new (stop.Refused (refused.Put refusal)) free made = absurd made
fails folder stmt told taken old new stop.Store free made = absurd made
fails folder stmt told taken old new stop.Names free (is, kept, read) =
    record { plan = tt; passed = is_creatable told folder stmt free is; names = kept; others = ap (λ times. outside told taken new.0 times) read }
fails folder stmt told taken old new stop.Memory free (inl same) = inl (ap (λ (g : Given). outside told taken g.0 g.1) same)
fails folder stmt told taken old new stop.Memory free (inr (is, name, time, drew)) =
    unmade (create_table folder stmt) told told taken taken old.0 new.0 old.1 new.1 (created stmt folder name time) (Err stop.Memory) refl refl refl (table_made folder stmt told old new name time free is drew.0 drew.1)

pub not_made : (folder : List ℕ) (stmt : CreateStmt) (told : Option Files) (taken : ℕ) (old new : Given) (why : Stop) (answer : Result (List ℕ) Stop) → answer ≡ Err why → WhereTold told (λ files. absent folder files ≡ Ok tt) → MakesTable stmt folder old new (Err why)
    → CarriesOut (create_table folder stmt) (outside told taken old.0 old.1) answer (outside told taken new.0 new.1)
not_made folder stmt told taken old new why answer is free made = rw is (fails folder stmt told taken old new why free made)

-- making asks the store for nothing
unasked : (folder : List ℕ) (stmt : CreateStmt) (old new : Given) (why : Stop) (before now : ℕ) → now ≡ before → MakesTable stmt folder old new (Err why) → StopCause why before now
unasked folder stmt old new (stop.Refused refusal) before now same made = same
unasked folder stmt old new stop.Store before now same made = absurd made
unasked folder stmt old new stop.Names before now same made = same
unasked folder stmt old new stop.Memory before now same made = same

pub made_unasked : (folder : List ℕ) (stmt : CreateStmt) (old new : Given) (why : Stop) (answer : Result (List ℕ) Stop) (before now : ℕ) → answer ≡ Err why → now ≡ before → MakesTable stmt folder old new (Err why) → Counts StopCause before now answer
made_unasked folder stmt old new why answer before now is same made = subst (λ (r : Result (List ℕ) Stop). Counts StopCause before now r) (sym is) (unasked folder stmt old new why before now same made)
