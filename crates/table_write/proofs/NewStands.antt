-- What a CREATE TABLE that isn't accepted leaves.
use Rattle.std.proofs.Common.{◌≡◌, ◌≢◌, ◌⊎◌, ℕ, ◌<◌, ℤ, List, [], ◌∷◌, ◌++◌, take, length, Option, Some, inl, inr, refl, ap, ◌∙◌, subst, arith}
use Rattle.dm_store.specs.Files.{Files, IsPresent, appended}
use Rattle.dm_store.specs.Given.{Gave}
use Rattle.dm_types.specs.declared.refusal.Refused.TheVariants as refused
use Rattle.dm_types.specs.declared.refusal.PutRefusal.{PutRefusal}
use Rattle.dm_types.specs.declared.refusal.PutRefusal.TheVariants as clash
use Rattle.dm_types.specs.declared.refusal.Stop.{Stop}
use Rattle.dm_types.specs.declared.refusal.Stop.TheVariants as stop
use Rattle.commit_log.specs.Block.{block_of, commit_file, files_of}
use Rattle.commit_log.specs.Commits.{ReadsBack, SomePut}
use Rattle.commit_log.specs.declared.new_files.NewFiles.{NewFiles}
use Rattle.sql_statements.specs.declared.CreateStmt.{CreateStmt}
use Rattle.table_log.specs.Agree.{FirstIsAbsent}
use Rattle.table_log.specs.Log.{commit_path}
use Rattle.table_make.specs.Created.{created}
use Rattle.table_make.specs.Good.{IsWritten}
use Rattle.table_write.proofs.NewState.{NewLaws, makes, passed_told, was_absent, was_defined}
use Rattle.table_write.specs.Create.{create_table}
use Rattle.table_write.specs.NewTable.{CreateStands, LeavesTable, MakesTable}
use Rattle.table_write.specs.Outside.{Outside}
use Rattle.table_write.specs.Writing.{IsCutOff, IsStarved, NameIsTaken, VersionIsTaken, version_line}
use Rattle.table_write.proofs.Grown.{front_of_one, grown, none_put, take_none, untouched}

leaves : (table : List ℕ) (stmt : CreateStmt) (old : Outside) (files : Files) (why : Stop) (new : Outside) → new.files ≡ Some files → ((refusal : PutRefusal) → why ≢ stop.Refused (refused.Put refusal)) → LeavesTable table stmt old files why new
leaves table stmt old files why new same free = record { stands = inl same; free = free }

files_none : (folder : List ℕ) (stmt : CreateStmt) (name : List ℕ) (time : ℤ) → files_of (created stmt folder name time) ≡ []
unfolding files_of
files_none folder stmt name time = refl

block_one : (folder : List ℕ) (stmt : CreateStmt) (name : List ℕ) (time : ℤ) → block_of (created stmt folder name time) ≡ commit_file (created stmt folder name time) ∷ []
block_one folder stmt name time = ap (λ (fs : Files). fs ++ commit_file (created stmt folder name time) ∷ []) (files_none folder stmt name time)

store_leaves : NewLaws → (folder : List ℕ) (stmt : CreateStmt) (files : Files) (old new : Outside) → IsWritten stmt → old.files ≡ Some files → (new ≡ old) ⊎ IsCutOff (create_table folder stmt) old new → LeavesTable folder stmt old files stop.Store new
store_leaves laws folder stmt files old new written is (inl same) = leaves folder stmt old files stop.Store new (untouched files old new is same) (λ refusal e. cc)
store_leaves laws folder stmt files old new written is (inr cut) =
    let name = cut.made.name in
    let time = cut.made.time in
    let same : cut.fresh ≡ created stmt folder name time = cut.made.made in
    let passed = passed_told old.files files folder stmt is cut.made.passed in
    let built : ReadsBack (created stmt folder name time) = subst ReadsBack same cut.built in
    let put : SomePut (block_of (created stmt folder name time)) old.files new.files = subst (λ (f : NewFiles). SomePut (block_of f) old.files new.files) same cut.put in
    let made = makes laws folder (version_line 0) stmt files name time written (was_defined folder stmt files passed) (was_absent folder stmt files passed) built refl in
    by name time cut.made.drawn cut.made.read made put (front_of_one (commit_file (created stmt folder name time)) (block_of (created stmt folder name time)) put.count (block_one folder stmt name time))
  where
    by : (name : List ℕ) (time : ℤ) → Gave old.names new.names name → Gave old.times new.times time → MakesTable folder stmt name time files (files ++ block_of (created stmt folder name time)) (version_line 0)
        → (put : SomePut (block_of (created stmt folder name time)) old.files new.files)
        → (take put.count (block_of (created stmt folder name time)) ≡ []) ⊎ (take put.count (block_of (created stmt folder name time)) ≡ block_of (created stmt folder name time))
        → LeavesTable folder stmt old files stop.Store new
    by name time drawn read made put (inl none) = leaves folder stmt old files stop.Store new (none_put files old.files new.files (take put.count (block_of (created stmt folder name time))) is none put.put.grown) (λ refusal e. cc)
    by name time drawn read made put (inr whole) = record {
      stands = inr (refl, (files ++ block_of (created stmt folder name time), grown old.files files (block_of (created stmt folder name time)) new.files is (put.put.grown ∙ ap (appended old.files) whole), name, time, drawn, read, version_line 0, made));
      free = λ refusal e. cc;
    }

memory_leaves : (folder : List ℕ) (stmt : CreateStmt) (files : Files) (old new : Outside) → old.files ≡ Some files → (new ≡ old) ⊎ IsStarved (create_table folder stmt) old new → LeavesTable folder stmt old files stop.Memory new
memory_leaves folder stmt files old new is (inl same) = leaves folder stmt old files stop.Memory new (untouched files old new is same) (λ refusal e. cc)
memory_leaves folder stmt files old new is (inr starved) =
    let same : starved.fresh ≡ created stmt folder starved.made.name starved.made.time = starved.made.made in
    let none : take starved.put.count (files_of starved.fresh) ≡ [] = take_none (files_of starved.fresh) starved.put.count (ap files_of same ∙ files_none folder stmt starved.made.name starved.made.time) in
    leaves folder stmt old files stop.Memory new (none_put files old.files new.files (take starved.put.count (files_of starved.fresh)) is none starved.put.put.grown) (λ refusal e. cc)

never_named : (folder : List ℕ) (stmt : CreateStmt) (old : Outside) (path : List ℕ) (new : Outside) → NameIsTaken (create_table folder stmt) old path new → ⊥
never_named folder stmt old path new taken =
    let same : taken.fresh ≡ created stmt folder taken.made.name taken.made.time = taken.made.made in
    let none : files_of taken.fresh ≡ [] = ap files_of same ∙ files_none folder stmt taken.made.name taken.made.time in
    let within : taken.index < 0 = subst (λ (fs : Files). taken.index < length fs) none taken.first.within in
    omega (arith, within)

never_overtaken : FirstIsAbsent → (folder : List ℕ) (stmt : CreateStmt) (files : Files) (old : Outside) (version : ℕ) (new : Outside) → old.files ≡ Some files → VersionIsTaken (create_table folder stmt) old version new → ⊥
never_overtaken absent folder stmt files old version new is taken =
    let same : taken.fresh ≡ created stmt folder taken.made.name taken.made.time = taken.made.made in
    let passed = passed_told old.files files folder stmt is taken.made.passed in
    let there : IsPresent (commit_path folder 0) (Some files) = subst (λ (o : Option Files). IsPresent (commit_path folder 0) o) is (subst (λ (f : NewFiles). IsPresent (commit_path f.table f.version) old.files) same taken.overtaken.there) in
    there (absent files folder (was_absent folder stmt files passed))

pub create_stands : FirstIsAbsent → NewLaws → CreateStands
create_stands absent laws folder stmt old new files (stop.Refused (refused.Table refusal)) written is (checked, same) = leaves folder stmt old files (stop.Refused (refused.Table refusal)) new (untouched files old new is same) (λ r e. cc)
create_stands absent laws folder stmt old new files (stop.Refused (refused.Statement refusal)) written is (checked, same) = leaves folder stmt old files (stop.Refused (refused.Statement refusal)) new (untouched files old new is same) (λ r e. cc)
create_stands absent laws folder stmt old new files (stop.Refused (refused.Put (clash.NameTaken path))) written is taken = absurd (never_named folder stmt old path new taken)
create_stands absent laws folder stmt old new files (stop.Refused (refused.Put (clash.VersionTaken version))) written is taken = absurd (never_overtaken absent folder stmt files old version new is taken)
create_stands absent laws folder stmt old new files stop.Store written is left = store_leaves laws folder stmt files old new written is left
create_stands absent laws folder stmt old new files stop.Names written is unnamed = leaves folder stmt old files stop.Names new (ap (λ (o : Outside). o.files) unnamed.others ∙ is) (λ refusal e. cc)
create_stands absent laws folder stmt old new files stop.Memory written is left = memory_leaves folder stmt files old new is left
