-- The state that CREATE TABLE leaves.
use Rattle.std.proofs.Common.{◌≡◌, ℕ, ℤ, List, [], ◌∷◌, ◌++◌, length, ◌≤◌, codes, Bool, true, false, Option, Some, None, Result, Ok, Err, refl, ap, sym, ◌∙◌, subst}
use Rattle.column_mapping.specs.Mapping.{first_broken}
use Rattle.column_mapping.specs.declared.mode.Mode.{Mode}
use Rattle.column_mapping.specs.declared.mode.Mode.TheVariants as mode
use Rattle.delta_schema.specs.declared.columns.TheConstants.{MAX_COLUMNS}
use Rattle.std.specs.List.{IsDistinct}
use Rattle.std.specs.Map as entries
use Rattle.std.specs.Str.{bytes_eq}
use Rattle.delta_actions.specs.Meaning.{commit_of}
use Rattle.delta_actions.specs.Writable.{AreWritable}
use Rattle.delta_actions.specs.Written.{commit_text}
use Rattle.delta_schema.specs.Columns.{schema_of}
use Rattle.dm_store.specs.Files.{Files, WhereTold, lookup}
use Rattle.dm_types.specs.Then.{go}
use Rattle.dm_types.specs.declared.refusal.StatementRefusal.{StatementRefusal}
use Rattle.commit_log.specs.Block.{block_of, files_of}
use Rattle.commit_log.specs.Commits.{AllPut, ReadsBack}
use Rattle.commit_log.specs.declared.new_files.NewFiles.{NewFiles}
use Rattle.file_names.specs.Names.{name_of}
use Rattle.log_replay.specs.Force.{fallen_within}
use Rattle.log_replay.specs.Live.{live_adds, lines, lines_of, numbered}
use Rattle.log_replay.specs.Replay.{snapshot_of}
use Rattle.log_replay.specs.declared.commits.Commit.{Commit}
use Rattle.row_tracking.specs.Order.{in_id_order, ordered}
use Rattle.sql_statements.specs.declared.CreateStmt.{CreateStmt}
use Rattle.table_features.specs.Features.{read_fault}
use Rattle.table_load.specs.Agree.{HeldBesideFirst}
use Rattle.table_load.specs.Files.{Look, begun, files_from, live_files}
use Rattle.table_load.specs.Head.{head_at, head_of, mode_in, mode_of, with_columns}
use Rattle.table_load.specs.Held.{held, held_at, opened, opened_at, sound_ids}
use Rattle.table_load.specs.Properties.{tracks_rows}
use Rattle.table_load.specs.declared.head.Head.{Head}
use Rattle.table_log.specs.Agree.{AreUnseen, SaysFirst, said_at}
use Rattle.table_log.specs.Log.{Log, commit_path, log_of}
use Rattle.table_make.specs.Created.{actions_of, created, maps_columns, new_columns, new_configuration, new_metadata, new_protocol}
use Rattle.table_features.specs.Needed.{maps}
use Rattle.table_features.specs.Properties.{text_under}
use Rattle.table_make.specs.Good.{GoesWith, HasGoodColumns, HasGoodProperties, IsWritten, is_mode_text, is_property}
use Rattle.table_make.specs.Making.{sound}
use Rattle.table_make.specs.NewProperties.{given}
use Rattle.table_make.specs.NewColumns.{column_elements, partitions_of}
use Rattle.table_write.specs.Create.{absent, creatable, none_in}
use Rattle.table_write.specs.NewTable.{CreateMakes, MakesTable, new_snapshot, new_state}
use Rattle.table_write.specs.Writing.{of_statement, version_line}
use Rattle.table_write.proofs.Grown.{grown, went}

-- the laws of the layers below
pub record NewLaws : Type 0 where
  pub written : (stmt : CreateStmt) (id : List ℕ) (time : ℤ) → AreWritable (actions_of stmt id time)
  pub read : (stmt : CreateStmt) (id : List ℕ) → read_fault (new_protocol stmt id) ≡ None
  pub schema : (stmt : CreateStmt) (id : List ℕ) (time : ℤ) → HasGoodColumns stmt
      → schema_of (new_metadata stmt id time).schema_string (partitions_of (new_columns stmt id) stmt.partitions) ≡ Ok (new_columns stmt id)
  pub columns : (stmt : CreateStmt) → sound stmt ≡ Ok tt → IsWritten stmt → HasGoodColumns stmt
  pub properties : (stmt : CreateStmt) → sound stmt ≡ Ok tt → HasGoodProperties stmt
  pub kept : (stmt : CreateStmt) (id name : List ℕ) → IsDistinct bytes_eq (entries.keys_of (given stmt.properties)) → is_property name ≡ true → text_under (new_configuration stmt id) name ≡ text_under (given stmt.properties) name
  pub mapping : (stmt : CreateStmt) (id : List ℕ) (mode : Mode) → length (column_elements stmt.elements) ≤ MAX_COLUMNS → GoesWith (maps_columns stmt) mode → first_broken mode (new_columns stmt id) ≡ None
  pub says : SaysFirst
  pub beside : HeldBesideFirst

-- ---- what its log says

commits : CreateStmt → List ℕ → ℤ → List Commit
commits stmt id time = numbered 0 (actions_of stmt id time) ∷ []

snapshot_is : (stmt : CreateStmt) (id : List ℕ) (time : ℤ) → snapshot_of (numbered 0 (actions_of stmt id time) ∷ []) ≡ Some (new_snapshot stmt id time)
unfolding snapshot_of actions_of live_adds lines lines_of fallen_within
snapshot_is stmt id time = refl

-- the head of the new table
new_head : CreateStmt → List ℕ → ℤ → Mode → Head
new_head stmt id time mode = record { snapshot = new_snapshot stmt id time; schema = new_columns stmt id; mode = mode }

columns_are : NewLaws → (stmt : CreateStmt) (id : List ℕ) (time : ℤ) (mode : Mode) → HasGoodColumns stmt → mode_in (new_snapshot stmt id time) (new_columns stmt id) ≡ Ok mode → with_columns (new_snapshot stmt id time) ≡ Ok (new_head stmt id time mode)
unfolding with_columns new_head
columns_are laws stmt id time mode good mapped = rw (laws.schema stmt id time good, mapped) refl

head_is : NewLaws → (stmt : CreateStmt) (id : List ℕ) (time : ℤ) (mode : Mode) → HasGoodColumns stmt → mode_in (new_snapshot stmt id time) (new_columns stmt id) ≡ Ok mode
    → head_of (numbered 0 (actions_of stmt id time) ∷ []) ≡ Ok (new_head stmt id time mode)
head_is laws stmt id time mode good mapped = rw (snapshot_is stmt id time, laws.read stmt id) (columns_are laws stmt id time mode good mapped)

-- ---- its mapping mode

-- a mode that goes with what is mapped
record Goes (text : Option (List ℕ)) : Type 0 where
  mode : Mode
  is : mode_of text ≡ Some mode
  with_it : GoesWith (maps text) mode

goes : (text : Option (List ℕ)) → is_mode_text text ≡ true → Goes text
goes None e = record { mode = mode.Plain; is = refl; with_it = tt }
goes (Some text) e = by (bytes_eq text (codes "none")) (bytes_eq text (codes "name")) (bytes_eq text (codes "id")) refl refl refl
  where
    by : (a b c : Bool) → bytes_eq text (codes "none") ≡ a → bytes_eq text (codes "name") ≡ b → bytes_eq text (codes "id") ≡ c → Goes (Some text)
    by true b c x y z = record { mode = mode.Plain; is = rw x refl; with_it = tt }
    by false true c x y z = record { mode = mode.ByName; is = rw (x, y) refl; with_it = rw y refl }
    by false false true x y z = record { mode = mode.ById; is = rw (x, y, z) refl; with_it = rw (y, z) refl }
    by false false false x y z = let no : false ≡ true = rw (x, y, z) at e in absurd cc

mode_found : NewLaws → (stmt : CreateStmt) (id : List ℕ) (time : ℤ) → HasGoodColumns stmt → HasGoodProperties stmt → (mode : Mode) × (mode_in (new_snapshot stmt id time) (new_columns stmt id) ≡ Ok mode)
mode_found laws stmt id time good properties =
    let it = goes (text_under (given stmt.properties) (codes "delta.columnMapping.mode")) properties.mode in
    let same : text_under (new_configuration stmt id) (codes "delta.columnMapping.mode") ≡ text_under (given stmt.properties) (codes "delta.columnMapping.mode") = laws.kept stmt id (codes "delta.columnMapping.mode") properties.distinct refl in
    (it.mode, rw (same, it.is, laws.mapping stmt id it.mode good.few it.with_it) refl)

-- ---- its state

ids_sound : (stmt : CreateStmt) (id : List ℕ) (time : ℤ) → sound_ids (new_snapshot stmt id time) [] ≡ Ok tt
ids_sound stmt id time = by (tracks_rows (new_snapshot stmt id time)) refl
  where
    by : (b : Bool) → tracks_rows (new_snapshot stmt id time) ≡ b → sound_ids (new_snapshot stmt id time) [] ≡ Ok tt
    by false is = rw is refl
    by true is = rw is refl

opens : (look : Look) (folder : List ℕ) (stmt : CreateStmt) (id : List ℕ) (time : ℤ) (mode : Mode)
    → go (live_files look folder (new_head stmt id time mode)) (λ all. go (sound_ids (new_snapshot stmt id time) all.ids) (λ _. Ok (opened (new_head stmt id time mode) all))) ≡ Ok (opened (new_head stmt id time mode) (begun (new_head stmt id time mode)))
unfolding files_from new_head
opens look folder stmt id time mode = rw (ids_sound stmt id time) refl

holds_new : NewLaws → (folder : List ℕ) (stmt : CreateStmt) (id : List ℕ) (time : ℤ) (mode : Mode) (now : Files) → HasGoodColumns stmt → mode_in (new_snapshot stmt id time) (new_columns stmt id) ≡ Ok mode
    → said_at folder 0 now ≡ Ok (numbered 0 (actions_of stmt id time) ∷ []) → held folder 0 now ≡ Ok (new_state stmt id time)
unfolding held_at opened_at head_at in_id_order ordered new_head
holds_new laws folder stmt id time mode now good mapped said =
    rw (said, head_is laws stmt id time mode good mapped, opens (λ path. lookup path now) folder stmt id time mode) refl

-- ---- the checks that passed

was_sound : (r : Result (Unit {0}) StatementRefusal) → of_statement r ≡ Ok tt → r ≡ Ok tt
was_sound (Ok u) e = refl
was_sound (Err why) e = absurd cc

none_there : (log : Log) → of_statement (none_in log) ≡ Ok tt → log ≡ []
none_there [] e = refl
none_there (commit ∷ log) e = absurd cc

pub was_absent : (folder : List ℕ) (stmt : CreateStmt) (files : Files) → creatable folder stmt files ≡ Ok tt → log_of folder files ≡ []
unfolding creatable
was_absent folder stmt files e =
    let (u, free, more) = went (absent folder files) _ tt e in
    none_there (log_of folder files) free

pub was_defined : (folder : List ℕ) (stmt : CreateStmt) (files : Files) → creatable folder stmt files ≡ Ok tt → sound stmt ≡ Ok tt
unfolding creatable
was_defined folder stmt files e =
    let (u, free, more) = went (absent folder files) _ tt e in
    was_sound (sound stmt) more

-- ---- the files behind it

block_is : (folder : List ℕ) (stmt : CreateStmt) (name : List ℕ) (time : ℤ) → block_of (created stmt folder name time) ≡ [] ++ (commit_path folder 0, commit_text (actions_of stmt (name_of name) time)) ∷ []
unfolding files_of
block_is folder stmt name time = refl

pub makes : NewLaws → (folder text : List ℕ) (stmt : CreateStmt) (files : Files) (name : List ℕ) (time : ℤ) → IsWritten stmt → sound stmt ≡ Ok tt → log_of folder files ≡ [] → ReadsBack (created stmt folder name time) → text ≡ version_line 0
    → MakesTable folder stmt name time files (files ++ block_of (created stmt folder name time)) text
makes laws folder text stmt files name time written defined none built line =
    let id = name_of name in
    let good = laws.columns stmt defined written in
    let actions = actions_of stmt id time in
    let bytes = commit_text actions in
    let unseen : AreUnseen [] = record { each = tt } in
    let back : commit_of bytes ≡ Ok actions = built (laws.written stmt id time) in
    let next = files ++ ([] ++ (commit_path folder 0, bytes) ∷ []) in
    let now : files ++ block_of (created stmt folder name time) ≡ next = ap (λ (fs : Files). files ++ fs) (block_is folder stmt name time) in
    let said : said_at folder 0 next ≡ Ok (numbered 0 actions ∷ []) = laws.says files [] folder bytes unseen none ∙ rw back refl in
    let (mode, mapped) = mode_found laws stmt id time good (laws.properties stmt defined) in
    subst (λ (fs : Files). MakesTable folder stmt name time files fs text) (sym now) (record {
      none = none;
      said = said;
      state = holds_new laws folder stmt id time mode next good mapped said;
      elsewhere = λ other version apart. laws.beside files [] folder bytes unseen other version apart;
      line = line;
    })

pub passed_told : (told : Option Files) (files : Files) (folder : List ℕ) (stmt : CreateStmt) → told ≡ Some files → WhereTold told (λ fs. creatable folder stmt fs ≡ Ok tt) → creatable folder stmt files ≡ Ok tt
passed_told told files folder stmt is passed = subst (λ (o : Option Files). WhereTold o (λ fs. creatable folder stmt fs ≡ Ok tt)) is passed

pub create_makes : NewLaws → CreateMakes
create_makes laws folder text stmt old new files written is accepted =
    let name = accepted.made.name in
    let time = accepted.made.time in
    let same : accepted.fresh ≡ created stmt folder name time = accepted.made.made in
    let built : ReadsBack (created stmt folder name time) = subst ReadsBack same accepted.built in
    let line : text ≡ version_line 0 = accepted.line ∙ ap (λ (f : NewFiles). version_line f.version) same in
    let put : AllPut (block_of (created stmt folder name time)) old.files new.files = subst (λ (f : NewFiles). AllPut (block_of f) old.files new.files) same accepted.put in
    let passed = passed_told old.files files folder stmt is accepted.made.passed in
    let none = was_absent folder stmt files passed in
    (files ++ block_of (created stmt folder name time), grown old.files files (block_of (created stmt folder name time)) new.files is put.grown, name, time, accepted.made.drawn, accepted.made.read, makes laws folder text stmt files name time written (was_defined folder stmt files passed) none built line)
