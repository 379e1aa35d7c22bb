-- One file more, by what its action says.
use Rattle.std.proofs.Common.{◌≡◌, ℕ, Bool, false, List, [], Option, Some, None, Result, Ok, Err, refl, sym, ap, ◌∙◌, subst}
use Rattle.std.specs.Prelude.{unwrap_or}
use Rattle.data_file.specs.Partitions.{Given}
use Rattle.data_file.specs.Rows.{Part, seen}
use Rattle.data_file.specs.Wanted.{WantedColumns}
use Rattle.data_file.specs.declared.rows.PartRows.{PartRows}
use Rattle.data_file.specs.declared.room.Room.{Room}
use Rattle.delta_actions.specs.declared.action.AddAction.{AddAction}
use Rattle.dm_store.specs.Files.{Files, WhereTold}
use Rattle.dm_types.specs.Then.{go}
use Rattle.dm_types.specs.declared.refusal.Stop.{Stop}
use Rattle.dm_types.specs.declared.refusal.TableRefusal.{TableRefusal}
use Rattle.table_load.specs.Files.{Earlier, Joined, columns_of, with_file, with_part}
use Rattle.table_load.specs.Loaded.{come_to}
use Rattle.table_load.specs.Tells.{TellsAs}
use Rattle.table_load.specs.declared.files.Reading.{Reading}
use Rattle.table_load.specs.declared.head.Head.{Head}
use Rattle.table_load.proofs.Following.{look_in}
use Rattle.table_load.proofs.InTurn.{goes_on, tells_same, tells_stops}
use Rattle.table_load.proofs.PartRead.{Asked, everywhere, part_of}

-- what is asked of the file of an add
abbrev pub of_add : List ℕ → Head → Earlier → Room → AddAction → Asked
of_add folder head test room add = record {
  folder = folder;
  columns = columns_of false head;
  is_earlier = test;
  logged = add.path;
  values = unwrap_or add.partition_values [];
  vector = add.deletion_vector;
  room = room;
}

-- the same, by what is known to be equal to it
pub asked_is : (folder : List ℕ) (head : Head) (test : Earlier) (room : Room) (add : AddAction) (columns : WantedColumns) (logged : List ℕ) (values : Given) (vector : Bool)
    → columns ≡ columns_of false head → logged ≡ add.path → values ≡ unwrap_or add.partition_values [] → vector ≡ add.deletion_vector
    → ◌≡◌ {A = Asked} (record { folder = folder; columns = columns; is_earlier = test; logged = logged; values = values; vector = vector; room = room }) (of_add folder head test room add)
asked_is folder head test room add columns logged values vector of_columns of_path of_values of_vector =
    ap (λ (c : WantedColumns). record { folder = folder; columns = c; is_earlier = test; logged = logged; values = values; vector = vector; room = room }) of_columns
    ∙ ap (λ (p : List ℕ). record { folder = folder; columns = columns_of false head; is_earlier = test; logged = p; values = values; vector = vector; room = room }) of_path
    ∙ ap (λ (v : Given). record { folder = folder; columns = columns_of false head; is_earlier = test; logged = add.path; values = v; vector = vector; room = room }) of_values
    ∙ ap (λ (b : Bool). record { folder = folder; columns = columns_of false head; is_earlier = test; logged = add.path; values = unwrap_or add.partition_values []; vector = b; room = room }) of_vector

with_file_is : (folder : List ℕ) (head : Head) (test : Earlier) (before : Joined) (add : AddAction) (all : Files) → with_file (look_in all) folder head test before add ≡ go (part_of (of_add folder head test before.room add) all) (λ file. Ok (with_part head add before file))
unfolding with_file
with_file_is folder head test before add all = refl

abbrev Found : Type 0
Found = List ℕ × PartRows

abbrev view : Found → Part
view found = seen found.1

pub file_refused : (files : Option Files) (folder : List ℕ) (head : Head) (test : Earlier) (before : Joined) (add : AddAction) (asked : Asked) (why : Stop) (answer : Result Reading Stop) → asked ≡ of_add folder head test before.room add
    → TellsAs {X = Found} view files (part_of asked) (Err why) → answer ≡ Err why → TellsAs {X = Reading} come_to files (λ all. with_file (look_in all) folder head test before add) answer
file_refused files folder head test before add asked why answer same tells is =
    let next : Files → Part → Result Joined TableRefusal = λ all file. Ok (with_part head add before file) in
    let here : TellsAs {X = Found} view files (part_of (of_add folder head test before.room add)) (Err why) = subst (λ (a : Asked). TellsAs {X = Found} view files (part_of a) (Err why)) same tells in
    tells_same Reading come_to files (λ all. go (part_of (of_add folder head test before.room add) all) (next all)) (λ all. with_file (look_in all) folder head test before add) answer
    (everywhere files (λ all. with_file (look_in all) folder head test before add ≡ go (part_of (of_add folder head test before.room add) all) (next all)) (with_file_is folder head test before add))
    (tells_stops Found Reading view come_to files (part_of (of_add folder head test before.room add)) next why answer here is)

abbrev all_ok : Joined → Result Joined TableRefusal
all_ok joined = Ok joined

pub file_read : (files : Option Files) (folder : List ℕ) (head : Head) (test : Earlier) (before next : Joined) (add : AddAction) (asked : Asked) (file : Part) → asked ≡ of_add folder head test before.room add
    → WhereTold files (λ all. part_of asked all ≡ Ok file) → next ≡ with_part head add before file → WhereTold files (λ all. with_file (look_in all) folder head test before add ≡ Ok next)
file_read None folder head test before next add asked file same found is = tt
file_read (Some all) folder head test before next add asked file same found is =
    with_file_is folder head test before add all
    ∙ goes_on (part_of (of_add folder head test before.room add) all) (λ file. Ok (with_part head add before file)) file (ap (λ (a : Asked). part_of a all) (sym same) ∙ found)
    ∙ ap all_ok (sym is)
