-- The files of a table that is opened have no deletion vectors.
use Rattle.std.proofs.Common.{◌≡◌, ℕ, Bool, true, false, List, [], ◌∷◌, ◌++◌, Option, Result, Ok, Err, refl, ap, subst, unwrap_or}
use Rattle.std.specs.List.{All, AllByRecursion}
use Rattle.std.proofs.lemmas.List.Elements.{All-from_recursion}
use Rattle.dm_store.specs.Files.{Files, lookup}
use Rattle.dm_types.specs.Then.{go}
use Rattle.dm_types.specs.declared.refusal.TableRefusal.{TableRefusal}
use Rattle.data_file.specs.Partitions.{Given}
use Rattle.data_file.specs.Rows.{Part, rows_of}
use Rattle.data_file.specs.Wanted.{WantedColumns}
use Rattle.data_file.specs.declared.room.Room.{Room}
use Rattle.delta_actions.specs.declared.action.AddAction.{AddAction}
use Rattle.table_log.specs.Log.{log_of}
use Rattle.table_load.specs.Files.{Earlier, Joined, Look, begun, bytes_of, columns_of, files_from, is_path_of, live_files, part_in, path_in, told, with_file, with_part}
use Rattle.table_load.specs.Head.{head_at}
use Rattle.table_load.specs.Held.{Opened, opened, opened_at, sound_ids}
use Rattle.table_load.specs.declared.head.Head.{Head}

-- a step that gave something
pub record Went {A B : Type 0} (known : Result A TableRefusal) (step : A → Result B TableRefusal) (b : B) : Type 0 where
  pub from : A
  pub is : known ≡ Ok from
  pub gives : step from ≡ Ok b

pub went : {A B : Type 0} (known : Result A TableRefusal) (step : A → Result B TableRefusal) (b : B) → go known step ≡ Ok b → Went known step b
went (Ok a) step b e = record { from = a; is = refl; gives = e }
went (Err f) step b e = absurd cc

path_plain : (is_earlier : Earlier) (vector : Bool) (logged path : List ℕ) → path_in is_earlier vector logged ≡ Ok path → vector ≡ false
path_plain is_earlier true logged path e = absurd cc
path_plain is_earlier false logged path e = refl

part_plain : (look : Look) (folder : List ℕ) (columns : WantedColumns) (is_earlier : Earlier) (logged : List ℕ) (values : Given) (vector : Bool) (room : Room) (part : Part) → part_in look folder columns is_earlier logged values vector room ≡ Ok part → vector ≡ false
unfolding part_in
part_plain look folder columns is_earlier logged values vector room part e =
    let path = went (path_in is_earlier vector logged) (λ path. go (bytes_of look folder logged path) (λ bytes. told columns logged (rows_of columns values bytes room))) part e in
    path_plain is_earlier vector logged path.from path.is

file_plain : (look : Look) (folder : List ℕ) (head : Head) (is_earlier : Earlier) (before all : Joined) (add : AddAction) → with_file look folder head is_earlier before add ≡ Ok all → add.deletion_vector ≡ false
unfolding with_file
file_plain look folder head is_earlier before all add e =
    let values : Given = unwrap_or add.partition_values [] in
    let part = went (part_in look folder (columns_of false head) is_earlier add.path values add.deletion_vector before.room) (λ file. Ok (with_part head add before file)) all e in
    part_plain look folder (columns_of false head) is_earlier add.path values add.deletion_vector before.room part.from part.is

files_plain : (look : Look) (folder : List ℕ) (head : Head) (read : List AddAction) (before all : Joined) (adds : List AddAction) → files_from look folder head read before adds ≡ Ok all → AllByRecursion (λ (add : AddAction). add.deletion_vector ≡ false) adds
unfolding files_from
files_plain look folder head read before all [] e = tt
files_plain look folder head read before all (add ∷ more) e =
    let first = went (with_file look folder head (is_path_of read) before add) (λ next. files_from look folder head (read ++ add ∷ []) next more) all e in
    (file_plain look folder head (is_path_of read) before first.from add first.is, files_plain look folder head (read ++ add ∷ []) first.from all more first.gives)

abbrev sounded : Head → Joined → Result Opened TableRefusal
sounded head all = go (sound_ids head.snapshot all.ids) (λ _. Ok (opened head all))

pub plain : (folder : List ℕ) (asked : Option ℕ) (files : Files) (it : Opened) → opened_at folder asked files ≡ Ok it → All (λ (add : AddAction). add.deletion_vector ≡ false) it.head.snapshot.live
unfolding opened_at
plain folder asked files it e =
    let look : Look = λ path. lookup path files in
    let head = went (head_at asked (log_of folder files)) (λ h. go (live_files look folder h) (sounded h)) it e in
    let all = went (live_files look folder head.from) (sounded head.from) it head.gives in
    let last = went (sound_ids head.from.snapshot all.from.ids) (λ _. Ok (opened head.from all.from)) it all.gives in
    let P : Head → Type 0 = λ h. All (λ (add : AddAction). add.deletion_vector ≡ false) h.snapshot.live in
    let is : opened head.from all.from ≡ it = let e = last.gives in cc in
    subst P (ap (λ (o : Opened). o.head) is) (All-from_recursion (λ (add : AddAction). add.deletion_vector ≡ false) head.from.snapshot.live (files_plain look folder head.from [] (begun head.from) all.from head.from.snapshot.live all.is))
