-- A state that files hold, when files are added: what is read of a file is told by the bytes at its path alone.
use Rattle.std.proofs.Common.{◌≡◌, ℕ, Bool, true, false, cond, List, [], ◌∷◌, ◌++◌, Option, Some, None, Result, Ok, Err, refl, sym, ap, subst, unwrap_or}
use Rattle.dm_store.specs.LoggedPath.{path_of}
use Rattle.table_log.specs.Log.{below}
use Rattle.dm_types.specs.Then.{go}
use Rattle.dm_types.specs.declared.refusal.TableRefusal.{TableRefusal}
use Rattle.dm_types.specs.declared.refusal.TableRefusal.TheVariants as refusal
use Rattle.data_file.specs.Partitions.{Given}
use Rattle.data_file.specs.Rows.{rows_of}
use Rattle.data_file.specs.Wanted.{WantedColumns}
use Rattle.data_file.specs.declared.room.Room.{Room}
use Rattle.delta_actions.specs.declared.action.AddAction.{AddAction}
use Rattle.table_load.specs.Files.{Earlier, Joined, Look, begun, bytes_of, columns_of, files_from, is_path_of, live_files, new_path, or_refused, part_in, path_in, told, with_file, with_part}
use Rattle.table_load.specs.Held.{Opened, TableState, opened, sound_ids, state_of}
use Rattle.table_load.specs.declared.head.Head.{Head}

-- what was there stays
abbrev pub Grown : Look → Look → Type 0
Grown old new = (path bytes : List ℕ) → old path ≡ Some bytes → new path ≡ Some bytes

-- what was answered, and is answered now: the same, or a file was missing that is there now
pub data Kept {A : Type 0} (old new : Look) (folder : List ℕ) (was now : Result A TableRefusal) : Type 0 where
  same : now ≡ was → Kept old new folder was now
  found : (logged path bytes : List ℕ) → was ≡ Err (refusal.MissingFile logged) → path_of logged ≡ Some path → old (below folder path) ≡ None → new (below folder path) ≡ Some bytes → Kept old new folder was now

on_same : {A B : Type 0} (old new : Look) (folder : List ℕ) (was : Result A TableRefusal) (before after : A → Result B TableRefusal) → ((a : A) → was ≡ Ok a → Kept old new folder (before a) (after a)) → Kept old new folder (go was before) (go was after)
on_same old new folder (Ok a) before after later = later a refl
on_same old new folder (Err e) before after later = same refl

pub kept_then : {A B : Type 0} (old new : Look) (folder : List ℕ) (was now : Result A TableRefusal) (before after : A → Result B TableRefusal) → Kept old new folder was now → ((a : A) → was ≡ Ok a → Kept old new folder (before a) (after a)) → Kept old new folder (go was before) (go now after)
kept_then {A} {B} old new folder was now before after (same is) later =
    subst (λ (r : Result A TableRefusal). Kept old new folder (go was before) (go r after)) (sym is) (on_same old new folder was before after later)
kept_then {A} {B} old new folder was now before after (found logged path bytes is means none some) later =
    found logged path bytes (ap (λ (r : Result A TableRefusal). go r before) is) means none some

-- ---- one file

bytes_by : (old new : Look) (folder logged path : List ℕ) (was now : Option (List ℕ)) → path_of logged ≡ Some path → old (below folder path) ≡ was → new (below folder path) ≡ now → ((bytes : List ℕ) → was ≡ Some bytes → now ≡ Some bytes)
    → Kept old new folder (or_refused (refusal.MissingFile logged) was) (or_refused (refusal.MissingFile logged) now)
bytes_by old new folder logged path (Some bytes) now means was_is now_is grown = same (ap (or_refused (refusal.MissingFile logged)) (grown bytes refl))
bytes_by old new folder logged path None None means was_is now_is grown = same refl
bytes_by old new folder logged path None (Some bytes) means was_is now_is grown = found logged path bytes refl means was_is now_is

bytes_kept : (old new : Look) (folder logged path : List ℕ) → Grown old new → path_of logged ≡ Some path → Kept old new folder (bytes_of old folder logged path) (bytes_of new folder logged path)
bytes_kept old new folder logged path grown means =
    bytes_by old new folder logged path (old (below folder path)) (new (below folder path)) means refl refl (grown (below folder path))

-- a path that is answered is the one that the logged one means
new_means : (is_earlier : Earlier) (logged path answer : List ℕ) (earlier : Bool) → is_earlier path ≡ earlier → new_path is_earlier logged path ≡ Ok answer → path ≡ answer
new_means is_earlier logged path answer true is e = let z : ◌≡◌ {A = Result (List ℕ) TableRefusal} (Err (refusal.BadPath logged)) (Ok answer) = subst (λ (b : Bool). cond b (Err (refusal.BadPath logged)) (Ok path) ≡ Ok answer) is e in absurd cc
new_means is_earlier logged path answer false is e = let z : ◌≡◌ {A = Result (List ℕ) TableRefusal} (Ok path) (Ok answer) = subst (λ (b : Bool). cond b (Err (refusal.BadPath logged)) (Ok path) ≡ Ok answer) is e in cc

means_by : (is_earlier : Earlier) (logged answer : List ℕ) (known : Option (List ℕ)) → go (or_refused (refusal.BadPath logged) known) (new_path is_earlier logged) ≡ Ok answer → known ≡ Some answer
means_by is_earlier logged answer None e = absurd cc
means_by is_earlier logged answer (Some path) e = ap Some (new_means is_earlier logged path answer (is_earlier path) refl e)

path_means : (is_earlier : Earlier) (vector : Bool) (logged answer : List ℕ) → path_in is_earlier vector logged ≡ Ok answer → path_of logged ≡ Some answer
path_means is_earlier true logged answer e = absurd cc
path_means is_earlier false logged answer e = means_by is_earlier logged answer (path_of logged) e

pub part_kept : (old new : Look) (folder : List ℕ) (columns : WantedColumns) (is_earlier : Earlier) (logged : List ℕ) (values : Given) (vector : Bool) (room : Room) → Grown old new
    → Kept old new folder (part_in old folder columns is_earlier logged values vector room) (part_in new folder columns is_earlier logged values vector room)
unfolding part_in
part_kept old new folder columns is_earlier logged values vector room grown =
    kept_then old new folder (path_in is_earlier vector logged) (path_in is_earlier vector logged)
    (λ path. go (bytes_of old folder logged path) (λ bytes. told columns logged (rows_of columns values bytes room)))
    (λ path. go (bytes_of new folder logged path) (λ bytes. told columns logged (rows_of columns values bytes room)))
    (same refl)
    (λ path is. kept_then old new folder (bytes_of old folder logged path) (bytes_of new folder logged path)
    (λ bytes. told columns logged (rows_of columns values bytes room)) (λ bytes. told columns logged (rows_of columns values bytes room))
    (bytes_kept old new folder logged path grown (path_means is_earlier vector logged path is)) (λ bytes found. same refl))

-- ---- all files

file_kept : (old new : Look) (folder : List ℕ) (head : Head) (is_earlier : Earlier) (before : Joined) (add : AddAction) → Grown old new → Kept old new folder (with_file old folder head is_earlier before add) (with_file new folder head is_earlier before add)
unfolding with_file
file_kept old new folder head is_earlier before add grown =
    let values : Given = unwrap_or add.partition_values [] in
    kept_then old new folder
    (part_in old folder (columns_of false head) is_earlier add.path values add.deletion_vector before.room)
    (part_in new folder (columns_of false head) is_earlier add.path values add.deletion_vector before.room)
    (λ file. Ok (with_part head add before file)) (λ file. Ok (with_part head add before file))
    (part_kept old new folder (columns_of false head) is_earlier add.path values add.deletion_vector before.room grown) (λ file is. same refl)

pub files_kept : (old new : Look) (folder : List ℕ) (head : Head) (read : List AddAction) (before : Joined) (adds : List AddAction) → Grown old new → Kept old new folder (files_from old folder head read before adds) (files_from new folder head read before adds)
unfolding files_from
files_kept old new folder head read before [] grown = same refl
files_kept old new folder head read before (add ∷ more) grown =
    kept_then old new folder (with_file old folder head (is_path_of read) before add) (with_file new folder head (is_path_of read) before add)
    (λ next. files_from old folder head (read ++ add ∷ []) next more) (λ next. files_from new folder head (read ++ add ∷ []) next more)
    (file_kept old new folder head (is_path_of read) before add grown) (λ next is. files_kept old new folder head (read ++ add ∷ []) next more grown)

-- ---- a state

abbrev pub stated : Look → List ℕ → Head → Result TableState TableRefusal
stated look folder head = go (go (live_files look folder head) (λ all. go (sound_ids head.snapshot all.ids) (λ _. Ok (opened head all)))) (λ it. Ok (state_of it))

pub stated_kept : (old new : Look) (folder : List ℕ) (head : Head) → Grown old new → Kept old new folder (stated old folder head) (stated new folder head)
stated_kept old new folder head grown =
    let sounded : Joined → Result Opened TableRefusal = λ all. go (sound_ids head.snapshot all.ids) (λ _. Ok (opened head all)) in
    kept_then old new folder (go (live_files old folder head) sounded) (go (live_files new folder head) sounded) (λ it. Ok (state_of it)) (λ it. Ok (state_of it))
    (kept_then old new folder (live_files old folder head) (live_files new folder head) sounded sounded (files_kept old new folder head [] (begun head) head.snapshot.live grown) (λ all is. same refl))
    (λ it is. same refl)
