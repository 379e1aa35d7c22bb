-- The state that a DELETE leaves: that of the version before it, without rows.
use Rattle.std.proofs.Common.{◌≡◌, ℕ, zero, suc, ◌+◌, ◌-◌, ◌≤◌, ◌<◌, ℤ, pos, negsuc, List, [], ◌∷◌, ◌++◌, map, length, take, length-append, append-nil, Bool, true, false, Option, Some, None, Result, Ok, Err, refl, ap, sym, ◌∙◌, arith, nat_lt}
use Rattle.std.specs.Prelude.{int_lt}
use Rattle.std.specs.List.{filter_map, last_or, list_any}
use Rattle.std.specs.Option.{option_or}
use Rattle.std.proofs.lemmas.Bool.Decides.{nat_tests}
use Rattle.std.proofs.lemmas.Grind.{flat_map-append}
use Rattle.std.proofs.lemmas.List.Elements.{filter_map-append}
use Rattle.std.proofs.lemmas.List.{take-append-le}
use Rattle.dm_store.specs.Files.{Files, lookup}
use Rattle.dm_types.specs.Then.{go, ◌>>=◌}
use Rattle.dm_types.specs.declared.refusal.TableRefusal.{TableRefusal}
use Rattle.delta_actions.specs.Removal.{removal_of}
use Rattle.delta_actions.specs.declared.action.Action.{Action}
use Rattle.delta_actions.specs.declared.action.Action.TheVariants as action
use Rattle.delta_actions.specs.declared.action.AddAction.{AddAction}
use Rattle.delta_actions.specs.declared.action.MetadataAction.{MetadataAction}
use Rattle.delta_actions.specs.declared.action.ProtocolAction.{ProtocolAction}
use Rattle.delta_schema.specs.declared.schema.ColumnDef.{ColumnDef}
use Rattle.column_mapping.specs.declared.mode.Mode.{Mode}
use Rattle.log_replay.specs.Force.{all_actions, fallen, fallen_within, in_force, last_said, mark_after, mark_from, mark_in_force, metadata_in, protocol_in, tracking_in}
use Rattle.log_replay.specs.Live.{live_adds}
use Rattle.log_replay.specs.Replay.{snapshot_of}
use Rattle.log_replay.specs.declared.commits.Commit.{Commit}
use Rattle.log_replay.specs.declared.snapshot.Snapshot.{Snapshot}
use Rattle.dm_types.specs.declared.refusal.TableRefusal.TheVariants as wrong
use Rattle.row_tracking.specs.Checked.{least_failing}
use Rattle.row_tracking.specs.Ids.{lacks_base}
use Rattle.row_tracking.specs.Order.{in_id_order, ordered}
use Rattle.row_tracking.specs.declared.row_id.RowId.{RowId}
use Rattle.table_features.specs.Features.{read_fault}
use Rattle.table_log.specs.Agree.{said_at}
use Rattle.table_log.specs.Log.{log_of}
use Rattle.table_log.specs.Versions.{commits_at, commits_below, newest_version}
use Rattle.table_load.specs.Files.{Look, begun, files_from, live_files}
use Rattle.table_load.specs.Head.{columns_in, head_at, head_of, mode_in, readable, state_of, unless_fault, with_columns}
use Rattle.table_load.specs.Held.{Opened, held, held_at, opened, opened_at, sound_ids, tracked_ids, unless_wrong, state_of as state_behind}
use Rattle.table_load.specs.Properties.{tracks_rows}
use Rattle.table_load.specs.declared.head.Head.{Head}
use Rattle.table_write.proofs.Grown.{went}

-- ---- what says nothing of the table

abbrev pub removes_of : ℤ → List AddAction → List Action
removes_of time live = map (λ add. action.Remove (removal_of time add)) live

pub nothing_said : {A : Type 0} (says : Action → Option A) (time : ℤ) (live : List AddAction) → ((add : AddAction) → says (action.Remove (removal_of time add)) ≡ None) → filter_map says (removes_of time live) ≡ []
nothing_said says time [] none = refl
nothing_said says time (add ∷ more) none = rw (none add) (nothing_said says time more none)

-- these actions have no metadata, no protocol and no mark
pub record IsSilent (actions : List Action) : Type 0 where
  pub metadata : last_said metadata_in actions ≡ None
  pub protocol : last_said protocol_in actions ≡ None
  pub tracking : last_said tracking_in actions ≡ None

-- ---- the state behind one more commit

marks_stay : (commits : List Commit) (c : Commit) (n : ℕ) → n ≤ length commits → mark_after (commits ++ c ∷ []) n ≡ mark_after commits n
marks_stay commits c n within = ap mark_in_force (take-append-le n commits (c ∷ []) within)

fallen_stays : (commits : List Commit) (c : Commit) (n : ℕ) → n ≤ length commits → fallen_within (commits ++ c ∷ []) n ≡ fallen_within commits n
unfolding fallen_within
fallen_stays commits c zero within = refl
fallen_stays commits c (suc n) within =
    let before : n ≤ length commits = omega (arith, within) in
    rw (marks_stay commits c (suc n) within, marks_stay commits c n before, fallen_stays commits c n before) refl

-- ---- what says nothing of a kind leaves what is in force

last-append : {A : Type 0} (o : Option A) (xs ys : List A) → last_or o (xs ++ ys) ≡ last_or (last_or o xs) ys
last-append o [] ys = refl
last-append o (x ∷ xs) ys = last-append (Some x) xs ys

one_is_last : {A : Type 0} (x : A) (xs : List A) → last_or (Some x) xs ≡ None → ⊥
one_is_last x [] none = absurd cc
one_is_last x (y ∷ ys) none = one_is_last y ys none

none_last : {A : Type 0} (xs : List A) → last_or None xs ≡ None → xs ≡ []
none_last [] none = refl
none_last (x ∷ xs) none = absurd (one_is_last x xs none)

silent_stays : {A : Type 0} (says : Action → Option A) (commits : List Commit) (c : Commit) → last_said says c.actions ≡ None → in_force says (commits ++ c ∷ []) ≡ in_force says commits
silent_stays says commits c silent =
    rw (flat_map-append (λ (commit : Commit). commit.actions) commits (c ∷ []), append-nil c.actions, filter_map-append says (all_actions commits) c.actions, none_last (filter_map says c.actions) silent, append-nil (filter_map says (all_actions commits))) refl

int_same : (m : ℤ) → int_lt m m ≡ false
int_same (pos n) = grind (arith, nat_tests)
int_same (negsuc n) = grind (arith, nat_tests)

fallen_last : (commits : List Commit) (c : Commit) (mark : ℤ) (n : ℕ) → mark_after commits (suc n) ≡ mark → mark_after commits n ≡ mark → fallen_within commits (suc n) ≡ option_or (fallen_within commits n) None
unfolding fallen_within
fallen_last commits c mark n last before = rw (last, before, int_same mark) refl

or_none : {A : Type 0} (o : Option A) → option_or o None ≡ o
or_none None = refl
or_none (Some x) = refl

take_all : (commits : List Commit) (n : ℕ) → n ≡ length commits → mark_after commits n ≡ mark_in_force commits
take_all commits n is = rw is (ap mark_in_force (all commits))
  where
    all : (xs : List Commit) → take (length xs) xs ≡ xs
    all [] = refl
    all (x ∷ xs) = ap (λ ys. x ∷ ys) (all xs)

pub mark_stays : (commits : List Commit) (c : Commit) → IsSilent c.actions → mark_in_force (commits ++ c ∷ []) ≡ mark_in_force commits
mark_stays commits c silent = ap mark_from (silent_stays tracking_in commits c silent.tracking)

pub never_falls : (commits : List Commit) (c : Commit) → IsSilent c.actions → fallen (commits ++ c ∷ []) ≡ fallen commits
never_falls commits c silent =
    let long : length (commits ++ c ∷ []) ≡ suc (length commits) = omega (arith, length-append commits (c ∷ [])) in
    let same = le_self (length commits) in
    let last : mark_after (commits ++ c ∷ []) (suc (length commits)) ≡ mark_in_force commits = take_all (commits ++ c ∷ []) (suc (length commits)) (sym long) ∙ mark_stays commits c silent in
    let before : mark_after (commits ++ c ∷ []) (length commits) ≡ mark_in_force commits = marks_stay commits c (length commits) same ∙ take_all commits (length commits) refl in
    ap (fallen_within (commits ++ c ∷ [])) long ∙ fallen_last (commits ++ c ∷ []) c (mark_in_force commits) (length commits) last before
    ∙ or_none (fallen_within (commits ++ c ∷ []) (length commits)) ∙ fallen_stays commits c (length commits) same
  where
    le_self : (n : ℕ) → n ≤ n
    le_self n = omega arith

-- a table at one more version, without files
abbrev pub emptied : Snapshot → Snapshot
emptied table = record table { version = table.version + 1; live = [] }

made : ℕ → List AddAction → ℤ → Option ℤ → MetadataAction → ProtocolAction → Snapshot
made version live mark fell metadata protocol = record { version = version; metadata = metadata; protocol = protocol; live = live; mark = mark; fallen = fell }

both_of : (metadata : Option MetadataAction) (protocol : Option ProtocolAction) (version : ℕ) (live : List AddAction) (mark : ℤ) (fell : Option ℤ) (table : Snapshot)
    → (metadata >>= λ m. protocol >>= λ p. Some (record { version = version; metadata = m; protocol = p; live = live; mark = mark; fallen = fell })) ≡ Some table
    → (metadata >>= λ m. protocol >>= λ p. Some (record { version = version + 1; metadata = m; protocol = p; live = []; mark = mark; fallen = fell })) ≡ Some (emptied table)
both_of None protocol version live mark fell table e = cc
both_of (Some m) None version live mark fell table e = cc
both_of (Some m) (Some p) version live mark fell table e =
    let is : ◌≡◌ {A = Snapshot} (record { version = version; metadata = m; protocol = p; live = live; mark = mark; fallen = fell }) table = cc in
    ap (λ (t : Snapshot). Some (emptied t)) is

pub state_emptied : (commits : List Commit) (c : Commit) (table : Snapshot) → IsSilent c.actions → live_adds (commits ++ c ∷ []) ≡ [] → 0 < length commits → snapshot_of commits ≡ Some table → snapshot_of (commits ++ c ∷ []) ≡ Some (emptied table)
unfolding snapshot_of
state_emptied commits c table silent none some known =
    let metadata = silent_stays metadata_in commits c silent.metadata in
    let protocol = silent_stays protocol_in commits c silent.protocol in
    let version : length (commits ++ c ∷ []) - 1 ≡ length commits - 1 + 1 = omega (arith, length-append commits (c ∷ []), some) in
    rw (metadata, protocol, version, none, mark_stays commits c silent, never_falls commits c silent)
    (both_of (in_force metadata_in commits) (in_force protocol_in commits) (length commits - 1) (live_adds commits) (mark_in_force commits) (fallen commits) table known)

-- ---- its head

state_from : (known : Option Snapshot) (found : Snapshot) → state_of known ≡ Ok found → known ≡ Some found
state_from None found e = cc
state_from (Some s) found e = cc

abbrev pub emptied_head : Head → Head
emptied_head head = record head { snapshot = emptied head.snapshot }

with_mode : (table : Snapshot) (columns : List ColumnDef) (mode : Mode) (head : Head) → ◌≡◌ {A = Result Head TableRefusal} (Ok (record { snapshot = table; schema = columns; mode = mode })) (Ok head)
    → ◌≡◌ {A = Result Head TableRefusal} (Ok (record { snapshot = emptied table; schema = columns; mode = mode })) (Ok (emptied_head head))
with_mode table columns mode head e =
    let is : ◌≡◌ {A = Head} (record { snapshot = table; schema = columns; mode = mode }) head = cc in
    ap (λ (h : Head). Ok (emptied_head h)) is

columns_emptied : (table : Snapshot) (head : Head) → with_columns table ≡ Ok head → with_columns (emptied table) ≡ Ok (emptied_head head)
unfolding with_columns
columns_emptied table head e =
    let (columns, read, more) = went (columns_in table) _ head e in
    let (mode, mapped, same) = went (mode_in table columns) (λ mode. Ok (record { snapshot = table; schema = columns; mode = mode })) head more in
    rw (read, mapped) (with_mode table columns mode head same)

readable_emptied : (table found : Snapshot) → readable table ≡ Ok found → readable (emptied table) ≡ Ok (emptied found)
readable_emptied table found e =
    let (u, permits, same) = went (unless_fault table.protocol (read_fault table.protocol)) (λ _. Ok table) found e in
    let is : table ≡ found = cc in
    rw permits (ap (λ (t : Snapshot). Ok (emptied t)) is)

pub head_emptied : (commits : List Commit) (c : Commit) (head : Head) → IsSilent c.actions → live_adds (commits ++ c ∷ []) ≡ [] → 0 < length commits → head_of commits ≡ Ok head → head_of (commits ++ c ∷ []) ≡ Ok (emptied_head head)
head_emptied commits c head silent none some e =
    let (state, known, more) = went (state_of (snapshot_of commits)) _ head e in
    let (found, permitted, columned) = went (readable state) with_columns head more in
    let now : snapshot_of (commits ++ c ∷ []) ≡ Some (emptied state) = state_emptied commits c state silent none some (state_from (snapshot_of commits) state known) in
    let read : readable (emptied state) ≡ Ok (emptied found) = readable_emptied state found permitted in
    rw (now, read) (columns_emptied found head columned)

-- ---- its rows

fell_not : (table : Snapshot) (ids : List RowId) → tracked_ids table ids ≡ Ok tt → unless_wrong table.fallen ≡ Ok tt
fell_not table ids e = by (list_any lacks_base table.live) refl
  where
    by : (b : Bool) → list_any lacks_base table.live ≡ b → unless_wrong table.fallen ≡ Ok tt
    by true is = let z : ◌≡◌ {A = Result (Unit {0}) TableRefusal} (Err (wrong.RowIdsWrong (negsuc 0))) (Ok tt) = rw is at e in cc
    by false is =
        let (u, fine, more) = went (unless_wrong table.fallen) (λ _. unless_wrong (least_failing ids table.mark table.version)) tt (rw is at e) in
        fine

sound_emptied : (table : Snapshot) (ids : List RowId) → sound_ids table ids ≡ Ok tt → sound_ids (emptied table) [] ≡ Ok tt
sound_emptied table ids e = by (tracks_rows table) refl
  where
    by : (b : Bool) → tracks_rows table ≡ b → sound_ids (emptied table) [] ≡ Ok tt
    by false is = rw is refl
    by true is = rw (is, fell_not table ids (rw is at e)) refl

-- the table that is opened has no rows
abbrev pub opened_empty : Head → Opened
opened_empty head = opened (emptied_head head) (begun (emptied_head head))

rows_emptied : (look : Look) (folder : List ℕ) (head : Head) (ids : List RowId) → sound_ids head.snapshot ids ≡ Ok tt
    → go (live_files look folder (emptied_head head)) (λ all. go (sound_ids (emptied head.snapshot) all.ids) (λ _. Ok (opened (emptied_head head) all))) ≡ Ok (opened_empty head)
unfolding files_from
rows_emptied look folder head ids sound = rw (sound_emptied head.snapshot ids sound) refl

-- what is known of the table that was opened
pub record WasOpened (folder : List ℕ) (files : Files) (it : Opened) (newest : ℕ) (commits : List Commit) : Type 0 where
  pub was : newest_version (log_of folder files) ≡ Ok newest
  pub read : commits_below (log_of folder files) (newest + 1) ≡ Ok commits
  pub head : head_of commits ≡ Ok it.head
  pub sound : sound_ids it.head.snapshot it.ids ≡ Ok tt
  pub answer : opened_at folder None files ≡ Ok it

newest_asked : (folder : List ℕ) (files : Files) (newest : ℕ) → newest_version (log_of folder files) ≡ Ok newest → commits_at (Some newest) (log_of folder files) ≡ commits_at None (log_of folder files)
unfolding commits_at
newest_asked folder files newest was =
    let same : nat_lt newest newest ≡ false = grind (arith, nat_tests) in
    rw (was, same) refl

opened_newest : (folder : List ℕ) (files : Files) (newest : ℕ) → newest_version (log_of folder files) ≡ Ok newest → opened_at folder (Some newest) files ≡ opened_at folder None files
unfolding opened_at head_at
opened_newest folder files newest was = rw (newest_asked folder files newest was) refl

-- the version before held a state
pub held_before : (folder : List ℕ) (files : Files) (it : Opened) (newest : ℕ) (commits : List Commit) → WasOpened folder files it newest commits → held folder newest files ≡ Ok (state_behind it)
unfolding held_at
held_before folder files it newest commits was = rw (opened_newest folder files newest was.was ∙ was.answer) refl

-- .. and the next one holds it without rows
pub held_empty : (folder : List ℕ) (files now : Files) (it : Opened) (newest : ℕ) (commits : List Commit) (c : Commit) → WasOpened folder files it newest commits → IsSilent c.actions → live_adds (commits ++ c ∷ []) ≡ [] → length commits ≡ newest + 1
    → said_at folder (newest + 1) now ≡ Ok (commits ++ c ∷ []) → held folder (newest + 1) now ≡ Ok (record (state_behind it) { version = it.head.snapshot.version + 1; rows = [] })
unfolding held_at opened_at head_at in_id_order ordered
held_empty folder files now it newest commits c was silent none long said =
    let some : 0 < length commits = omega (arith, long) in
    rw (said, head_emptied commits c it.head silent none some was.head, rows_emptied (λ path. lookup path now) folder it.head it.ids was.sound) refl
