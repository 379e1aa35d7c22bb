-- What DELETE leaves of files that are told.
use Rattle.std.proofs.Common.{◌≡◌, ◌≢◌, ◌⊎◌, ℕ, zero, suc, ◌+◌, ◌-◌, ◌^◌, ◌<◌, ℤ, List, [], ◌∷◌, ◌++◌, map, length, take, length-append, codes, cond, Bool, true, false, not, nat_lt, ◌&&◌, ◌||◌, Option, Some, None, Result, Ok, Err, inl, inr, refl, ap, sym, ◌∙◌, subst, arith}
use Rattle.std.specs.Prelude.{IfSome, unwrap_or}
use Rattle.std.specs.List.{All, AllByRecursion}
use Rattle.std.specs.List.Sorted.{IsStrictlySortedBy}
use Rattle.std.specs.Str.{bytes_eq}
use Rattle.std.proofs.lemmas.Bool.Decides.{nat_tests}
use Rattle.std.proofs.lemmas.List.Elements.{recursion_from_All, All-from_recursion}
use Rattle.std.proofs.lemmas.Slice.Eq.{bytes_eq-Decides}
use Rattle.dm_store.specs.Files.{Files, WhereTold, IsPresent, appended, lookup}
use Rattle.dm_types.specs.Then.{◌>>=◌}
use Rattle.dm_types.specs.declared.refusal.Refused.TheVariants as refused
use Rattle.dm_types.specs.declared.refusal.PutRefusal.{PutRefusal}
use Rattle.dm_types.specs.declared.refusal.PutRefusal.TheVariants as clash
use Rattle.dm_types.specs.declared.refusal.Stop.{Stop}
use Rattle.dm_types.specs.declared.refusal.Stop.TheVariants as stop
use Rattle.dm_types.specs.declared.refusal.TableRefusal.{TableRefusal}
use Rattle.dm_types.specs.declared.refusal.TableRefusal.TheVariants as refusal
use Rattle.dm_types.specs.declared.refusal.Counted.TheVariants as counted
use Rattle.delta_actions.specs.Meaning.{commit_of}
use Rattle.delta_actions.specs.Removal.{removal_of}
use Rattle.delta_actions.specs.Writable.{AreOrdered, HasForm, IsWritable, AreWritable}
use Rattle.delta_actions.specs.Written.{commit_text}
use Rattle.delta_actions.specs.declared.action.AddAction.{AddAction}
use Rattle.delta_actions.specs.declared.action.MetadataAction.{MetadataAction}
use Rattle.delta_actions.specs.declared.action.ProtocolAction.{ProtocolAction}
use Rattle.delta_actions.specs.declared.action.Action.{Action}
use Rattle.delta_actions.specs.declared.action.Action.TheVariants as action
use Rattle.log_replay.specs.Changes.{removes}
use Rattle.log_replay.specs.Force.{metadata_in, protocol_in, tracking_in, in_force, mark_in_force, fallen}
use Rattle.log_replay.specs.Live.{AreNumbered, live_adds, paths_of, is_add, is_of, numbered}
use Rattle.log_replay.specs.Replay.{snapshot_of}
use Rattle.log_replay.specs.declared.commits.Commit.{Commit}
use Rattle.log_replay.specs.declared.snapshot.Snapshot.{Snapshot}
use Rattle.table_features.specs.Features.{read_fault, write_fault}
use Rattle.table_log.specs.Agree.{AreUnseen, said_at, FrameNext, SaysNext, NextIsAbsent}
use Rattle.table_log.specs.Log.{Log, log_of, commit_path, bytes_of}
use Rattle.table_log.specs.Versions.{newest_version, commits_at, commits_below, commit_at, actions_in, good_lines}
use Rattle.table_load.specs.Files.{Look, live_files}
use Rattle.table_load.specs.Head.{columns_in, head_at, head_of, mode_in, state_of, readable, unless_fault, with_columns}
use Rattle.table_load.specs.Agree.{HeldBesideNext, HeldElsewhere}
use Rattle.table_load.specs.Held.{Opened, held, opened, opened_at, sound_ids, state_of as state_behind_it}
use Rattle.table_load.specs.Loaded.{opened_for}
use Rattle.table_load.specs.OpenedForWriting.{has_room, writable}
use Rattle.table_load.specs.declared.head.Head.{Head}
use Rattle.table_load.specs.declared.loaded.Purpose.TheVariants as purpose
use Rattle.log_replay.specs.declared.numbers.TheConstants.{MAX_COMMITS}
use Rattle.commit_log.specs.Block.{files_of, block_of, commit_file}
use Rattle.commit_log.specs.Commits.{AllPut, SomePut, ReadsBack}
use Rattle.commit_log.specs.declared.new_files.NewFiles.{NewFiles}
use Rattle.table_write.proofs.EmptyState.{IsSilent, WasOpened, held_before, held_empty, nothing_said}
use Rattle.table_write.specs.Delete.{head_check, deletable, delete_actions, deletion, delete_from}
use Rattle.table_write.specs.Emptied.{DeletesAll, DeleteEmpties, LeavesFiles, DeleteStands}
use Rattle.table_write.specs.Outside.{Outside}
use Rattle.table_write.specs.Writing.{of_table, IsCutOff, IsStarved, NameIsTaken, VersionIsTaken, version_line}
use Rattle.table_write.proofs.Grown.{front_of_one, grown, none_put, take_none, untouched, went}

-- ---- what passed

table_passed : {A : Type 0} (r : Result A TableRefusal) (value : A) → of_table r ≡ Ok value → r ≡ Ok value
table_passed (Ok a) value e = cc
table_passed (Err r) value e = cc

state_from : (known : Option Snapshot) (found : Snapshot) → state_of known ≡ Ok found → known ≡ Some found
state_from None found e = cc
state_from (Some s) found e = cc

readable_same : (table found : Snapshot) → readable table ≡ Ok found → found ≡ table
readable_same table found e = let (u, first, second) = went (unless_fault table.protocol (read_fault table.protocol)) (λ _. Ok table) found e in cc

room_from : (newest : ℕ) → has_room newest ≡ Ok tt → newest + 1 < MAX_COMMITS
room_from newest e = by (nat_lt (newest + 1) MAX_COMMITS) refl
  where
    by : (test : Bool) → nat_lt (newest + 1) MAX_COMMITS ≡ test → newest + 1 < MAX_COMMITS
    by true is = grind (arith, nat_tests)
    by false is = let refused : cond false (Ok tt) (Err (refusal.TooLarge counted.Commits)) ≡ Ok tt = subst (λ (b : Bool). cond b (Ok tt) (Err (refusal.TooLarge counted.Commits)) ≡ Ok tt) is e in cc

-- a table whose rows were deleted, as it was opened
pub record WasOpen (folder : List ℕ) (files : Files) (table : Snapshot) : Type 0 where
  pub it : Opened
  pub newest : ℕ
  pub commits : List Commit
  pub opened : WasOpened folder files it newest commits
  pub snapshot : it.head.snapshot ≡ table
  pub state : snapshot_of commits ≡ Some table
  pub plain : AllByRecursion (λ (add : AddAction). add.deletion_vector ≡ false) table.live
  pub room : table.version + 1 < MAX_COMMITS

was_writable : (table : Snapshot) → writable table ≡ Ok tt → table.version + 1 < MAX_COMMITS
unfolding writable
was_writable table e =
    let (v, written, rest) = went (unless_fault table.protocol (write_fault table.protocol)) _ tt e in
    let (w, room, rules) = went (has_room table.version) _ tt rest in
    room_from table.version room

headed : (table : Snapshot) (head : Head) → with_columns table ≡ Ok head → head.snapshot ≡ table
unfolding with_columns
headed table head e =
    let (columns, read, more) = went (columns_in table) _ head e in
    let (mode, mapped, same) = went (mode_in table columns) (λ mode. Ok (record { snapshot = table; schema = columns; mode = mode })) head more in
    let is : ◌≡◌ {A = Head} (record { snapshot = table; schema = columns; mode = mode }) head = cc in
    sym (ap (λ (h : Head). h.snapshot) is)

state_behind : (commits : List Commit) (head : Head) → head_of commits ≡ Ok head → snapshot_of commits ≡ Some head.snapshot
state_behind commits head e =
    let (state, known, more) = went (state_of (snapshot_of commits)) _ head e in
    let (found, permitted, columned) = went (readable state) with_columns head more in
    state_from (snapshot_of commits) state known ∙ ap Some (sym (readable_same state found permitted) ∙ sym (headed found head columned))

-- what was looked at when it was opened
record Looked (folder : List ℕ) (files : Files) (it : Opened) : Type 0 where
  head : head_at None (log_of folder files) ≡ Ok it.head
  sound : sound_ids it.head.snapshot it.ids ≡ Ok tt

looked : (folder : List ℕ) (files : Files) (it : Opened) → opened_at folder None files ≡ Ok it → Looked folder files it
unfolding opened_at
looked folder files it e =
    let look : Look = λ path. lookup path files in
    let (head, at, more) = went (head_at None (log_of folder files)) _ it e in
    let (all, read, checks) = went (live_files look folder head) _ it more in
    let (u, sound, same) = went (sound_ids head.snapshot all.ids) (λ _. Ok (opened head all)) it checks in
    let is : opened head all ≡ it = cc in
    subst (λ (o : Opened). Looked folder files o) is (record { head = at; sound = sound })

abbrev pub FilesArePlain : Type 0
FilesArePlain = (folder : List ℕ) (asked : Option ℕ) (files : Files) (it : Opened) → opened_at folder asked files ≡ Ok it → All (λ (add : AddAction). add.deletion_vector ≡ false) it.head.snapshot.live

opened_was : FilesArePlain → (folder : List ℕ) (files : Files) (it : Opened) → opened_for purpose.Write folder None files ≡ Ok it → WasOpen folder files it.head.snapshot
unfolding opened_for head_at commits_at
opened_was plain folder files it e =
    let (found, at, checks) = went (opened_at folder None files) _ it e in
    let (u, passes, same) = went (writable found.head.snapshot) (λ _. Ok found) it checks in
    let is : found ≡ it = cc in
    let here : opened_at folder None files ≡ Ok it = at ∙ ap Ok is in
    let seen = looked folder files it here in
    let (commits, read, behind) = went (commits_at None (log_of folder files)) head_of it.head seen.head in
    let (newest, was, below) = went (newest_version (log_of folder files)) _ commits read in
    record {
      it = it;
      newest = newest;
      commits = commits;
      opened = record { was = was; read = below; head = behind; sound = seen.sound; answer = here };
      snapshot = refl;
      state = state_behind commits it.head behind;
      plain = recursion_from_All (λ (add : AddAction). add.deletion_vector ≡ false) it.head.snapshot.live (plain folder None files it here);
      room = subst (λ (o : Opened). o.head.snapshot.version + 1 < MAX_COMMITS) is (was_writable found.head.snapshot passes);
    }

deleted_from : FilesArePlain → (folder : List ℕ) (files : Files) (table : Snapshot) → deletable folder files ≡ Ok table → WasOpen folder files table
unfolding deletable
deleted_from plain folder files table e =
    let (found, opens, checks) = went (of_table (opened_for purpose.Write folder None files)) _ table e in
    let (u, passes, same) = went (head_check found.head) (λ _. Ok found.head.snapshot) table checks in
    let is : found.head.snapshot ≡ table = cc in
    subst (λ (t : Snapshot). WasOpen folder files t) is (opened_was plain folder files found (table_passed (opened_for purpose.Write folder None files) found opens))

-- ---- the commits that were read

abbrev pub Numbers : Type 0
Numbers = (commits : List Commit) (commit : Commit) → AreNumbered 0 commits → commit.version ≡ length commits → AreNumbered 0 (commits ++ commit ∷ [])

abbrev pub Forms : Type 0
Forms = (bytes : List ℕ) (found : List Action) → commit_of bytes ≡ Ok found → All HasForm found

pub record AreRead (commits : List Commit) (count : ℕ) : Type 0 where
  pub long : length commits ≡ count
  pub in_turn : AreNumbered 0 commits
  pub formed : AllByRecursion (λ (commit : Commit). All HasForm commit.actions) commits

good_from : (n : ℕ) (r : Result (List Action) ℕ) (actions : List Action) → good_lines n r ≡ Ok actions → r ≡ Ok actions
good_from n (Ok found) actions e = cc
good_from n (Err line) actions e = cc

read_from : (n : ℕ) (bytes : Option (List ℕ)) (actions : List Action) → Forms → actions_in n bytes ≡ Ok actions → All HasForm actions
read_from n None actions forms e = absurd cc
read_from n (Some bytes) actions forms e = forms bytes actions (good_from n (commit_of bytes) actions e)

formed-push : (commits : List Commit) (commit : Commit) → AllByRecursion (λ (c : Commit). All HasForm c.actions) commits → All HasForm commit.actions → AllByRecursion (λ (c : Commit). All HasForm c.actions) (commits ++ commit ∷ [])
formed-push [] commit all here = (here, tt)
formed-push (c ∷ commits) commit all here = (all.0, formed-push commits commit all.1 here)

were_read : (log : Log) (n : ℕ) (commits : List Commit) → Numbers → Forms → commits_below log n ≡ Ok commits → AreRead commits n
unfolding commits_below AreNumbered
were_read log zero commits step forms e = let none : commits ≡ [] = cc in rw none (record { long = refl; in_turn = tt; formed = tt })
were_read log (suc n) commits step forms e =
    let (before, below, more) = went (commits_below log n) _ commits e in
    let (actions, here, is) = went (commit_at log n) (λ actions. Ok (before ++ numbered n actions ∷ [])) commits more in
    let so_far = were_read log n before step forms below in
    let whole : commits ≡ before ++ numbered n actions ∷ [] = cc in
    rw whole (record {
      long = omega (arith, length-append before (numbered n actions ∷ []), so_far.long);
      in_turn = step before (numbered n actions) so_far.in_turn (sym so_far.long);
      formed = formed-push before (numbered n actions) so_far.formed (read_from n (bytes_of n log) actions forms here);
    })

-- ---- the state and its files

from_parts : {A B C : Type 0} (first : Option A) (second : Option B) (make : A → B → C) (value : C) → (first >>= λ a. second >>= λ b. Some (make a b)) ≡ Some value → (a : A) × (b : B) × (make a b ≡ value)
from_parts None second make value e = cc
from_parts (Some a) None make value e = cc
from_parts (Some a) (Some b) make value e = (a, b, cc)

state_is : (commits : List Commit) (table : Snapshot) → snapshot_of commits ≡ Some table → (table.version ≡ length commits - 1) × (table.live ≡ live_adds commits)
unfolding snapshot_of
state_is commits table e =
    let make : MetadataAction → ProtocolAction → Snapshot = λ metadata protocol. record { version = length commits - 1; metadata = metadata; protocol = protocol; live = live_adds commits; mark = mark_in_force commits; fallen = fallen commits } in
    let (metadata, protocol, is) = from_parts (in_force metadata_in commits) (in_force protocol_in commits) make table e in
    (ap (λ (s : Snapshot). s.version) (sym is), ap (λ (s : Snapshot). s.live) (sym is))

-- ---- the actions of a DELETE

values_ordered : (values : Option (List (List ℕ × Option (List ℕ)))) → IfSome values AreOrdered → AreOrdered (unwrap_or values [])
unfolding IsStrictlySortedBy
values_ordered None ordered = tt
values_ordered (Some pairs) ordered = ordered

removals_writable : (time : ℤ) (live : List AddAction) → AllByRecursion (λ (add : AddAction). HasForm (action.Add add)) live → AllByRecursion (λ (add : AddAction). add.deletion_vector ≡ false) live → AllByRecursion IsWritable (map (λ add. action.Remove (removal_of time add)) live)
removals_writable time [] forms plain = tt
removals_writable time (add ∷ more) forms plain = ((values_ordered add.partition_values forms.0, plain.0), removals_writable time more forms.1 plain.1)

adds_nothing : (time : ℤ) (live : List AddAction) → AllByRecursion (λ a. is_add a ≡ false) (map (λ add. action.Remove (removal_of time add)) live)
adds_nothing time [] = tt
adds_nothing time (add ∷ more) = (refl, adds_nothing time more)

-- a path that is removed behind one more action is removed
behind : (a : Action) (actions : List Action) (paths : List (List ℕ)) → AllByRecursion (λ path. removes actions path ≡ true) paths → AllByRecursion (λ path. removes (a ∷ actions) path ≡ true) paths
behind a actions [] all = tt
behind a actions (path ∷ paths) all = (rw all.0 (or_true (not (is_add a) && is_of path a)), behind a actions paths all.1)
  where
    or_true : (b : Bool) → (b || true) ≡ true
    or_true true = refl
    or_true false = refl

removes_each : (time : ℤ) (live : List AddAction) → AllByRecursion (λ path. removes (map (λ add. action.Remove (removal_of time add)) live) path ≡ true) (map (λ (add : AddAction). add.path) live)
removes_each time [] = tt
removes_each time (add ∷ more) =
    let here : bytes_eq add.path add.path ≡ true = (bytes_eq-Decides add.path add.path).1 refl in
    (rw here refl, behind (action.Remove (removal_of time add)) (map (λ a. action.Remove (removal_of time a)) more) (map (λ (a : AddAction). a.path) more) (removes_each time more))

-- ---- the new version

abbrev pub FormsOfLive : Type 0
FormsOfLive = (commits : List Commit) → All (λ commit. All HasForm commit.actions) commits → All (λ add. HasForm (action.Add add)) (live_adds commits)

abbrev pub RemovalOfAll : Type 0
RemovalOfAll = (commits : List Commit) (commit : Commit) → AreNumbered 0 commits → commit.version ≡ length commits → All (λ a. is_add a ≡ false) commit.actions → All (λ path. removes commit.actions path ≡ true) (paths_of (live_adds commits)) → live_adds (commits ++ commit ∷ []) ≡ []

-- the laws of the layers below
pub record Laws : Type 0 where
  pub numbers : Numbers
  pub forms : Forms
  pub live : FormsOfLive
  pub removal : RemovalOfAll
  pub next : FrameNext
  pub says : SaysNext
  pub plain : FilesArePlain
  pub beside : HeldBesideNext
  pub elsewhere : HeldElsewhere

silent : (table : Snapshot) (time : ℤ) → IsSilent (delete_actions table time)
silent table time = record {
  metadata = rw (nothing_said metadata_in time table.live (λ add. refl)) refl;
  protocol = rw (nothing_said protocol_in time table.live (λ add. refl)) refl;
  tracking = rw (nothing_said tracking_in time table.live (λ add. refl)) refl;
}

actions_writable : (time : ℤ) (table : Snapshot) → AllByRecursion (λ (add : AddAction). HasForm (action.Add add)) table.live → AllByRecursion (λ (add : AddAction). add.deletion_vector ≡ false) table.live → AreWritable (delete_actions table time)
actions_writable time table forms plain = All-from_recursion IsWritable (delete_actions table time) ((tt, tt), removals_writable time table.live forms plain)

files_none : (folder : List ℕ) (table : Snapshot) (time : ℤ) → files_of (deletion folder table time) ≡ []
unfolding files_of
files_none folder table time = refl

said_newest : (log : Log) (newest : ℕ) (commits : List Commit) → newest_version log ≡ Ok newest → commits_below log (newest + 1) ≡ Ok commits → commits_at (Some newest) log ≡ Ok commits
unfolding commits_at
said_newest log newest commits was read =
    let same : nat_lt newest newest ≡ false = grind (arith, nat_tests) in
    rw (was, same) read

pub emptied : Laws → (folder text : List ℕ) (files : Files) (table : Snapshot) (time : ℤ) → deletable folder files ≡ Ok table → ReadsBack (deletion folder table time) → text ≡ version_line (table.version + 1) → DeletesAll folder files (files ++ block_of (deletion folder table time)) text
emptied laws folder text files table time passed built line =
    let was = deleted_from laws.plain folder files table passed in
    let read = were_read (log_of folder files) (was.newest + 1) was.commits laws.numbers laws.forms was.opened.read in
    let state = state_is was.commits table was.state in
    let newest_is : table.version ≡ was.newest = omega (arith, state.0, read.long) in
    let forms = laws.live was.commits (All-from_recursion (λ (commit : Commit). All HasForm commit.actions) was.commits read.formed) in
    let live_forms : AllByRecursion (λ (add : AddAction). HasForm (action.Add add)) table.live = subst (λ (live : List AddAction). AllByRecursion (λ (add : AddAction). HasForm (action.Add add)) live) (sym state.1) (recursion_from_All (λ (add : AddAction). HasForm (action.Add add)) (live_adds was.commits) forms) in
    let actions = delete_actions table time in
    let bytes = commit_text actions in
    let back : commit_of bytes ≡ Ok actions = built (actions_writable time table live_forms was.plain) in
    let unseen : AreUnseen [] = record { each = tt } in
    let fits : was.newest + 1 < MAX_COMMITS = omega (arith, newest_is, was.room) in
    let now : files ++ block_of (deletion folder table time) ≡ files ++ ([] ++ (commit_path folder (was.newest + 1), bytes) ∷ []) = ap (λ (fs : Files). files ++ (fs ++ (commit_path folder (table.version + 1), bytes) ∷ [])) (files_none folder table time) ∙ ap (λ (n : ℕ). files ++ ([] ++ (commit_path folder (n + 1), bytes) ∷ [])) newest_is in
    let said : said_at folder was.newest files ≡ Ok was.commits = said_newest (log_of folder files) was.newest was.commits was.opened.was was.opened.read in
    let paths : AllByRecursion (λ path. removes actions path ≡ true) (paths_of (live_adds was.commits)) = subst (λ (live : List AddAction). AllByRecursion (λ path. removes actions path ≡ true) (paths_of live)) state.1 (behind (action.Info (record { operation = codes "DELETE"; timestamp = time })) (map (λ add. action.Remove (removal_of time add)) table.live) (map (λ (a : AddAction). a.path) table.live) (removes_each time table.live)) in
    let commit = numbered (was.newest + 1) actions in
    let next = files ++ ([] ++ (commit_path folder (was.newest + 1), bytes) ∷ []) in
    let says : said_at folder (was.newest + 1) next ≡ Ok (was.commits ++ commit ∷ []) = laws.says files [] folder was.newest bytes unseen fits was.opened.was ∙ rw (said, back) refl in
    let none : live_adds (was.commits ++ commit ∷ []) ≡ [] = laws.removal was.commits commit read.in_turn (sym read.long) (All-from_recursion (λ a. is_add a ≡ false) actions (refl, adds_nothing time table.live)) (All-from_recursion (λ path. removes actions path ≡ true) (paths_of (live_adds was.commits)) paths) in
    let version_is : was.it.head.snapshot.version ≡ was.newest = ap (λ (t : Snapshot). t.version) was.snapshot ∙ newest_is in
    subst (λ (fs : Files). DeletesAll folder files fs text) (sym now) (record {
      newest = was.newest;
      before = state_behind_it was.it;
      held_before = held_before folder files was.it was.newest was.commits was.opened;
      empty = subst (λ (n : ℕ). held folder (was.newest + 1) next ≡ Ok (record (state_behind_it was.it) { version = n + 1; rows = [] })) version_is (held_empty folder files next was.it was.newest was.commits commit was.opened (silent table time) none read.long says);
      stay = λ version other. laws.beside files [] folder was.newest bytes unseen fits was.opened.was version other;
      elsewhere = λ other version apart. laws.elsewhere files [] folder was.newest bytes unseen fits was.opened.was other version apart;
      commits = was.commits;
      actions = actions;
      was = was.opened.was;
      said = said;
      says = says;
      none = none;
      others = laws.next files [] folder was.newest bytes unseen fits was.opened.was;
      line = line ∙ ap (λ (n : ℕ). version_line (n + 1)) newest_is;
    })

-- ---- the laws

passed_told : (told : Option Files) (files : Files) (folder : List ℕ) (table : Snapshot) → told ≡ Some files → WhereTold told (λ fs. deletable folder fs ≡ Ok table) → deletable folder files ≡ Ok table
passed_told told files folder table is passed = subst (λ (o : Option Files). WhereTold o (λ fs. deletable folder fs ≡ Ok table)) is passed

pub empties : Laws → DeleteEmpties
empties laws folder text old new files is accepted =
    let table = accepted.made.plan in
    let time = accepted.made.time in
    let same : accepted.fresh ≡ deletion folder table time = accepted.made.made in
    let built : ReadsBack (deletion folder table time) = subst ReadsBack same accepted.built in
    let line : text ≡ version_line (table.version + 1) = accepted.line ∙ ap (λ (f : NewFiles). version_line f.version) same in
    let put : AllPut (block_of (deletion folder table time)) old.files new.files = subst (λ (f : NewFiles). AllPut (block_of f) old.files new.files) same accepted.put in
    (files ++ block_of (deletion folder table time), grown old.files files (block_of (deletion folder table time)) new.files is put.grown, emptied laws folder text files table time (passed_told old.files files folder table is accepted.made.passed) built line)

leaves : (table : List ℕ) (files : Files) (why : Stop) (new : Outside) → new.files ≡ Some files → ((refusal : PutRefusal) → why ≢ stop.Refused (refused.Put refusal)) → LeavesFiles table files why new
leaves table files why new same free = record { stands = inl same; free = free }

block_one : (folder : List ℕ) (table : Snapshot) (time : ℤ) → block_of (deletion folder table time) ≡ commit_file (deletion folder table time) ∷ []
block_one folder table time = ap (λ (fs : Files). fs ++ commit_file (deletion folder table time) ∷ []) (files_none folder table time)

cut_off : Laws → (folder : List ℕ) (files : Files) (table : Snapshot) (time : ℤ) (told now : Option Files) → told ≡ Some files → deletable folder files ≡ Ok table → ReadsBack (deletion folder table time) → SomePut (block_of (deletion folder table time)) told now
    → (now ≡ Some files) ⊎ ((fs : Files) × (now ≡ Some fs) × (text : List ℕ) × DeletesAll folder files fs text)
cut_off laws folder files table time told now is passed built some = by (front_of_one (commit_file (deletion folder table time)) (block_of (deletion folder table time)) some.count (block_one folder table time))
  where
    by : ((take some.count (block_of (deletion folder table time)) ≡ []) ⊎ (take some.count (block_of (deletion folder table time)) ≡ block_of (deletion folder table time))) → (now ≡ Some files) ⊎ ((fs : Files) × (now ≡ Some fs) × (text : List ℕ) × DeletesAll folder files fs text)
    by (inl none) = inl (none_put files told now (take some.count (block_of (deletion folder table time))) is none some.put.grown)
    by (inr whole) = inr (files ++ block_of (deletion folder table time), grown told files (block_of (deletion folder table time)) now is (some.put.grown ∙ ap (appended told) whole), version_line (table.version + 1), emptied laws folder (version_line (table.version + 1)) files table time passed built refl)

store_leaves : Laws → (folder : List ℕ) (files : Files) (old new : Outside) → old.files ≡ Some files → (new ≡ old) ⊎ IsCutOff (delete_from folder) old new → LeavesFiles folder files stop.Store new
store_leaves laws folder files old new is (inl same) = leaves folder files stop.Store new (untouched files old new is same) (λ refusal e. cc)
store_leaves laws folder files old new is (inr cut) =
    let table = cut.made.plan in
    let time = cut.made.time in
    let same : cut.fresh ≡ deletion folder table time = cut.made.made in
    let passed = passed_told old.files files folder table is cut.made.passed in
    let built : ReadsBack (deletion folder table time) = subst ReadsBack same cut.built in
    let put : SomePut (block_of (deletion folder table time)) old.files new.files = subst (λ (f : NewFiles). SomePut (block_of f) old.files new.files) same cut.put in
    by (cut_off laws folder files table time old.files new.files is passed built put)
  where
    by : (new.files ≡ Some files) ⊎ ((fs : Files) × (new.files ≡ Some fs) × (text : List ℕ) × DeletesAll folder files fs text) → LeavesFiles folder files stop.Store new
    by (inl same) = leaves folder files stop.Store new same (λ refusal e. cc)
    by (inr (fs, now, text, deletes)) = record { stands = inr (refl, (fs, now, text, deletes)); free = λ refusal e. cc }

memory_leaves : (folder : List ℕ) (files : Files) (old new : Outside) → old.files ≡ Some files → (new ≡ old) ⊎ IsStarved (delete_from folder) old new → LeavesFiles folder files stop.Memory new
memory_leaves folder files old new is (inl same) = leaves folder files stop.Memory new (untouched files old new is same) (λ refusal e. cc)
memory_leaves folder files old new is (inr starved) =
    let same : starved.fresh ≡ deletion folder starved.made.plan starved.made.time = starved.made.made in
    let none : take starved.put.count (files_of starved.fresh) ≡ [] = take_none (files_of starved.fresh) starved.put.count (ap files_of same ∙ files_none folder starved.made.plan starved.made.time) in
    leaves folder files stop.Memory new (none_put files old.files new.files (take starved.put.count (files_of starved.fresh)) is none starved.put.put.grown) (λ refusal e. cc)

never_named : (folder : List ℕ) (old : Outside) (path : List ℕ) (new : Outside) → NameIsTaken (delete_from folder) old path new → ⊥
never_named folder old path new taken =
    let same : taken.fresh ≡ deletion folder taken.made.plan taken.made.time = taken.made.made in
    let none : files_of taken.fresh ≡ [] = ap files_of same ∙ files_none folder taken.made.plan taken.made.time in
    let within : taken.index < 0 = subst (λ (fs : Files). taken.index < length fs) none taken.first.within in
    omega (arith, within)

never_overtaken : NextIsAbsent → Laws → (folder : List ℕ) (files : Files) (old : Outside) (version : ℕ) (new : Outside) → old.files ≡ Some files → VersionIsTaken (delete_from folder) old version new → ⊥
never_overtaken absent laws folder files old version new is taken =
    let table = taken.made.plan in
    let same : taken.fresh ≡ deletion folder table taken.made.time = taken.made.made in
    let passed = passed_told old.files files folder table is taken.made.passed in
    let was = deleted_from laws.plain folder files table passed in
    let read = were_read (log_of folder files) (was.newest + 1) was.commits laws.numbers laws.forms was.opened.read in
    let state = state_is was.commits table was.state in
    let newest_is : table.version ≡ was.newest = omega (arith, state.0, read.long) in
    let fits : was.newest + 1 < 2 ^ 63 = omega (arith, newest_is, was.room) in
    let there : IsPresent (commit_path folder (table.version + 1)) (Some files) = subst (λ (o : Option Files). IsPresent (commit_path folder (table.version + 1)) o) is (subst (λ (f : NewFiles). IsPresent (commit_path f.table f.version) old.files) same taken.overtaken.there) in
    there (ap (λ (n : ℕ). lookup (commit_path folder (n + 1)) files) newest_is ∙ absent files folder was.newest fits was.opened.was)

pub stands : NextIsAbsent → Laws → DeleteStands
stands absent laws folder old new files (stop.Refused (refused.Table refusal)) is (checked, same) = leaves folder files (stop.Refused (refused.Table refusal)) new (untouched files old new is same) (λ r e. cc)
stands absent laws folder old new files (stop.Refused (refused.Statement refusal)) is (checked, same) = leaves folder files (stop.Refused (refused.Statement refusal)) new (untouched files old new is same) (λ r e. cc)
stands absent laws folder old new files (stop.Refused (refused.Put (clash.NameTaken path))) is taken = absurd (never_named folder old path new taken)
stands absent laws folder old new files (stop.Refused (refused.Put (clash.VersionTaken version))) is taken = absurd (never_overtaken absent laws folder files old version new is taken)
stands absent laws folder old new files stop.Store is left = store_leaves laws folder files old new is left
stands absent laws folder old new files stop.Names is unnamed = leaves folder files stop.Names new (ap (λ (o : Outside). o.files) unnamed.others ∙ is) (λ refusal e. cc)
stands absent laws folder old new files stop.Memory is left = memory_leaves folder files old new is left
