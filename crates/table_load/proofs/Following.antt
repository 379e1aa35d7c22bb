-- Files that are read one after the other.
use Rattle.std.proofs.Common.{◌≡◌, ℕ, suc, ◌+◌, ◌<◌, ◌≤◌, Bool, ◌||◌, false, List, [], ◌∷◌, ◌++◌, length, take, drop, get_or, Option, Some, None, Result, Ok, Err, refl, sym, ap, ◌∙◌, subst, add-one}
use Rattle.std.specs.List.{list_any}
use Rattle.std.proofs.Math.Seq.{drop-cons}
use Rattle.std.proofs.lemmas.List.{drop_all, take_more}
use Rattle.std.proofs.lemmas.List.Folds.{list_any-append}
use mathlib.Core.Path.{fun_ext}
use Rattle.dm_store.specs.Files.{Files, WhereTold, lookup}
use Rattle.dm_store.specs.LoggedPath.{path_of}
use Rattle.dm_types.specs.Then.{go}
use Rattle.dm_types.specs.declared.refusal.Stop.{Stop}
use Rattle.dm_types.specs.declared.refusal.TableRefusal.{TableRefusal}
use Rattle.delta_actions.specs.declared.action.AddAction.{AddAction}
use Rattle.table_load.specs.Files.{Earlier, Joined, Look, begun, files_from, is_path_of, is_same_path, live_files, with_file}
use Rattle.table_load.specs.Tells.{TellsAs}
use Rattle.table_load.specs.declared.head.Head.{Head}
use Rattle.table_load.proofs.InTurn.{tells_same, tells_stops}

abbrev pub look_in : Files → Look
look_in files = λ at. lookup at files

-- so many files are read, and what they come to
abbrev pub Follows : Option Files → List ℕ → Head → ℕ → Joined → Type 0
Follows told folder head i reading =
    WhereTold told (λ files. live_files (look_in files) folder head ≡ files_from (look_in files) folder head (take i head.snapshot.live) reading (drop i head.snapshot.live))

pub begins : (told : Option Files) (folder : List ℕ) (head : Head) (reading : Joined) → reading ≡ begun head → Follows told folder head 0 reading
begins None folder head reading is = tt
begins (Some files) folder head reading is = rw is refl

-- ---- one file more

next_is : (look : Look) (folder : List ℕ) (head : Head) (adds : List AddAction) (i : ℕ) (add : AddAction) (reading : Joined) → i < length adds → add ≡ get_or adds i add
    → files_from look folder head (take i adds) reading (drop i adds) ≡ go (with_file look folder head (is_path_of (take i adds)) reading add) (λ next. files_from look folder head (take (i + 1) adds) next (drop (i + 1) adds))
unfolding files_from
next_is look folder head adds i add reading within is =
    let cut : drop i adds ≡ add ∷ drop (i + 1) adds = drop-cons adds i add within ∙ ap (λ (a : AddAction). a ∷ drop (suc i) adds) (sym is) ∙ ap (λ (n : ℕ). add ∷ drop n adds) (sym (add-one i)) in
    let more : take (i + 1) adds ≡ take i adds ++ add ∷ [] = take_more adds i add within ∙ ap (λ (a : AddAction). take i adds ++ a ∷ []) (sym is) in
    rw (cut, more) refl

same_test : (look : Look) (folder : List ℕ) (head : Head) (first second : Earlier) (reading : Joined) (add : AddAction) → ((path : List ℕ) → first path ≡ second path) → with_file look folder head first reading add ≡ with_file look folder head second reading add
same_test look folder head first second reading add same = ap (λ (test : Earlier). with_file look folder head test reading add) (fun_ext same)

steps : (told : Option Files) (folder : List ℕ) (head : Head) (i : ℕ) (add : AddAction) (test : Earlier) (reading : Joined) → i < length head.snapshot.live → add ≡ get_or head.snapshot.live i add → ((path : List ℕ) → test path ≡ is_path_of (take i head.snapshot.live) path)
    → Follows told folder head i reading → WhereTold told (λ files. live_files (look_in files) folder head ≡ go (with_file (look_in files) folder head test reading add) (λ next. files_from (look_in files) folder head (take (i + 1) head.snapshot.live) next (drop (i + 1) head.snapshot.live)))
steps None folder head i add test reading within is same before = tt
steps (Some files) folder head i add test reading within is same before =
    let adds = head.snapshot.live in
    let look = look_in files in
    let next : Joined → Result Joined TableRefusal = λ next. files_from look folder head (take (i + 1) adds) next (drop (i + 1) adds) in
    before ∙ next_is look folder head adds i add reading within is ∙ ap (λ (r : Result Joined TableRefusal). go r next) (sym (same_test look folder head test (is_path_of (take i adds)) reading add same))

-- a file that is refused ends it
pub stops : (X : Type 0) (view : X → Joined) (told before : Option Files) (folder : List ℕ) (head : Head) (i : ℕ) (add : AddAction) (test : Earlier) (reading : Joined) (why : Stop) (answer : Result X Stop) → before ≡ told → i < length head.snapshot.live → add ≡ get_or head.snapshot.live i add
    → ((path : List ℕ) → test path ≡ is_path_of (take i head.snapshot.live) path) → Follows told folder head i reading → TellsAs {X = X} view before (λ files. with_file (look_in files) folder head test reading add) (Err why) → answer ≡ Err why
    → TellsAs {X = X} view told (λ files. live_files (look_in files) folder head) answer
stops X view told before folder head i add test reading why answer kept within at same so_far tells is =
    let here : TellsAs {X = X} view told (λ files. with_file (look_in files) folder head test reading add) (Err why) = subst (λ (o : Option Files). TellsAs {X = X} view o (λ files. with_file (look_in files) folder head test reading add) (Err why)) kept tells in
    let next : Files → Joined → Result Joined TableRefusal = λ files next. files_from (look_in files) folder head (take (i + 1) head.snapshot.live) next (drop (i + 1) head.snapshot.live) in
    tells_same X view told (λ files. go (with_file (look_in files) folder head test reading add) (next files)) (λ files. live_files (look_in files) folder head) answer (steps told folder head i add test reading within at same so_far)
    (tells_stops X X view view told (λ files. with_file (look_in files) folder head test reading add) next why answer here is)

went : (told : Option Files) (folder : List ℕ) (head : Head) (i : ℕ) (add : AddAction) (test : Earlier) (reading next : Joined)
    → WhereTold told (λ files. live_files (look_in files) folder head ≡ go (with_file (look_in files) folder head test reading add) (λ next. files_from (look_in files) folder head (take (i + 1) head.snapshot.live) next (drop (i + 1) head.snapshot.live)))
    → WhereTold told (λ files. with_file (look_in files) folder head test reading add ≡ Ok next) → Follows told folder head (i + 1) next
went None folder head i add test reading next before found = tt
went (Some files) folder head i add test reading next before found =
    before ∙ ap (λ (r : Result Joined TableRefusal). go r (λ n. files_from (look_in files) folder head (take (i + 1) head.snapshot.live) n (drop (i + 1) head.snapshot.live))) found

-- one that is read goes on
pub goes : (told before : Option Files) (folder : List ℕ) (head : Head) (i : ℕ) (add : AddAction) (test : Earlier) (reading next : Joined) → before ≡ told → i < length head.snapshot.live → add ≡ get_or head.snapshot.live i add
    → ((path : List ℕ) → test path ≡ is_path_of (take i head.snapshot.live) path) → Follows told folder head i reading → WhereTold before (λ files. with_file (look_in files) folder head test reading add ≡ Ok next)
    → Follows told folder head (i + 1) next
goes told before folder head i add test reading next kept within at same so_far found =
    went told folder head i add test reading next (steps told folder head i add test reading within at same so_far)
    (subst (λ (o : Option Files). WhereTold o (λ files. with_file (look_in files) folder head test reading add ≡ Ok next)) kept found)

-- at the end they are all
pub ends : (told : Option Files) (folder : List ℕ) (head : Head) (i : ℕ) (reading : Joined) → length head.snapshot.live ≤ i → Follows told folder head i reading → WhereTold told (λ files. live_files (look_in files) folder head ≡ Ok reading)
unfolding files_from
ends None folder head i reading past so_far = tt
ends (Some files) folder head i reading past so_far = so_far ∙ rw (drop_all i head.snapshot.live past) refl

-- ---- their paths

pub path_more : (adds : List AddAction) (i : ℕ) (add : AddAction) (path : List ℕ) → i < length adds → add ≡ get_or adds i add → is_path_of (take (i + 1) adds) path ≡ (is_path_of (take i adds) path || is_same_path path (path_of add.path))
path_more adds i add path within is =
    let test : AddAction → Bool = λ a. is_same_path path (path_of a.path) in
    let more : take (i + 1) adds ≡ take i adds ++ add ∷ [] = take_more adds i add within ∙ ap (λ (a : AddAction). take i adds ++ a ∷ []) (sym is) in
    ap (list_any test) more ∙ list_any-append test (take i adds) (add ∷ []) ∙ ap (λ (b : Bool). list_any test (take i adds) || b) (or_false (test add))
  where
    or_false : (b : Bool) → (b || false) ≡ b
    or_false Bool.true = refl
    or_false Bool.false = refl
