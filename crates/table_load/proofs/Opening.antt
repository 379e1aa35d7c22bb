-- Opening a table, step by step.
use Rattle.std.proofs.Common.{◌≡◌, ℕ, List, Option, Result, Ok, Err, refl, sym, ap, ◌∙◌, subst}
use Rattle.std.specs.Result.{IsErrAnd}
use Rattle.dm_store.specs.Causes.{Counts, StopCause}
use Rattle.dm_store.specs.Files.{Files, WhereTold}
use Rattle.dm_types.specs.Then.{go}
use Rattle.dm_types.specs.declared.refusal.Stop.{Stop}
use Rattle.dm_types.specs.declared.refusal.Stop.TheVariants as stop
use Rattle.dm_types.specs.declared.refusal.TableRefusal.{TableRefusal}
use Rattle.table_load.specs.Files.{Joined, live_files}
use Rattle.table_load.specs.Head.{head_at}
use Rattle.table_load.specs.Held.{Opened, opened, opened_at, sound_ids}
use Rattle.table_load.specs.Loaded.{come_to, opened_for, permitted, seen}
use Rattle.table_load.specs.StepsLoading.{Gives}
use Rattle.table_load.specs.Tells.{Tells, TellsAs}
use Rattle.table_load.specs.declared.files.Reading.{Reading}
use Rattle.table_load.specs.declared.head.Head.{Head}
use Rattle.table_load.specs.declared.loaded.Loaded.{Loaded}
use Rattle.table_load.specs.declared.loaded.Purpose.{Purpose}
use Rattle.table_log.specs.Log.{log_of}
use Rattle.table_load.proofs.Following.{look_in}
use Rattle.table_load.proofs.InTurn.{gives_stops, goes_on, tells_follows, tells_same, tells_stops, told}
use Rattle.table_load.proofs.PartRead.{everywhere}

-- what `?` hands on
pub handed : (answer : Result Loaded Stop) (why : Stop) → IsErrAnd answer (λ found. found ≡ why) → answer ≡ Err why
handed (Ok loaded) why is = absurd is
handed (Err found) why is = let e : found ≡ why = is in cc

-- a check that refused is no fault of the store
pub calm : (X : Type 0) (known : Result (Unit {0}) TableRefusal) (before now : ℕ) (why : Stop) (answer : Result X Stop) → now ≡ before → Gives known (Err why) → answer ≡ Err why → Counts StopCause before now answer
calm X known before now why answer same gives is = subst (λ (r : Result X Stop). Counts StopCause before now r) (sym is) (by why gives)
  where
    by : (stopped : Stop) → Gives known (Err stopped) → StopCause stopped before now
    by (stop.Refused r) g = same
    by stop.Store g = absurd g
    by stop.Names g = absurd g
    by stop.Memory g = same

-- ---- the rows that are read

abbrev with_all : Head → Joined → Result Opened TableRefusal
with_all head all = go (sound_ids head.snapshot all.ids) (λ _. Ok (opened head all))

abbrev with_head : List ℕ → Files → Head → Result Opened TableRefusal
with_head folder all head = go (live_files (look_in all) folder head) (with_all head)

abbrev head_in : List ℕ → Option ℕ → Files → Result Head TableRefusal
head_in folder asked all = head_at asked (log_of folder all)

opened_is : (folder : List ℕ) (asked : Option ℕ) (all : Files) → opened_at folder asked all ≡ go (head_in folder asked all) (with_head folder all)
unfolding opened_at
opened_is folder asked all = refl

by_head : (files : Option Files) (folder : List ℕ) (asked : Option ℕ) (answer : Result Loaded Stop) → TellsAs {X = Loaded} seen files (λ all. go (head_in folder asked all) (with_head folder all)) answer → TellsAs {X = Loaded} seen files (opened_at folder asked) answer
by_head files folder asked answer =
    tells_same Loaded seen files (λ all. go (head_in folder asked all) (with_head folder all)) (opened_at folder asked) answer
    (everywhere files (λ all. opened_at folder asked all ≡ go (head_in folder asked all) (with_head folder all)) (opened_is folder asked))

pub head_refused : (files : Option Files) (folder : List ℕ) (asked : Option ℕ) (why : Stop) (answer : Result Loaded Stop) → Tells files (head_in folder asked) (Err why) → answer ≡ Err why → TellsAs {X = Loaded} seen files (opened_at folder asked) answer
head_refused files folder asked why answer tells is =
    by_head files folder asked answer (tells_stops Head Loaded (λ value. value) seen files (head_in folder asked) (with_head folder) why answer tells is)

behind_head : (files before : Option Files) (folder : List ℕ) (asked : Option ℕ) (head : Head) (answer : Result Loaded Stop) → before ≡ files → WhereTold files (λ all. head_in folder asked all ≡ Ok head)
    → TellsAs {X = Loaded} seen before (λ all. with_head folder all head) answer → TellsAs {X = Loaded} seen files (opened_at folder asked) answer
behind_head files before folder asked head answer kept found tells =
    by_head files folder asked answer (tells_follows Loaded seen files before (head_in folder asked) (with_head folder) head answer kept found tells)

pub rows_refused : (files before : Option Files) (folder : List ℕ) (asked : Option ℕ) (head : Head) (why : Stop) (answer : Result Loaded Stop) → before ≡ files → WhereTold files (λ all. head_in folder asked all ≡ Ok head)
    → TellsAs {X = Reading} come_to before (λ all. live_files (look_in all) folder head) (Err why) → answer ≡ Err why → TellsAs {X = Loaded} seen files (opened_at folder asked) answer
rows_refused files before folder asked head why answer kept found tells is =
    behind_head files before folder asked head answer kept found
    (tells_stops Reading Loaded come_to seen before (λ all. live_files (look_in all) folder head) (λ _. with_all head) why answer tells is)

behind_rows : (files before : Option Files) (folder : List ℕ) (asked : Option ℕ) (head : Head) (all : Joined) (answer : Result Loaded Stop) → before ≡ files → WhereTold files (λ fs. head_in folder asked fs ≡ Ok head)
    → WhereTold before (λ fs. live_files (look_in fs) folder head ≡ Ok all) → TellsAs {X = Loaded} seen before (λ _. with_all head all) answer → TellsAs {X = Loaded} seen files (opened_at folder asked) answer
behind_rows files before folder asked head all answer kept found read tells =
    behind_head files before folder asked head answer kept found
    (tells_follows Loaded seen before before (λ fs. live_files (look_in fs) folder head) (λ _. with_all head) all answer refl read tells)

pub ids_refused : (files before : Option Files) (folder : List ℕ) (asked : Option ℕ) (head : Head) (all : Joined) (why : Stop) (answer : Result Loaded Stop) → before ≡ files → WhereTold files (λ fs. head_in folder asked fs ≡ Ok head)
    → WhereTold before (λ fs. live_files (look_in fs) folder head ≡ Ok all) → Gives (sound_ids head.snapshot all.ids) (Err why) → answer ≡ Err why → TellsAs {X = Loaded} seen files (opened_at folder asked) answer
ids_refused files before folder asked head all why answer kept found read gives is =
    behind_rows files before folder asked head all answer kept found read
    (told Loaded seen before (with_all head all) answer (gives_stops (Unit {0}) Loaded (λ value. value) seen (sound_ids head.snapshot all.ids) (λ _. Ok (opened head all)) (with_all head all) why answer refl gives is))

pub opens : (files before : Option Files) (folder : List ℕ) (asked : Option ℕ) (head : Head) (all : Joined) (loaded : Loaded) → before ≡ files → WhereTold files (λ fs. head_in folder asked fs ≡ Ok head)
    → WhereTold before (λ fs. live_files (look_in fs) folder head ≡ Ok all) → sound_ids head.snapshot all.ids ≡ Ok tt → opened head all ≡ seen loaded → WhereTold files (λ fs. opened_at folder asked fs ≡ Ok (seen loaded))
opens files before folder asked head all loaded kept found read sound is =
    behind_rows files before folder asked head all (Ok loaded) kept found read
    (told Loaded seen before (with_all head all) (Ok loaded) (goes_on (sound_ids head.snapshot all.ids) (λ _. Ok (opened head all)) tt sound ∙ ap in_ok is))
  where
    in_ok : Opened → Result Opened TableRefusal
    in_ok it = Ok it

-- ---- for a purpose

abbrev once_permitted : Purpose → Opened → Result Opened TableRefusal
once_permitted purpose it = go (permitted purpose it.head.snapshot) (λ _. Ok it)

opened_for_is : (purpose : Purpose) (folder : List ℕ) (asked : Option ℕ) (all : Files) → opened_for purpose folder asked all ≡ go (opened_at folder asked all) (once_permitted purpose)
unfolding opened_for
opened_for_is purpose folder asked all = refl

by_opened : (files : Option Files) (purpose : Purpose) (folder : List ℕ) (asked : Option ℕ) (answer : Result Loaded Stop) → TellsAs {X = Loaded} seen files (λ all. go (opened_at folder asked all) (once_permitted purpose)) answer → TellsAs {X = Loaded} seen files (opened_for purpose folder asked) answer
by_opened files purpose folder asked answer =
    tells_same Loaded seen files (λ all. go (opened_at folder asked all) (once_permitted purpose)) (opened_for purpose folder asked) answer
    (everywhere files (λ all. opened_for purpose folder asked all ≡ go (opened_at folder asked all) (once_permitted purpose)) (opened_for_is purpose folder asked))

pub unread : (files : Option Files) (purpose : Purpose) (folder : List ℕ) (asked : Option ℕ) (why : Stop) (answer : Result Loaded Stop) → TellsAs {X = Loaded} seen files (opened_at folder asked) (Err why) → answer ≡ Err why → TellsAs {X = Loaded} seen files (opened_for purpose folder asked) answer
unread files purpose folder asked why answer tells is =
    by_opened files purpose folder asked answer (tells_stops Loaded Loaded seen seen files (opened_at folder asked) (λ _. once_permitted purpose) why answer tells is)

pub forbidden : (files : Option Files) (purpose : Purpose) (folder : List ℕ) (asked : Option ℕ) (loaded : Loaded) (why : Stop) (answer : Result Loaded Stop) → WhereTold files (λ all. opened_at folder asked all ≡ Ok (seen loaded))
    → Gives (permitted purpose loaded.head.snapshot) (Err why) → answer ≡ Err why → TellsAs {X = Loaded} seen files (opened_for purpose folder asked) answer
forbidden files purpose folder asked loaded why answer found gives is =
    by_opened files purpose folder asked answer
    (tells_follows Loaded seen files files (opened_at folder asked) (λ _. once_permitted purpose) (seen loaded) answer refl found
    (told Loaded seen files (once_permitted purpose (seen loaded)) answer
    (gives_stops (Unit {0}) Loaded (λ value. value) seen (permitted purpose loaded.head.snapshot) (λ _. Ok (seen loaded)) (once_permitted purpose (seen loaded)) why answer refl gives is)))

pub allowed : (files : Option Files) (purpose : Purpose) (folder : List ℕ) (asked : Option ℕ) (loaded : Loaded) → WhereTold files (λ all. opened_at folder asked all ≡ Ok (seen loaded)) → permitted purpose loaded.head.snapshot ≡ Ok tt
    → WhereTold files (λ all. opened_for purpose folder asked all ≡ Ok (seen loaded))
allowed files purpose folder asked loaded found permit =
    by_opened files purpose folder asked (Ok loaded)
    (tells_follows Loaded seen files files (opened_at folder asked) (λ _. once_permitted purpose) (seen loaded) (Ok loaded) refl found
    (told Loaded seen files (once_permitted purpose (seen loaded)) (Ok loaded) (goes_on (permitted purpose loaded.head.snapshot) (λ _. Ok (seen loaded)) tt permit)))
