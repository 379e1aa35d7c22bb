-- The rows of a file, step by step.
use Rattle.std.proofs.Common.{◌≡◌, ℕ, Bool, List, Option, Some, None, Result, Ok, Err, refl, sym, ◌∙◌, subst}
use Rattle.data_file.specs.Partitions.{Given}
use Rattle.data_file.specs.Rows.{Part, rows_of}
use Rattle.data_file.specs.Wanted.{WantedColumns}
use Rattle.data_file.specs.declared.room.Room.{Room}
use Rattle.dm_store.specs.Files.{Files, WhereTold}
use Rattle.dm_types.specs.Then.{go}
use Rattle.dm_types.specs.declared.refusal.Refused.TheVariants as refused
use Rattle.dm_types.specs.declared.refusal.Stop.{Stop}
use Rattle.dm_types.specs.declared.refusal.Stop.TheVariants as stop
use Rattle.dm_types.specs.declared.refusal.TableRefusal.{TableRefusal}
use Rattle.table_load.specs.Files.{Earlier, bytes_of, part_in, path_in, told as told_of}
use Rattle.table_load.specs.StepsLoading.{Gives, GivesAs}
use Rattle.table_load.specs.Tells.{Tells, TellsAs}
use Rattle.table_load.proofs.Following.{look_in}
use Rattle.table_load.proofs.InTurn.{goes_on, tells_follows, tells_same, tells_stops, told}

-- what is known of all files is known of those that are told
pub everywhere : (files : Option Files) (P : Files → Type 0) → ((all : Files) → P all) → WhereTold files P
everywhere None P each = tt
everywhere (Some all) P each = each all

-- what an action says of its file, and what is read
pub record Asked : Type 0 where
  pub folder : List ℕ
  pub columns : WantedColumns
  pub is_earlier : Earlier
  pub logged : List ℕ
  pub values : Given
  pub vector : Bool
  pub room : Room

abbrev pub part_of : Asked → Files → Result Part TableRefusal
part_of a all = part_in (look_in all) a.folder a.columns a.is_earlier a.logged a.values a.vector a.room

abbrev pub with_bytes : Asked → List ℕ → Result Part TableRefusal
with_bytes a bytes = told_of a.columns a.logged (rows_of a.columns a.values bytes a.room)

abbrev pub with_path : Asked → Files → List ℕ → Result Part TableRefusal
with_path a all path = go (bytes_of (look_in all) a.folder a.logged path) (with_bytes a)

part_is : (a : Asked) (all : Files) → part_of a all ≡ go (path_in a.is_earlier a.vector a.logged) (with_path a all)
unfolding part_in
part_is a all = refl

behind_path : (a : Asked) (path : List ℕ) (all : Files) → path_in a.is_earlier a.vector a.logged ≡ Ok path → part_of a all ≡ with_path a all path
behind_path a path all known = part_is a all ∙ goes_on (path_in a.is_earlier a.vector a.logged) (with_path a all) path known

pub path_refused : (X : Type 0) (view : X → Part) (files : Option Files) (a : Asked) (why : Stop) (answer : Result X Stop) → Gives (path_in a.is_earlier a.vector a.logged) (Err why) → answer ≡ Err why → TellsAs {X = X} view files (part_of a) answer
path_refused X view files a why answer gives is =
    tells_same X view files (λ all. go (path_in a.is_earlier a.vector a.logged) (with_path a all)) (part_of a) answer (everywhere files (λ all. part_of a all ≡ go (path_in a.is_earlier a.vector a.logged) (with_path a all)) (part_is a))
    (tells_stops (List ℕ) X (λ value. value) view files (λ _. path_in a.is_earlier a.vector a.logged) (with_path a) why answer (told (List ℕ) (λ value. value) files (path_in a.is_earlier a.vector a.logged) (Err why) gives) is)

pub bytes_refused : (X : Type 0) (view : X → Part) (files : Option Files) (a : Asked) (path : List ℕ) (why : Stop) (answer : Result X Stop) → path_in a.is_earlier a.vector a.logged ≡ Ok path
    → Tells files (λ all. bytes_of (look_in all) a.folder a.logged path) (Err why) → answer ≡ Err why → TellsAs {X = X} view files (part_of a) answer
bytes_refused X view files a path why answer known tells is =
    tells_same X view files (λ all. with_path a all path) (part_of a) answer (everywhere files (λ all. part_of a all ≡ with_path a all path) (λ all. behind_path a path all known))
    (tells_stops (List ℕ) X (λ value. value) view files (λ all. bytes_of (look_in all) a.folder a.logged path) (λ _. with_bytes a) why answer tells is)

pub rows_told : (X : Type 0) (view : X → Part) (files : Option Files) (a : Asked) (path bytes : List ℕ) (answer : Result X Stop) → path_in a.is_earlier a.vector a.logged ≡ Ok path
    → WhereTold files (λ all. bytes_of (look_in all) a.folder a.logged path ≡ Ok bytes) → GivesAs {X = X} view (with_bytes a bytes) answer → TellsAs {X = X} view files (part_of a) answer
rows_told X view files a path bytes answer known found gives =
    tells_same X view files (λ all. with_path a all path) (part_of a) answer (everywhere files (λ all. part_of a all ≡ with_path a all path) (λ all. behind_path a path all known))
    (tells_follows X view files files (λ all. bytes_of (look_in all) a.folder a.logged path) (λ _. with_bytes a) bytes answer refl found (told X view files (with_bytes a bytes) answer gives))

same_stop : (X Y : Type 0) (view : X → Part) (other : Y → Part) (known : Result Part TableRefusal) (why : Stop) → GivesAs {X = X} view known (Err why) → GivesAs {X = Y} other known (Err why)
same_stop X Y view other known (stop.Refused (refused.Table r)) gives = gives
same_stop X Y view other known (stop.Refused (refused.Statement r)) gives = gives
same_stop X Y view other known (stop.Refused (refused.Put r)) gives = gives
same_stop X Y view other known stop.Store gives = gives
same_stop X Y view other known stop.Names gives = gives
same_stop X Y view other known stop.Memory gives = gives

pub rows_refused : (X Y : Type 0) (view : X → Part) (other : Y → Part) (files : Option Files) (a : Asked) (path lent bytes : List ℕ) (why : Stop) (answer : Result Y Stop) → path_in a.is_earlier a.vector a.logged ≡ Ok path
    → WhereTold files (λ all. bytes_of (look_in all) a.folder a.logged path ≡ Ok lent) → bytes ≡ lent → GivesAs {X = X} view (with_bytes a bytes) (Err why) → answer ≡ Err why → TellsAs {X = Y} other files (part_of a) answer
rows_refused X Y view other files a path lent bytes why answer known found same gives is =
    let here : GivesAs {X = Y} other (with_bytes a lent) (Err why) = subst (λ (b : List ℕ). GivesAs {X = Y} other (with_bytes a b) (Err why)) same (same_stop X Y view other (with_bytes a bytes) why gives) in
    subst (λ (r : Result Y Stop). TellsAs {X = Y} other files (part_of a) r) (sym is) (rows_told Y other files a path lent (Err why) known found here)
