-- Steps over files, one after the other: the first that is refused decides.
use Rattle.std.proofs.Common.{◌≡◌, Option, Some, None, Result, Ok, Err, refl, sym, ap, ◌∙◌, subst}
use Rattle.dm_store.specs.Files.{Files, WhereTold}
use Rattle.dm_types.specs.Then.{go}
use Rattle.dm_types.specs.declared.refusal.Refused.TheVariants as refused
use Rattle.dm_types.specs.declared.refusal.Stop.{Stop}
use Rattle.dm_types.specs.declared.refusal.Stop.TheVariants as stop
use Rattle.dm_types.specs.declared.refusal.TableRefusal.{TableRefusal}
use Rattle.table_load.specs.StepsLoading.{GivesAs}
use Rattle.table_load.specs.Tells.{TellsAs}

-- ---- without files

stops : {A B : Type 0} (X Y : Type 0) (view : X → A) (other : Y → B) (known : Result A TableRefusal) (next : A → Result B TableRefusal) (why : Stop)
    → GivesAs {X = X} view known (Err why) → GivesAs {X = Y} other (go known next) (Err why)
stops X Y view other known next (stop.Refused (refused.Table r)) gives = rw gives refl
stops X Y view other known next (stop.Refused (refused.Statement r)) gives = gives
stops X Y view other known next (stop.Refused (refused.Put r)) gives = gives
stops X Y view other known next stop.Store gives = gives
stops X Y view other known next stop.Names gives = gives
stops X Y view other known next stop.Memory gives = tt

-- a refusal of a step is the whole's
pub gives_stops : {A B : Type 0} (X Y : Type 0) (view : X → A) (other : Y → B) (known : Result A TableRefusal) (next : A → Result B TableRefusal) (whole : Result B TableRefusal) (why : Stop) (answer : Result Y Stop)
    → whole ≡ go known next → GivesAs {X = X} view known (Err why) → answer ≡ Err why → GivesAs {X = Y} other whole answer
gives_stops {A} {B} X Y view other known next whole why answer from gives is =
    let there : GivesAs {X = Y} other whole (Err why) = subst (λ (k : Result B TableRefusal). GivesAs {X = Y} other k (Err why)) (sym from) (stops X Y view other known next why gives) in
    subst (λ (r : Result Y Stop). GivesAs {X = Y} other whole r) (sym is) there

-- a step that gave a value goes on
pub goes_on : {A B : Type 0} (known : Result A TableRefusal) (next : A → Result B TableRefusal) (value : A) → known ≡ Ok value → go known next ≡ next value
goes_on {A} known next value is = ap (λ (k : Result A TableRefusal). go k next) is

-- an answer of what is the whole
pub gives_same : {B : Type 0} (Y : Type 0) (other : Y → B) (known whole : Result B TableRefusal) (answer : Result Y Stop) → whole ≡ known → GivesAs {X = Y} other known answer → GivesAs {X = Y} other whole answer
gives_same {B} Y other known whole answer same gives = subst (λ (k : Result B TableRefusal). GivesAs {X = Y} other k answer) (sym same) gives

-- ---- over files

-- what is known of any files is told
pub told : {B : Type 0} (Y : Type 0) (other : Y → B) (files : Option Files) (known : Result B TableRefusal) (answer : Result Y Stop) → GivesAs {X = Y} other known answer → TellsAs {X = Y} other files (λ _. known) answer
told Y other None known (Ok value) gives = tt
told Y other (Some files) known (Ok value) gives = gives
told Y other None known (Err (stop.Refused (refused.Table r))) gives = tt
told Y other (Some files) known (Err (stop.Refused (refused.Table r))) gives = gives
told Y other files known (Err (stop.Refused (refused.Statement r))) gives = gives
told Y other files known (Err (stop.Refused (refused.Put r))) gives = gives
told Y other files known (Err stop.Store) gives = tt
told Y other files known (Err stop.Names) gives = gives
told Y other files known (Err stop.Memory) gives = tt

-- an answer of what is the same
pub tells_same : {B : Type 0} (Y : Type 0) (other : Y → B) (files : Option Files) (first second : Files → Result B TableRefusal) (answer : Result Y Stop) → WhereTold files (λ all. second all ≡ first all)
    → TellsAs {X = Y} other files first answer → TellsAs {X = Y} other files second answer
tells_same Y other None first second (Ok value) same tells = tt
tells_same Y other (Some files) first second (Ok value) same tells = same ∙ tells
tells_same Y other None first second (Err (stop.Refused (refused.Table r))) same tells = tt
tells_same Y other (Some files) first second (Err (stop.Refused (refused.Table r))) same tells = same ∙ tells
tells_same Y other files first second (Err (stop.Refused (refused.Statement r))) same tells = tells
tells_same Y other files first second (Err (stop.Refused (refused.Put r))) same tells = tells
tells_same Y other files first second (Err stop.Store) same tells = tt
tells_same Y other files first second (Err stop.Names) same tells = tells
tells_same Y other files first second (Err stop.Memory) same tells = tt

stops_told : {A B : Type 0} (X Y : Type 0) (view : X → A) (other : Y → B) (files : Option Files) (first : Files → Result A TableRefusal) (next : Files → A → Result B TableRefusal) (why : Stop)
    → TellsAs {X = X} view files first (Err why) → TellsAs {X = Y} other files (λ all. go (first all) (next all)) (Err why)
stops_told X Y view other None first next (stop.Refused (refused.Table r)) tells = tt
stops_told X Y view other (Some files) first next (stop.Refused (refused.Table r)) tells = rw tells refl
stops_told X Y view other files first next (stop.Refused (refused.Statement r)) tells = tells
stops_told X Y view other files first next (stop.Refused (refused.Put r)) tells = tells
stops_told X Y view other files first next stop.Store tells = tt
stops_told X Y view other files first next stop.Names tells = tells
stops_told X Y view other files first next stop.Memory tells = tt

-- a refusal of a step over files is the whole's
pub tells_stops : {A B : Type 0} (X Y : Type 0) (view : X → A) (other : Y → B) (files : Option Files) (first : Files → Result A TableRefusal) (next : Files → A → Result B TableRefusal) (why : Stop) (answer : Result Y Stop)
    → TellsAs {X = X} view files first (Err why) → answer ≡ Err why → TellsAs {X = Y} other files (λ all. go (first all) (next all)) answer
tells_stops {A} {B} X Y view other files first next why answer tells is =
    subst (λ (r : Result Y Stop). TellsAs {X = Y} other files (λ all. go (first all) (next all)) r) (sym is) (stops_told X Y view other files first next why tells)

went_on : {A B : Type 0} (files : Option Files) (first : Files → Result A TableRefusal) (next : Files → A → Result B TableRefusal) (value : A) → WhereTold files (λ all. first all ≡ Ok value) → WhereTold files (λ all. go (first all) (next all) ≡ next all value)
went_on None first next value is = tt
went_on (Some files) first next value is = goes_on (first files) (next files) value is

-- a step over files that gave a value goes on, with the files as they were
pub tells_follows : {A B : Type 0} (Y : Type 0) (other : Y → B) (files before : Option Files) (first : Files → Result A TableRefusal) (next : Files → A → Result B TableRefusal) (value : A) (answer : Result Y Stop)
    → before ≡ files → WhereTold files (λ all. first all ≡ Ok value) → TellsAs {X = Y} other before (λ all. next all value) answer → TellsAs {X = Y} other files (λ all. go (first all) (next all)) answer
tells_follows {A} {B} Y other files before first next value answer kept is tells =
    tells_same Y other files (λ all. next all value) (λ all. go (first all) (next all)) answer (went_on files first next value is)
    (subst (λ (o : Option Files). TellsAs {X = Y} other o (λ all. next all value) answer) kept tells)
