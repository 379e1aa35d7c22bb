-- Files that a statement finds, and those that it leaves.
use Rattle.std.proofs.Common.{◌≡◌, ◌⊎◌, ℕ, zero, suc, List, [], ◌∷◌, ◌++◌, take, append-nil, Option, Some, Result, Ok, Err, inl, inr, refl, ap, ◌∙◌}
use Rattle.dm_store.specs.Files.{Files, appended}
use Rattle.dm_types.specs.Then.{go}
use Rattle.table_write.specs.Outside.{Outside}

-- what went well in two steps went well in each
pub went : {A B E : Type 0} (first : Result A E) (next : A → Result B E) (value : B) → go first next ≡ Ok value → (a : A) × (first ≡ Ok a) × (next a ≡ Ok value)
went (Ok a) next value e = (a, refl, e)
went (Err r) next value e = cc

-- a block was put
pub grown : (told : Option Files) (files block : Files) (now : Option Files) → told ≡ Some files → now ≡ appended told block → now ≡ Some (files ++ block)
grown told files block now is more = more ∙ ap (λ (o : Option Files). appended o block) is

-- nothing was touched
pub untouched : (files : Files) (old new : Outside) → old.files ≡ Some files → new ≡ old → new.files ≡ Some files
untouched files old new is same = ap (λ (o : Outside). o.files) same ∙ is

-- no file was put
pub none_put : (files : Files) (told now : Option Files) (block : Files) → told ≡ Some files → block ≡ [] → now ≡ appended told block → now ≡ Some files
none_put files told now block is none more = grown told files block now is more ∙ ap (λ (fs : Files). Some (files ++ fs)) none ∙ ap Some (append-nil files)

pub take_none : (block : Files) (count : ℕ) → block ≡ [] → take count block ≡ []
take_none block zero none = refl
take_none block (suc count) none = rw none refl

-- of a block of one file none is put or all of it
pub front_of_one : (file : List ℕ × List ℕ) (block : Files) (count : ℕ) → block ≡ file ∷ [] → (take count block ≡ []) ⊎ (take count block ≡ block)
front_of_one file block zero is = inl refl
front_of_one file block (suc zero) is = inr (rw is refl)
front_of_one file block (suc (suc count)) is = inr (rw is refl)
