-- Steps of a file's reading, one after the other: the first that has a fault decides.
use Rattle.std.proofs.Common.{◌≡◌, ℕ, suc, ◌+◌, ◌<◌, ◌≤◌, List, [], ◌∷◌, Result, Ok, Err, length, get_or, drop, drop-cons, refl, sym, ap, ◌∙◌, subst, arith}
use Rattle.std.proofs.lemmas.List.{drop_all}
use Rattle.dm_types.specs.Then.{go}
use Rattle.data_file.specs.Answers.{Gives}
use Rattle.data_file.specs.Room.{Answer}
use Rattle.data_file.specs.declared.fault.PartFault.{PartFault}
use Rattle.data_file.specs.declared.fault.PartFault.TheVariants as fault

-- a fault of a step is the whole's
fails_by : (A B X Y : Type 0) (view : X → A) (other : Y → B) (known : Answer A) (step : A → Answer B) (f : PartFault) → Gives {X = X} view known (Err f) → Gives {X = Y} other (go known step) (Err f)
fails_by A B X Y view other known step fault.Memory is = tt
fails_by A B X Y view other known step fault.BadParquet is = ap (λ (k : Answer A). go k step) is
fails_by A B X Y view other known step fault.Compressed is = ap (λ (k : Answer A). go k step) is
fails_by A B X Y view other known step fault.Encoding is = ap (λ (k : Answer A). go k step) is
fails_by A B X Y view other known step (fault.Mismatch column) is = ap (λ (k : Answer A). go k step) is
fails_by A B X Y view other known step (fault.Range column) is = ap (λ (k : Answer A). go k step) is
fails_by A B X Y view other known step (fault.Partition column) is = ap (λ (k : Answer A). go k step) is
fails_by A B X Y view other known step (fault.TooLarge counted) is = ap (λ (k : Answer A). go k step) is

pub fails : {A B : Type 0} (X Y : Type 0) (view : X → A) (other : Y → B) (known : Answer A) (step : A → Answer B) (whole : Answer B) (f : PartFault) (result : Result Y PartFault)
    → whole ≡ go known step → Gives {X = X} view known (Err f) → result ≡ Err f → Gives {X = Y} other whole result
fails {A} {B} X Y view other known step whole f result from is same =
    let P : Answer B → Type 0 = λ k. Gives {X = Y} other k (Err f) in
    let Q : Result Y PartFault → Type 0 = λ r. Gives {X = Y} other whole r in
    subst Q (sym same) (subst P (sym from) (fails_by A B X Y view other known step f is))

-- a step that has none goes on
pub goes_on : {A B : Type 0} (known : Answer A) (step : A → Answer B) (a : A) → known ≡ Ok a → go known step ≡ step a
goes_on {A} known step a is = ap (λ (k : Answer A). go k step) is

-- an answer that is the whole's
pub gives_same : {A : Type 0} (Y : Type 0) (view : Y → A) (known whole : Answer A) (result : Result Y PartFault) → whole ≡ known → Gives {X = Y} view known result → Gives {X = Y} view whole result
gives_same {A} Y view known whole result same is = let P : Answer A → Type 0 = λ k. Gives {X = Y} view k result in subst P (sym same) is

-- a step that gave something
pub record Went {A B : Type 0} (known : Answer A) (step : A → Answer B) (b : B) : Type 0 where
  pub from : A
  pub is : known ≡ Ok from
  pub gives : step from ≡ Ok b

pub went : {A B : Type 0} (known : Answer A) (step : A → Answer B) (b : B) → go known step ≡ Ok b → Went known step b
went (Ok a) step b e = record { from = a; is = refl; gives = e }
went (Err f) step b e = absurd cc

-- the next element
pub next_of : {X : Type 0} (k : ℕ) (xs : List X) (x : X) → k < length xs → x ≡ get_or xs k x → drop k xs ≡ x ∷ drop (k + 1) xs
next_of {X} k xs x inside is =
    let cut : drop k xs ≡ get_or xs k x ∷ drop (suc k) xs = drop-cons xs k x inside in
    let same : suc k ≡ k + 1 = omega arith in
    let first : get_or xs k x ∷ drop (suc k) xs ≡ x ∷ drop (suc k) xs = ap (λ (y : X). y ∷ drop (suc k) xs) (sym is) in
    cut ∙ first ∙ ap (λ (n : ℕ). x ∷ drop n xs) same

pub none_left : {X : Type 0} (k : ℕ) (xs : List X) → length xs ≤ k → drop k xs ≡ []
none_left k xs past = drop_all k xs past
