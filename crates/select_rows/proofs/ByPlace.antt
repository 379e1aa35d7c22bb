-- What comes of the rows of columns, place by place, and what is told of the errors.
use Rattle.std.proofs.Common.{◌≡◌, ℕ, zero, suc, Bool, true, false, ◌||◌, ◌&&◌, ◌==◌, cond, List, [], ◌∷◌, map, refl, ap, sym, ◌∙◌, Option, Some, None, Result, Ok, Err, add-one}
use Rattle.std.specs.Prelude.{filter}
use Rattle.std.specs.List.{flat_map, list_any, range_with_len}
use Rattle.std.proofs.lemmas.List.Folds.{list_any-append}
use Rattle.column_vectors.specs.Cells.{Cells}
use Rattle.dm_types.specs.declared.refusal.StatementRefusal.{StatementRefusal}
use Rattle.dm_types.specs.declared.value.Value.{Value}
use Rattle.select_rows.specs.Rows.{errors_in, unless, unless_error}
use Rattle.vector_eval.specs.Batches.{at_row, has_kind, least_kind, on_rows}
use Rattle.vector_eval.specs.Outcomes.{number_of}
use Rattle.vector_eval.specs.Rows.{row_at}
use Rattle.vector_eval.specs.declared.fault.ErrorKind.{ErrorKind}
use Rattle.vector_eval.specs.declared.fault.ErrorKind.TheVariants as error

-- ---- errors

-- an outcome is an error of this kind
abbrev pub is_of : {A : Type 0} → ErrorKind → Result A ErrorKind → Bool
is_of kind (Ok a) = false
is_of kind (Err other) = number_of other == number_of kind

pub errors-any : {A : Type 0} (kind : ErrorKind) (outcomes : List (Result A ErrorKind)) → has_kind kind (errors_in outcomes) ≡ list_any (is_of kind) outcomes
errors-any kind [] = refl
errors-any kind (Ok a ∷ more) = errors-any kind more
errors-any kind (Err other ∷ more) = ap (λ b. (number_of other == number_of kind) || b) (errors-any kind more)

-- errors of the same kinds are told alike
least-same : (xs ys : List ErrorKind) → ((kind : ErrorKind) → has_kind kind xs ≡ has_kind kind ys) → least_kind xs ≡ least_kind ys
least-same xs ys same = rw (same error.Overflow, same error.DivideByZero, same error.BadCast) refl

pub told-same : {A : Type 0} (xs ys : List ErrorKind) (a : A) → ((kind : ErrorKind) → has_kind kind xs ≡ has_kind kind ys) → unless_error xs a ≡ unless_error ys a
told-same xs ys a same = ap (λ o. unless o a) (least-same xs ys same)

-- what is told is a value where there is no error, and then it is told of any value
pub told_value : {A : Type 0} (kinds : List ErrorKind) (a value : A) → unless_error kinds a ≡ Ok value → (least_kind kinds ≡ None) × (a ≡ value)
told_value {A} kinds a value e = by (least_kind kinds) e
  where
    by : (least : Option ErrorKind) → unless {A = A} least a ≡ Ok value → (least ≡ None) × (a ≡ value)
    by None is = (refl, cc)
    by (Some kind) is = absurd cc

pub told_refusal : {A B : Type 0} (kinds : List ErrorKind) (a : A) (b : B) (refusal : StatementRefusal) → unless_error kinds a ≡ Err refusal → unless_error kinds b ≡ Err refusal
told_refusal {A} {B} kinds a b refusal e = by (least_kind kinds) e
  where
    by : (least : Option ErrorKind) → unless {A = A} least a ≡ Err refusal → unless {A = B} least b ≡ Err refusal
    by None is = absurd cc
    by (Some kind) is = cc

pub any-map : {X Y : Type 0} (g : Y → Bool) (f : X → Y) (xs : List X) → list_any g (map f xs) ≡ list_any (λ x. g (f x)) xs
any-map g f [] = refl
any-map g f (x ∷ xs) = ap (λ b. g (f x) || b) (any-map g f xs)

pub any-same : {X : Type 0} (g h : X → Bool) (xs : List X) → ((x : X) → g x ≡ h x) → list_any g xs ≡ list_any h xs
any-same g h [] same = refl
any-same g h (x ∷ xs) same = rw (same x, any-same g h xs same) refl

pub any-filter : {X : Type 0} (g p : X → Bool) (xs : List X) → list_any g (filter p xs) ≡ list_any (λ x. p x && g x) xs
any-filter g p [] = refl
any-filter {X} g p (x ∷ xs) = by (p x) (any-filter g p xs)
  where
    by : (kept : Bool) → list_any g (filter p xs) ≡ list_any (λ y. p y && g y) xs → list_any g (cond kept (x ∷ filter p xs) (filter p xs)) ≡ ((kept && g x) || list_any (λ y. p y && g y) xs)
    by true e = ap (λ b. g x || b) e
    by false e = e

-- of many lists
pub flat-same : {X : Type 0} (kind : ErrorKind) (e f : X → List ErrorKind) (xs : List X) → ((x : X) → has_kind kind (e x) ≡ has_kind kind (f x)) → has_kind kind (flat_map e xs) ≡ has_kind kind (flat_map f xs)
flat-same kind e f [] same = refl
flat-same kind e f (x ∷ xs) same =
    list_any-append (λ other. number_of other == number_of kind) (e x) (flat_map e xs)
    ∙ rw (same x, flat-same kind e f xs same) refl
    ∙ sym (list_any-append (λ other. number_of other == number_of kind) (f x) (flat_map f xs))

-- ---- rows that are selected by their places

pub on_rows-places : {A : Type 0} (none : A) (f : List Value → Result A ErrorKind) (columns : List Cells) (g : ℕ → Bool) (at count : ℕ)
    → on_rows none f columns at (map g (range_with_len at count)) ≡ map (λ place. at_row none f columns place (g place)) (range_with_len at count)
on_rows-places none f columns g at zero = refl
on_rows-places none f columns g at (suc count) = rw (add-one at, on_rows-places none f columns g (suc at) count) refl

-- a row that isn't selected has no error
pub at_row-of : {A : Type 0} (kind : ErrorKind) (none : A) (f : List Value → Result A ErrorKind) (columns : List Cells) (place : ℕ) (selected : Bool)
    → is_of kind (at_row none f columns place selected) ≡ (selected && is_of kind (f (row_at columns place)))
at_row-of kind none f columns place true = refl
at_row-of kind none f columns place false = refl
