-- The values of a column, by its flags and by what it keeps.
use Rattle.std.proofs.Common.{◌≡◌, ℕ, zero, suc, ◌<◌, List, [], ◌∷◌, ◌++◌, length, take, slice_get, get_or, All, Bool, true, false, not, Some, refl, sym, ap, ◌∙◌, subst, arith, add-one, length-append}
use Rattle.std.proofs.lemmas.List.Elements.{All-push}
use Rattle.std.proofs.lemmas.Option.{get_or_from_slice_get, slice_get_within}
use Rattle.column_vectors.proofs.Counts.{count_of-append, none_set}
use Rattle.column_vectors.specs.Cells.{Cells, shown, IsColumn}
use Rattle.column_vectors.specs.Flags.{count_of}
use Rattle.dm_types.specs.Lanes.{IsOf, IsNullOrOf}
use Rattle.dm_types.specs.declared.value.DataType.{DataType}
use Rattle.dm_types.specs.declared.value.Value.{Value}
use Rattle.dm_types.specs.declared.value.Value.TheVariants as value
use Rattle.dm_types.specs.declared.value.Value.TheVariants.{Null}

pub length-shown : {K : Type 0} (f : K → Value) (valid : List Bool) (kept : List K) → length (shown f valid kept) ≡ length valid
length-shown f [] kept = refl
length-shown f (false ∷ valid) kept = ap suc (length-shown f valid kept)
length-shown f (true ∷ valid) [] = ap suc (length-shown f valid [])
length-shown f (true ∷ valid) (k ∷ kept) = ap suc (length-shown f valid kept)

-- a null row behind the others
pub shown-append_null : {K : Type 0} (f : K → Value) (valid : List Bool) (kept : List K) → shown f (valid ++ false ∷ []) kept ≡ shown f valid kept ++ Null ∷ []
shown-append_null f [] kept = refl
shown-append_null f (false ∷ valid) kept = ap (λ (vs : List Value). Null ∷ vs) (shown-append_null f valid kept)
shown-append_null f (true ∷ valid) [] = ap (λ (vs : List Value). Null ∷ vs) (shown-append_null f valid [])
shown-append_null f (true ∷ valid) (k ∷ kept) = ap (λ (vs : List Value). f k ∷ vs) (shown-append_null f valid kept)

-- a row with a value behind the others
pub shown-append_kept : {K : Type 0} (f : K → Value) (valid : List Bool) (kept : List K) (last : K) → length kept ≡ count_of valid → shown f (valid ++ true ∷ []) (kept ++ last ∷ []) ≡ shown f valid kept ++ f last ∷ []
shown-append_kept f [] [] last count = refl
shown-append_kept f [] (k ∷ kept) last count = absurd (omega (arith, count))
shown-append_kept f (false ∷ valid) kept last count = ap (λ (vs : List Value). Null ∷ vs) (shown-append_kept f valid kept last count)
shown-append_kept f (true ∷ valid) [] last count = absurd (omega (arith, count))
shown-append_kept f (true ∷ valid) (k ∷ kept) last count = ap (λ (vs : List Value). f k ∷ vs) (shown-append_kept f valid kept last (omega (arith, count)))

-- a row whose flag isn't set is null
pub shown-null : {K : Type 0} (f : K → Value) (valid : List Bool) (kept : List K) (i : ℕ) → slice_get valid i ≡ Some false → slice_get (shown f valid kept) i ≡ Some Null
shown-null f [] kept i flag = absurd cc
shown-null f (false ∷ valid) kept zero flag = refl
shown-null f (true ∷ valid) kept zero flag = absurd cc
shown-null f (false ∷ valid) kept (suc i) flag = shown-null f valid kept i flag
shown-null f (true ∷ valid) [] (suc i) flag = shown-null f valid [] i flag
shown-null f (true ∷ valid) (k ∷ kept) (suc i) flag = shown-null f valid kept i flag

-- the value of a row whose flag is set is the one at the place that counts the flags before it
pub shown-kept : {K : Type 0} (f : K → Value) (valid : List Bool) (kept : List K) (i : ℕ) (d : K) → length kept ≡ count_of valid → slice_get valid i ≡ Some true → slice_get (shown f valid kept) i ≡ Some (f (get_or kept (count_of (take i valid)) d))
shown-kept f [] kept i d count flag = absurd cc
shown-kept f (false ∷ valid) kept zero d count flag = absurd cc
shown-kept f (true ∷ valid) [] zero d count flag = absurd (omega (arith, count))
shown-kept f (true ∷ valid) (k ∷ kept) zero d count flag = refl
shown-kept f (false ∷ valid) kept (suc i) d count flag = shown-kept f valid kept i d count flag
shown-kept f (true ∷ valid) [] (suc i) d count flag = absurd (omega (arith, count))
shown-kept f (true ∷ valid) (k ∷ kept) (suc i) d count flag = rw add-one (shown-kept f valid kept i d (omega (arith, count)) flag)

-- a value of the type may stand in a column of it
pub of_type : (k : DataType) (v : Value) → IsOf k v → IsNullOrOf k v
of_type k value.Null of = tt
of_type k v of = of

pub IsColumn-append_kept : {K : Type 0} (serves : DataType → Bool) (value_of : K → DataType → Value) (kind : DataType) (valid : List Bool) (kept : List K) (last : K) → IsColumn serves value_of kind valid kept → IsOf kind (value_of last kind) → IsColumn serves value_of kind (valid ++ true ∷ []) (kept ++ last ∷ [])
IsColumn-append_kept serves value_of kind valid kept last is of = record {
  count = omega (arith, is.count, length-append kept (last ∷ []), count_of-append valid (true ∷ []));
  lane = is.lane;
  typed = let count : length kept ≡ count_of valid = is.count in rw shown-append_kept (All-push (IsNullOrOf kind) _ _ is.typed (of_type kind _ of));
}

pub IsColumn-append_null : {K : Type 0} (serves : DataType → Bool) (value_of : K → DataType → Value) (kind : DataType) (valid : List Bool) (kept : List K) → IsColumn serves value_of kind valid kept → IsColumn serves value_of kind (valid ++ false ∷ []) kept
IsColumn-append_null serves value_of kind valid kept is = record {
  count = omega (arith, is.count, count_of-append valid (false ∷ []));
  lane = is.lane;
  typed = rw shown-append_null (All-push (IsNullOrOf kind) _ _ is.typed tt);
}

-- what stands in a column of a type is of the type, or null
pub null_or_of : (k : DataType) (v : Value) → IsNullOrOf k v → (v ≡ Null → ⊥) → IsOf k v
null_or_of k value.Null in' some = absurd (some refl)
null_or_of k v in' some = in'

pub flags_long : {K : Type 0} (f : K → Value) (kind : DataType) (valid : List Bool) (kept : List K) (now : Cells) (row : ℕ) → record { kind = kind; values = shown f valid kept } ≡ now → row < length now.values → row < length valid
flags_long f kind valid kept now row is within =
    let long : length now.values ≡ length valid = ap (λ (cells : Cells). length cells.values) (sym is) ∙ length-shown f valid kept in
    omega arith

-- a row is null exactly where its flag isn't set
pub null_flag : {K : Type 0} (f : K → Value) (kind : DataType) (valid : List Bool) (kept : List K) (now : Cells) (row : ℕ) (flag : Bool) → ((k : K) → f k ≡ Null → ⊥) → record { kind = kind; values = shown f valid kept } ≡ now → length kept ≡ count_of valid → slice_get valid row ≡ Some flag → (not flag ≡ true → slice_get now.values row ≡ Some Null) × (slice_get now.values row ≡ Some Null → not flag ≡ true)
null_flag f kind valid kept now row false some is count at =
    let row_is : slice_get now.values row ≡ Some Null = ap (λ (cells : Cells). slice_get cells.values row) (sym is) ∙ shown-null f valid kept row at in
    (λ _. row_is, λ _. refl)
null_flag f kind valid [] now row true some is count at = absurd (none_set valid row at (omega (arith, count)))
null_flag f kind valid (d ∷ kept) now row true some is count at =
    let row_is : slice_get now.values row ≡ Some (f (get_or (d ∷ kept) (count_of (take row valid)) d)) = ap (λ (cells : Cells). slice_get cells.values row) (sym is) ∙ shown-kept f valid (d ∷ kept) row d count at in
    (λ e. absurd cc, λ e. absurd (some (get_or (d ∷ kept) (count_of (take row valid)) d) cc))

-- the value of a row whose flag is set, by the place that was found for it
pub row_kept : {K : Type 0} (value_of : K → DataType → Value) (kind : DataType) (valid : List Bool) (kept : List K) (row place : ℕ) (k : K) → length kept ≡ count_of valid → slice_get valid row ≡ Some true → place ≡ count_of (take row valid) → k ≡ get_or kept place k → slice_get (shown (λ x. value_of x kind) valid kept) row ≡ Some (value_of k kind)
row_kept value_of kind valid kept row place k count set at is =
    shown-kept (λ x. value_of x kind) valid kept row k count set ∙ ap (λ (n : ℕ). Some (value_of (get_or kept n k) kind)) (sym at) ∙ ap (λ x. Some (value_of x kind)) (sym is)

-- such a value is of the column's type
pub row_typed : {K : Type 0} (value_of : K → DataType → Value) (kind : DataType) (values : List Value) (row : ℕ) (k : K) → ((x : K) → value_of x kind ≡ Null → ⊥) → All (IsNullOrOf kind) values → slice_get values row ≡ Some (value_of k kind) → IsOf kind (value_of k kind)
row_typed value_of kind values row k some typed at =
    let here : get_or values row Null ≡ value_of k kind = get_or_from_slice_get values row (value_of k kind) Null at in
    null_or_of kind _ (subst (IsNullOrOf kind) here (typed row Null (slice_get_within values row _ at))) (some k)
