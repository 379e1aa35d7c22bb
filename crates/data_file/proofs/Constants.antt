-- A partition column has one value in all rows.
use Rattle.std.proofs.Common.{◌≡◌, ℕ, zero, suc, ◌+◌, Bool, true, false, cond, List, [], ◌∷◌, ◌++◌, Option, Some, None, Ok, length, replicate, slice_get, refl, sym, ap, ◌∙◌, subst, length-append, arith}
use Rattle.std.specs.Prelude.{unwrap_or}
use Rattle.std.proofs.Math.ListN.{get_or-append}
use Rattle.std.proofs.lemmas.List.{get_or_push}
use Rattle.std.proofs.lemmas.Option.{get_or_from_slice_get, slice_get-get_or, slice_get_within}
use Rattle.column_mapping.specs.declared.mode.Mode.{Mode}
use Rattle.column_vectors.specs.Cells.{Cells}
use Rattle.delta_schema.specs.declared.schema.ColumnDef.{ColumnDef}
use Rattle.dm_types.specs.Then.{go}
use Rattle.dm_types.specs.declared.value.Value.{Value}
use Rattle.parquet_file.specs.File.{Opened}
use Rattle.data_file.specs.Partitions.{Given, constant_of, constants_from, key_of, text_under, value_of}
use Rattle.data_file.specs.Room.{Answer, or_else}
use Rattle.data_file.specs.Stored.{rows_in}
use Rattle.data_file.specs.Table.{columns_from, constant_at, sought_of, table_column}
use Rattle.data_file.specs.declared.fault.PartFault.TheVariants as fault
use Rattle.data_file.proofs.Begun.{went}

-- what stands in a list stays where others are behind it
front_kept : {X : Type 0} (xs ys : List X) (k : ℕ) (x : X) → slice_get xs k ≡ Some x → slice_get (xs ++ ys) k ≡ Some x
front_kept xs ys k x is =
    let inside = slice_get_within xs k x is in
    let long = length-append xs ys in
    slice_get-get_or (xs ++ ys) k x (omega (arith, inside, long)) ∙ ap Some (get_or-append xs ys x k inside ∙ get_or_from_slice_get xs k x x is)

pub pushed_at : {X : Type 0} (xs : List X) (x : X) → slice_get (xs ++ x ∷ []) (length xs) ≡ Some x
pushed_at xs x =
    let long = length-append xs (x ∷ []) in
    slice_get-get_or (xs ++ x ∷ []) (length xs) x (omega (arith, long)) ∙ ap Some (get_or_push xs x x (length xs) refl)

pub first_is : {X : Type 0} (x y : X) (xs : List X) → slice_get (x ∷ xs) 0 ≡ Some y → x ≡ y
first_is x y xs is = get_or_from_slice_get (x ∷ xs) 0 y y is

pub later_is : {X : Type 0} (x y : X) (xs : List X) (k : ℕ) → slice_get (x ∷ xs) (suc k) ≡ Some y → slice_get xs k ≡ Some y
later_is x y xs k is =
    let inside = slice_get_within (x ∷ xs) (suc k) y is in
    slice_get-get_or xs k y (omega (arith, inside)) ∙ ap Some (get_or_from_slice_get (x ∷ xs) (suc k) y y is)

pub none_there : {X : Type 0} (k : ℕ) (x : X) → slice_get [] k ≡ Some x → ⊥
none_there {X} k x is = let inside = slice_get_within {A = X} [] k x is in omega (arith, inside)

-- ---- the values

pub record HasValue (constants : List (Option Value)) (at : ℕ) : Type 0 where
  pub value : Value
  pub is : slice_get constants at ≡ Some (Some value)

record IsValue (one : Option Value) : Type 0 where
  value : Value
  is : one ≡ Some value

told : (parted : Bool) (known : Answer Value) (one : Option Value) → parted ≡ true → cond parted (go known (λ v. Ok (Some v))) (Ok None) ≡ Ok one → IsValue one
told true known one is e =
    let v = went known (λ v. Ok (Some v)) one e in
    record { value = v.from; is = let e = v.gives in cc }
told false known one is e = absurd cc

pub constants_front : (mode : Mode) (values : Given) (columns : List ColumnDef) (found all : List (Option Value)) → constants_from mode values columns found ≡ Ok all → (k : ℕ) (x : Option Value) → slice_get found k ≡ Some x → slice_get all k ≡ Some x
unfolding constants_from
constants_front mode values [] found all e k x is = let same : found ≡ all = cc in ap (λ (xs : List (Option Value)). slice_get xs k) (sym same) ∙ is
constants_front mode values (column ∷ more) found all e k x is =
    let one = went (constant_of mode values (length found) column) (λ one. constants_from mode values more (found ++ one ∷ [])) all e in
    constants_front mode values more (found ++ one.from ∷ []) all one.gives k x (front_kept found (one.from ∷ []) k x is)

pub constants_value : (mode : Mode) (values : Given) (columns : List ColumnDef) (found all : List (Option Value)) → constants_from mode values columns found ≡ Ok all → (k : ℕ) (column : ColumnDef) → slice_get columns k ≡ Some column → column.partition ≡ true → HasValue all (length found + k)
unfolding constants_from
constants_value mode values [] found all e k column is parted = absurd (none_there k column is)
constants_value mode values (first ∷ more) found all e zero column is parted =
    let one = went (constant_of mode values (length found) first) (λ one. constants_from mode values more (found ++ one ∷ [])) all e in
    let here : first ≡ column = first_is first column more is in
    let it : IsValue one.from = told first.partition (or_else (fault.Partition (length found)) (value_of first (text_under values (key_of mode first)))) one.from (ap (λ (c : ColumnDef). c.partition) here ∙ parted) one.is in
    let at : length found + 0 ≡ length found = omega arith in
    record { value = it.value; is = ap (slice_get all) at ∙ constants_front mode values more (found ++ one.from ∷ []) all one.gives (length found) (Some it.value) (pushed_at found one.from ∙ ap Some it.is) }
constants_value mode values (first ∷ more) found all e (suc k) column is parted =
    let one = went (constant_of mode values (length found) first) (λ one. constants_from mode values more (found ++ one ∷ [])) all e in
    let long = length-append found (one.from ∷ []) in
    let at : length (found ++ one.from ∷ []) + k ≡ length found + suc k = omega (arith, long) in
    subst (HasValue all) at (constants_value mode values more (found ++ one.from ∷ []) all one.gives k column (later_is first column more k is) parted)

-- ---- the columns

pub columns_front : (it : Opened) (mode : Mode) (constants : List (Option Value)) (columns : List ColumnDef) (read all : List Cells × ℕ) → columns_from it mode constants columns read ≡ Ok all → (k : ℕ) (x : Cells) → slice_get read.0 k ≡ Some x → slice_get all.0 k ≡ Some x
unfolding columns_from
columns_front it mode constants [] read all e k x is = let same : read ≡ all = cc in ap (λ (p : List Cells × ℕ). slice_get p.0 k) (sym same) ∙ is
columns_front it mode constants (column ∷ more) read all e k x is =
    let found = went (table_column it (sought_of mode it.footer.leaves (length read.0) column) (constant_at constants (length read.0)) read.1) (λ found. columns_from it mode constants more (read.0 ++ found.0 ∷ [], found.1)) all e in
    columns_front it mode constants more (read.0 ++ found.from.0 ∷ [], found.from.1) all found.gives k x (front_kept read.0 (found.from.0 ∷ []) k x is)

-- a column of one value
abbrev pub one_value : Opened → ColumnDef → Value → Cells
one_value it column v = record { kind = column.kind; values = replicate (rows_in it) v }

pub columns_value : (it : Opened) (mode : Mode) (constants : List (Option Value)) (columns : List ColumnDef) (read all : List Cells × ℕ) → columns_from it mode constants columns read ≡ Ok all
    → (k : ℕ) (column : ColumnDef) (v : Value) → slice_get columns k ≡ Some column → slice_get constants (length read.0 + k) ≡ Some (Some v) → slice_get all.0 (length read.0 + k) ≡ Some (one_value it column v)
unfolding columns_from
columns_value it mode constants [] read all e k column v is told = absurd (none_there k column is)
columns_value it mode constants (first ∷ more) read all e zero column v is told =
    let sought = sought_of mode it.footer.leaves (length read.0) first in
    let found = went (table_column it sought (constant_at constants (length read.0)) read.1) (λ found. columns_from it mode constants more (read.0 ++ found.0 ∷ [], found.1)) all e in
    let at : length read.0 + 0 ≡ length read.0 = omega arith in
    let here : first ≡ column = first_is first column more is in
    let value : slice_get constants (length read.0) ≡ Some (Some v) = ap (slice_get constants) (sym at) ∙ told in
    let made : ◌≡◌ {A = Answer (Cells × ℕ)} (Ok (one_value it first v, read.1)) (Ok found.from) = ap (λ (o : Option (Option Value)). table_column it sought (unwrap_or o None) read.1) (sym value) ∙ found.is in
    let same : ◌≡◌ {A = Cells × ℕ} (one_value it first v, read.1) found.from = cc in
    let cells : found.from.0 ≡ one_value it column v = sym (ap (λ (p : Cells × ℕ). p.0) same) ∙ ap (λ (c : ColumnDef). one_value it c v) here in
    ap (slice_get all.0) at ∙ columns_front it mode constants more (read.0 ++ found.from.0 ∷ [], found.from.1) all found.gives (length read.0) (one_value it column v) (pushed_at read.0 found.from.0 ∙ ap Some cells)
columns_value it mode constants (first ∷ more) read all e (suc k) column v is told =
    let found = went (table_column it (sought_of mode it.footer.leaves (length read.0) first) (constant_at constants (length read.0)) read.1) (λ found. columns_from it mode constants more (read.0 ++ found.0 ∷ [], found.1)) all e in
    let long = length-append read.0 (found.from.0 ∷ []) in
    let at : length (read.0 ++ found.from.0 ∷ []) + k ≡ length read.0 + suc k = omega (arith, long) in
    ap (slice_get all.0) (sym at) ∙ columns_value it mode constants more (read.0 ++ found.from.0 ∷ [], found.from.1) all found.gives k column v (later_is first column more k is) (ap (slice_get constants) at ∙ told)
