-- The values of items, one after the other, and their errors.
use Rattle.std.proofs.Common.{◌≡◌, ℕ, zero, suc, ◌+◌, ◌<◌, Bool, true, false, take, get_or, subst, add-one, List, [], ◌∷◌, ◌++◌, map, length, refl, sym, ap, ◌∙◌, Result, Ok, Err, append-nil}
use Rattle.std.specs.List.{AllByRecursion, flat_map, range_with_len}
use Rattle.std.proofs.lemmas.List.{length-map, map-append, take_more}
use Rattle.column_vectors.specs.Cells.{Cells}
use Rattle.dm_types.specs.declared.refusal.StatementRefusal.{StatementRefusal}
use Rattle.dm_types.specs.declared.value.DataType.{DataType}
use Rattle.dm_types.specs.declared.value.Value.{Value}
use Rattle.dm_types.specs.declared.value.Value.TheVariants.{Null}
use Rattle.select_rows.specs.Rows.{column_of, columns_of, errors_in, every, flags_where, holds_on, rows_of, unless_error}
use Rattle.select_rows.specs.declared.query.QueryItem.{QueryItem}
use Rattle.select_rows.proofs.ByPlace.{on_rows-places, told_refusal, told_value}
use Rattle.typed_expr.specs.Kinds.{kind_of}
use Rattle.typed_expr.specs.declared.tree.TypedExpr.{TypedExpr}
use Rattle.vector_eval.specs.Batches.{IsRanged, all_true, faults_from, found_or, on_rows, truths_on, values_on}
use Rattle.vector_eval.specs.Rows.{row_at}
use Rattle.vector_eval.specs.Values.{value_of}
use Rattle.vector_eval.specs.declared.fault.ErrorKind.{ErrorKind}

-- the faults' kinds are the errors
pub kinds_are : {A : Type 0} (at : ℕ) (outcomes : List (Result A ErrorKind)) → map (λ fault. fault.1) (faults_from at outcomes) ≡ errors_in outcomes
kinds_are at [] = refl
kinds_are at (Ok a ∷ more) = kinds_are (at + 1) more
kinds_are at (Err kind ∷ more) = ap (λ kinds. kind ∷ kinds) (kinds_are (at + 1) more)

flat_map-push : {X Y : Type 0} (f : X → List Y) (xs : List X) (x : X) → flat_map f (xs ++ x ∷ []) ≡ flat_map f xs ++ f x
flat_map-push f [] x = append-nil (f x)
flat_map-push f (y ∷ xs) x = ap (λ ys. f y ++ ys) (flat_map-push f xs x) ∙ assoc (f y) (flat_map f xs) (f x)
  where
    assoc : {Z : Type 0} (a b c : List Z) → a ++ (b ++ c) ≡ (a ++ b) ++ c
    assoc [] b c = refl
    assoc (z ∷ a) b c = ap (λ zs. z ∷ zs) (assoc a b c)

pub errors_more : (columns : List Cells) (kept : List Bool) (xs : List TypedExpr) (x : TypedExpr) (old new more : List (ℕ × ErrorKind)) → new ≡ old ++ more → more ≡ faults_from 0 (values_on x columns kept)
    → map (λ fault. fault.1) old ≡ flat_map (λ y. errors_in (values_on y columns kept)) xs → map (λ fault. fault.1) new ≡ flat_map (λ y. errors_in (values_on y columns kept)) (xs ++ x ∷ [])
errors_more columns kept xs x old new more added is so_far =
    ap (map (λ fault. fault.1)) added
    ∙ map-append (λ (fault : ℕ × ErrorKind). fault.1) old more
    ∙ rw (so_far, is, kinds_are 0 (values_on x columns kept)) refl
    ∙ sym (flat_map-push (λ y. errors_in (values_on y columns kept)) xs x)

-- ---- every row

every_from-push : (a n : ℕ) → map (λ _. true) (range_with_len a (suc n)) ≡ map (λ _. true) (range_with_len a n) ++ true ∷ []
every_from-push a zero = refl
every_from-push a (suc n) = ap (λ flags. true ∷ flags) (every_from-push (a + 1) n)

pub every-push : (n : ℕ) (old new : List Bool) → new ≡ old ++ true ∷ [] → old ≡ every n → new ≡ every (n + 1)
every-push n old new pushed so_far = pushed ∙ ap (λ flags. flags ++ true ∷ []) so_far ∙ sym (every_from-push 0 n) ∙ ap (λ (k : ℕ). map (λ _. true) (range_with_len 0 k)) (sym (add-one n))

map-map : {X Y Z : Type 0} (g : Y → Z) (f : X → Y) (xs : List X) → map g (map f xs) ≡ map (λ x. g (f x)) xs
map-map g f [] = refl
map-map g f (x ∷ xs) = ap (λ zs. g (f x) ∷ zs) (map-map g f xs)

all_truths : (conjuncts : List TypedExpr) (columns : List Cells) (n : ℕ) → truths_on conjuncts columns (every n) ≡ map (holds_on conjuncts) (rows_of columns n)
all_truths conjuncts columns n =
    on_rows-places false (all_true (map value_of conjuncts)) columns (λ _. true) 0 n
    ∙ sym (map-map (holds_on conjuncts) (row_at columns) (range_with_len 0 n))

told_none : {A : Type 0} (kinds : List ErrorKind) (u : Unit {0}) (a : A) → unless_error {A = Unit {0}} kinds tt ≡ Ok u → unless_error kinds a ≡ Ok a
told_none kinds u a e = let (none, same) = told_value {A = Unit {0}} kinds tt u e in rw none refl

module _ (conjuncts : List TypedExpr) (columns : List Cells) (n : ℕ) (faults : List (ℕ × ErrorKind)) (are : faults ≡ faults_from 0 (truths_on conjuncts columns (every n))) where
  abbrev outcomes : List (Result Bool ErrorKind)
  outcomes = map (holds_on conjuncts) (rows_of columns n)

  errors : map (λ fault. fault.1) faults ≡ errors_in outcomes
  errors = ap (map (λ fault. fault.1)) are ∙ kinds_are 0 (truths_on conjuncts columns (every n)) ∙ ap (errors_in {A = Bool}) (all_truths conjuncts columns n)

  pub flags_found : (kept : List Bool) (u : Unit {0}) → kept ≡ map (found_or false) (truths_on conjuncts columns (every n)) → unless_error {A = Unit {0}} (map (λ fault. fault.1) faults) tt ≡ Ok u → flags_where conjuncts (rows_of columns n) ≡ Ok kept
  flags_found kept u is none =
      let found : map (found_or false) outcomes ≡ kept = sym (ap (map (found_or false)) (all_truths conjuncts columns n)) ∙ sym is in
      told_none (errors_in outcomes) u (map (found_or false) outcomes) (ap (λ kinds. unless_error {A = Unit {0}} kinds tt) (sym errors) ∙ none) ∙ ap Ok found

  pub flags_refused : (refusal : StatementRefusal) → unless_error {A = Unit {0}} (map (λ fault. fault.1) faults) tt ≡ Err refusal → flags_where conjuncts (rows_of columns n) ≡ Err refusal
  flags_refused refusal e =
      told_refusal {A = Unit {0}} (errors_in outcomes) tt (map (found_or false) outcomes) refusal (ap (λ kinds. unless_error {A = Unit {0}} kinds tt) (sym errors) ∙ e)

-- ---- items

pub on_rows-length : {A : Type 0} (none : A) (f : List Value → Result A ErrorKind) (columns : List Cells) (at : ℕ) (flags : List Bool) → length (on_rows none f columns at flags) ≡ length flags
on_rows-length none f columns at [] = refl
on_rows-length none f columns at (flag ∷ flags) = ap suc (on_rows-length none f columns (at + 1) flags)

pub column_long : (x : TypedExpr) (columns : List Cells) (kept : List Bool) (values : List Value) (n : ℕ) → values ≡ map (found_or Null) (values_on x columns kept) → length kept ≡ n → length values ≡ n
column_long x columns kept values n are even =
    ap (length {A = Value}) are ∙ length-map (values_on x columns kept) (found_or Null) ∙ on_rows-length Null (value_of x) columns 0 kept ∙ even

cells_are : (kind : DataType) (values : List Value) (c : Cells) → c.kind ≡ kind → c.values ≡ values → c ≡ record { kind = kind; values = values }
cells_are kind values c k v = let is : c ≡ record { kind = c.kind; values = c.values } = refl in is ∙ rw (k, v) refl

pub columns_more : (columns : List Cells) (kept : List Bool) (xs : List TypedExpr) (x : TypedExpr) (old new : List Cells) (column : Cells) → new ≡ old ++ column ∷ []
    → column.kind ≡ kind_of x → column.values ≡ map (found_or Null) (values_on x columns kept)
    → old ≡ map (column_of columns kept) xs → new ≡ map (column_of columns kept) (xs ++ x ∷ [])
columns_more columns kept xs x old new column added kind values so_far =
    let is : column ≡ column_of columns kept x = cells_are (kind_of x) (map (found_or Null) (values_on x columns kept)) column kind values in
    added ∙ rw (so_far, is) (sym (map-append (column_of columns kept) xs (x ∷ [])))

pub ranged_more : (old new : List Cells) (column : Cells) → new ≡ old ++ column ∷ [] → IsRanged column → AllByRecursion IsRanged old → AllByRecursion IsRanged new
ranged_more old new column added one all = subst (AllByRecursion IsRanged) (sym added) (behind old all)
  where
    behind : (cs : List Cells) → AllByRecursion IsRanged cs → AllByRecursion IsRanged (cs ++ column ∷ [])
    behind [] all = (one, tt)
    behind (c ∷ cs) all = (all.0, behind cs all.1)

pub taken_more : (items : List QueryItem) (i : ℕ) (item : QueryItem) → i < length items → item ≡ get_or items i item → map (λ it. it.value) (take (i + 1) items) ≡ map (λ it. it.value) (take i items) ++ item.value ∷ []
taken_more items i item less at =
    ap (map (λ (it : QueryItem). it.value)) (take_more items i item less)
    ∙ map-append (λ (it : QueryItem). it.value) (take i items) (get_or items i item ∷ [])
    ∙ ap (λ (it : QueryItem). map (λ (it : QueryItem). it.value) (take i items) ++ it.value ∷ []) (sym at)

module _ (columns : List Cells) (kept : List Bool) (xs : List TypedExpr) (faults : List (ℕ × ErrorKind)) (are : map (λ fault. fault.1) faults ≡ flat_map (λ x. errors_in (values_on x columns kept)) xs) where
  pub columns_found : (found : List Cells) (u : Unit {0}) → found ≡ map (column_of columns kept) xs → unless_error {A = Unit {0}} (map (λ fault. fault.1) faults) tt ≡ Ok u → columns_of columns kept xs ≡ Ok found
  columns_found found u is none =
      told_none (flat_map (λ x. errors_in (values_on x columns kept)) xs) u (map (column_of columns kept) xs) (ap (λ kinds. unless_error {A = Unit {0}} kinds tt) (sym are) ∙ none) ∙ ap Ok (sym is)

  pub columns_refused : (refusal : StatementRefusal) → unless_error {A = Unit {0}} (map (λ fault. fault.1) faults) tt ≡ Err refusal → columns_of columns kept xs ≡ Err refusal
  columns_refused refusal e =
      told_refusal {A = Unit {0}} (flat_map (λ x. errors_in (values_on x columns kept)) xs) tt (map (column_of columns kept) xs) refusal (ap (λ kinds. unless_error {A = Unit {0}} kinds tt) (sym are) ∙ e)
