-- The answer of SELECT, from the table that was opened.
use Rattle.std.proofs.Common.{◌≡◌, ℕ, ◌<◌, Bool, true, false, ◌&&◌, cond, List, [], ◌∷◌, ◌++◌, length, map, get_or, Some, None, Result, Ok, Err, refl, sym, ap, ◌∙◌, arith}
use Rattle.std.specs.Prelude.{filter}
use Rattle.std.specs.List.{AllByRecursion, flat_map, list_any, range_with_len}
use Rattle.std.proofs.lemmas.List.FromFn.{get_or-map-range_with_len}
use Rattle.column_vectors.specs.Cells.{Cells}
use Rattle.dm_types.specs.declared.refusal.StatementRefusal.{StatementRefusal}
use Rattle.dm_types.specs.declared.value.Value.{Value}
use Rattle.dm_types.specs.declared.value.Value.TheVariants.{Null}
use Rattle.row_tracking.specs.Order.{in_id_order}
use Rattle.row_tracking.specs.declared.row_id.RowId.{RowId}
use Rattle.script_run.specs.Selected.{holds_in, item_errors, item_values, rows_where, values_line}
use Rattle.script_run.specs.StepsRows.{value_at}
use Rattle.script_run.specs.StepsSelected.{is_kept, values_at}
use Rattle.select_rows.specs.Rows.{column_of, columns_of, errors_in, flags_where, holds_on, rows_of, unless_error}
use Rattle.select_rows.specs.declared.query.QueryItem.{QueryItem}
use Rattle.select_rows.proofs.ByPlace.{is_of, errors-any, told-same, told_value, told_refusal, any-map, any-same, any-filter, flat-same, on_rows-places, at_row-of}
use Rattle.table_load.specs.Held.{TableRow, row_at}
use Rattle.typed_expr.specs.declared.tree.TypedExpr.{TypedExpr}
use Rattle.vector_eval.specs.Batches.{at_row, found_or, has_kind, values_on}
use Rattle.vector_eval.specs.Outcomes.{Evaluated}
use Rattle.vector_eval.specs.Rows as rows
use Rattle.vector_eval.specs.Values.{value_of}
use Rattle.vector_eval.specs.declared.fault.ErrorKind.{ErrorKind}
use Rattle.script_run.proofs.AnyOrder.{any_in_order, places_within}

-- ---- lists

filter-map : {X Y : Type 0} (p : Y → Bool) (f : X → Y) (xs : List X) → filter p (map f xs) ≡ map f (filter (λ x. p (f x)) xs)
filter-map p f [] = refl
filter-map {X} {Y} p f (x ∷ xs) = by (p (f x)) (filter-map p f xs)
  where
    by : (kept : Bool) → filter p (map f xs) ≡ map f (filter (λ y. p (f y)) xs) → cond kept (f x ∷ filter p (map f xs)) (filter p (map f xs)) ≡ map f (cond kept (x ∷ filter (λ y. p (f y)) xs) (filter (λ y. p (f y)) xs))
    by true e = ap (λ ys. f x ∷ ys) e
    by false e = e

filter-same : {X : Type 0} (P : X → Type 0) (p q : X → Bool) (xs : List X) → AllByRecursion P xs → ((x : X) → P x → p x ≡ q x) → filter p xs ≡ filter q xs
filter-same P p q [] all same = refl
filter-same P p q (x ∷ xs) all same = rw (same x all.0, filter-same P p q xs all.1 same) refl

map-kept : {X Y : Type 0} (P : X → Type 0) (q : X → Bool) (f h : X → Y) (xs : List X) → AllByRecursion P xs → ((x : X) → P x → q x ≡ true → f x ≡ h x) → map f (filter q xs) ≡ map h (filter q xs)
map-kept P q f h [] all same = refl
map-kept {X} {Y} P q f h (x ∷ xs) all same = by (q x) refl (map-kept P q f h xs all.1 same)
  where
    by : (kept : Bool) → q x ≡ kept → map f (filter q xs) ≡ map h (filter q xs) → map f (cond kept (x ∷ filter q xs) (filter q xs)) ≡ map h (cond kept (x ∷ filter q xs) (filter q xs))
    by true is e = rw (same x all.0 is, e) refl
    by false is e = e

map-map : {X Y Z : Type 0} (g : Y → Z) (f : X → Y) (xs : List X) → map g (map f xs) ≡ map (λ x. g (f x)) xs
map-map g f [] = refl
map-map g f (x ∷ xs) = ap (λ zs. g (f x) ∷ zs) (map-map g f xs)

-- ---- the rows of a table that was opened, by their places

module _ (columns : List Cells) (ids : List RowId) where
  abbrev order : List ℕ
  order = in_id_order ids

  abbrev places : List ℕ
  places = range_with_len 0 (length ids)

  abbrev the_rows : List TableRow
  the_rows = map (row_at columns ids) order

  -- outcomes on the rows in one order and the other are errors of the same kinds
  module _ {A : Type 0} (f : List Value → Result A ErrorKind) where
    outcomes-same : (kind : ErrorKind) → has_kind kind (errors_in (map f (map (rows.row_at columns) places))) ≡ has_kind kind (errors_in (map (λ row. f row.values) the_rows))
    outcomes-same kind =
        errors-any kind (map f (map (rows.row_at columns) places))
        ∙ any-map (is_of kind) f (map (rows.row_at columns) places)
        ∙ any-map (λ row. is_of kind (f row)) (rows.row_at columns) places
        ∙ sym (any_in_order ids (λ place. is_of kind (f (rows.row_at columns place))))
        ∙ sym (any-map (λ (row : TableRow). is_of kind (f row.values)) (row_at columns ids) order)
        ∙ sym (any-map (is_of kind) (λ (row : TableRow). f row.values) the_rows)
        ∙ sym (errors-any kind (map (λ (row : TableRow). f row.values) the_rows))

  -- ---- the condition

  module _ (conjuncts : List TypedExpr) where
    abbrev holds_at : ℕ → Bool
    holds_at place = found_or false (holds_on conjuncts (rows.row_at columns place))

    abbrev flags : List Bool
    flags = map (found_or false) (map (holds_on conjuncts) (rows_of columns (length ids)))

    pub not_kept : (refusal : StatementRefusal) → flags_where conjuncts (rows_of columns (length ids)) ≡ Err refusal → rows_where conjuncts the_rows ≡ Err refusal
    not_kept refusal e =
        told_refusal (errors_in (map (holds_in conjuncts) the_rows)) flags (filter (λ row. found_or false (holds_in conjuncts row)) the_rows) refusal
        (sym (told-same _ _ flags (outcomes-same (holds_on conjuncts))) ∙ e)

    flags-places : flags ≡ map holds_at places
    flags-places = map-map (found_or false) (holds_on conjuncts) (map (rows.row_at columns) places) ∙ map-map (λ row. found_or false (holds_on conjuncts row)) (rows.row_at columns) places

    flag_is : (kept : List Bool) → flags ≡ kept → (place : ℕ) → place < length ids → is_kept kept place ≡ holds_at place
    flag_is kept is place within =
        ap (λ (fs : List Bool). get_or fs place false) (sym is ∙ flags-places) ∙ get_or-map-range_with_len holds_at 0 (length ids) place place false within (omega arith)

    pub kept_places : (kept : List Bool) → flags ≡ kept → filter (is_kept kept) order ≡ filter holds_at order
    kept_places kept is = filter-same (λ place. place < length ids) (is_kept kept) holds_at order (places_within ids) (flag_is kept is)

    pub are_kept : (kept : List Bool) → flags_where conjuncts (rows_of columns (length ids)) ≡ Ok kept → rows_where conjuncts the_rows ≡ Ok (map (row_at columns ids) (filter (is_kept kept) order))
    are_kept kept e =
        let (none, is) = told_value (errors_in (map (holds_on conjuncts) (rows_of columns (length ids)))) flags kept e in
        let same = told-same _ _ (filter (λ row. found_or false (holds_in conjuncts row)) the_rows) (outcomes-same (holds_on conjuncts)) in
        let rows_are : filter (λ row. found_or false (holds_in conjuncts row)) the_rows ≡ map (row_at columns ids) (filter (is_kept kept) order) =
        filter-map (λ row. found_or false (holds_in conjuncts row)) (row_at columns ids) order ∙ ap (map (row_at columns ids)) (sym (kept_places kept is)) in
        sym same ∙ rw (none, rows_are) refl

    -- ---- the items, on the rows that are kept

    module _ (kept : List Bool) (is : flags ≡ kept) where
      abbrev kept_order : List ℕ
      kept_order = filter (is_kept kept) order

      abbrev kept_rows : List TableRow
      kept_rows = map (row_at columns ids) kept_order

      values-places : (x : TypedExpr) → values_on x columns kept ≡ map (λ place. at_row Null (value_of x) columns place (holds_at place)) places
      values-places x =
          ap (values_on x columns) (sym is ∙ flags-places) ∙ on_rows-places Null (value_of x) columns holds_at 0 (length ids)

      errors-same : (x : TypedExpr) (kind : ErrorKind) → has_kind kind (errors_in (values_on x columns kept)) ≡ has_kind kind (errors_in (map (λ row. value_of x row.values) kept_rows))
      errors-same x kind =
          let here : ℕ → Bool = λ place. is_of kind (value_of x (rows.row_at columns place)) in
          errors-any kind (values_on x columns kept)
          ∙ ap (list_any (is_of kind)) (values-places x)
          ∙ any-map (is_of kind) (λ place. at_row Null (value_of x) columns place (holds_at place)) places
          ∙ any-same _ (λ place. holds_at place && here place) places (λ place. at_row-of kind Null (value_of x) columns place (holds_at place))
          ∙ sym (any_in_order ids (λ place. holds_at place && here place))
          ∙ sym (any-filter here holds_at order)
          ∙ ap (list_any here) (sym (kept_places kept is))
          ∙ sym (any-map (λ (row : TableRow). is_of kind (value_of x row.values)) (row_at columns ids) kept_order)
          ∙ sym (any-map (is_of kind) (λ (row : TableRow). value_of x row.values) kept_rows)
          ∙ sym (errors-any kind (map (λ (row : TableRow). value_of x row.values) kept_rows))

      items-same : (items : List QueryItem) (kind : ErrorKind)
          → has_kind kind (flat_map (λ x. errors_in (values_on x columns kept)) (map (λ item. item.value) items)) ≡ has_kind kind (item_errors (Some items) kept_rows)
      items-same items kind =
          ap (has_kind kind) (flat-mapped items)
          ∙ flat-same kind (λ (item : QueryItem). errors_in (values_on item.value columns kept)) (λ (item : QueryItem). errors_in (map (λ row. value_of item.value row.values) kept_rows)) items (λ item. errors-same item.value kind)
        where
          flat-mapped : (items : List QueryItem) → flat_map (λ x. errors_in (values_on x columns kept)) (map (λ item. item.value) items) ≡ flat_map (λ item. errors_in (values_on item.value columns kept)) items
          flat-mapped [] = refl
          flat-mapped (item ∷ items) = ap (λ es. errors_in (values_on item.value columns kept) ++ es) (flat-mapped items)

      pub no_values : {A : Type 0} (items : List QueryItem) (a : A) (refusal : StatementRefusal) → columns_of columns kept (map (λ item. item.value) items) ≡ Err refusal → unless_error (item_errors (Some items) kept_rows) a ≡ Err refusal
      no_values items a refusal e =
          told_refusal (item_errors (Some items) kept_rows) (map (column_of columns kept) (map (λ item. item.value) items)) a refusal
          (sym (told-same _ _ (map (column_of columns kept) (map (λ item. item.value) items)) (items-same items)) ∙ e)

      value-at : (x : TypedExpr) (place : ℕ) → place < length ids → is_kept kept place ≡ true → value_at place (column_of columns kept x) ≡ found_or Null (value_of x (rows.row_at columns place))
      value-at x place within kept_here =
          let here : holds_at place ≡ true = sym (flag_is kept is place within) ∙ kept_here in
          ap (λ (outcomes : List Evaluated). get_or (map (found_or Null) outcomes) place Null) (values-places x)
          ∙ ap (λ (values : List Value). get_or values place Null) (map-map (found_or Null) (λ place. at_row Null (value_of x) columns place (holds_at place)) places)
          ∙ get_or-map-range_with_len (λ place. found_or Null (at_row Null (value_of x) columns place (holds_at place))) 0 (length ids) place place Null within (omega arith)
          ∙ rw here refl

      values-at : (items : List QueryItem) (place : ℕ) → place < length ids → is_kept kept place ≡ true
          → map (value_at place) (map (column_of columns kept) (map (λ item. item.value) items)) ≡ item_values (Some items) (row_at columns ids place)
      values-at [] place within kept_here = refl
      values-at (item ∷ items) place within kept_here = rw (value-at item.value place within kept_here, values-at items place within kept_here) refl

      pub lines_of : (items : List QueryItem)
          → map (values_at (map (column_of columns kept) (map (λ item. item.value) items))) kept_order ≡ map (λ row. values_line (item_values (Some items) row)) kept_rows
      lines_of items =
          map-kept (λ place. place < length ids) (is_kept kept) (values_at (map (column_of columns kept) (map (λ item. item.value) items))) (λ place. values_line (item_values (Some items) (row_at columns ids place))) order (places_within ids)
          (λ place within kept_here. ap values_line (values-at items place within kept_here))
          ∙ sym (map-map (λ (row : TableRow). values_line (item_values (Some items) row)) (row_at columns ids) kept_order)

      pub values_are : (items : List QueryItem) (found : List Cells) → columns_of columns kept (map (λ item. item.value) items) ≡ Ok found
          → (found ≡ map (column_of columns kept) (map (λ item. item.value) items)) × ((A : Type 0) (a : A) → unless_error (item_errors (Some items) kept_rows) a ≡ Ok a)
      values_are items found e =
          let (none, same) = told_value (flat_map (λ x. errors_in (values_on x columns kept)) (map (λ item. item.value) items)) (map (column_of columns kept) (map (λ item. item.value) items)) found e in
          (sym same, λ A a. sym (told-same {A = A} _ _ a (items-same items)) ∙ rw none refl)

  -- `*`: the columns themselves
  pub lines_of_all : (chosen : List ℕ) → map (values_at columns) chosen ≡ map (λ row. values_line (item_values None row)) (map (row_at columns ids) chosen)
  lines_of_all chosen = sym (map-map (λ (row : TableRow). values_line (item_values None row)) (row_at columns ids) chosen)
