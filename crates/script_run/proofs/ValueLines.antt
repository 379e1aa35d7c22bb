-- Lines of names and of values.
use Rattle.std.proofs.Common.{◌≡◌, ℕ, ◌+◌, ◌<◌, Bool, true, false, cond, List, [], ◌∷◌, ◌++◌, length, map, take, get_or, refl, sym, ap, subst, ◌∙◌, append-nil, append_assoc, Some}
use Rattle.std.specs.Prelude.{All, filter, slice_get}
use Rattle.std.specs.List.{AllByRecursion, flat_map, join_with_byte}
use Rattle.std.proofs.lemmas.List.{take_more}
use Rattle.std.proofs.lemmas.List.Elements.{All-from_recursion, filter-append}
use Rattle.std.proofs.lemmas.Option.{get_or_from_slice_get}
use Rattle.column_vectors.specs.Cells.{Cells}
use Rattle.dm_text.specs.Printing.{field, value_field}
use Rattle.row_tracking.specs.Order.{in_id_order}
use Rattle.row_tracking.specs.declared.row_id.RowId.{RowId}
use Rattle.script_run.specs.Selected.{names_line}
use Rattle.script_run.specs.StepsRows.{HasCell, IsPrintable, cells_text, value_at}
use Rattle.script_run.specs.StepsSelected.{is_kept, one_if, values_at}
use Rattle.script_run.proofs.AnyOrder.{places_within}
use Rattle.script_run.proofs.RowText.{joined-more}

names-more : (x : List ℕ) (names : List (List ℕ)) → join_with_byte 9 (x ∷ map field names) ≡ x ++ flat_map (λ name. 9 ∷ field name) names
names-more x [] = sym (append-nil x)
names-more x (name ∷ names) = ap (λ (rest : List ℕ). x ++ 9 ∷ rest) (names-more (field name) names)

pub names_added : (out lead all first : List ℕ) (others names : List (List ℕ)) → names ≡ first ∷ others → lead ≡ out ++ field first → all ≡ lead ++ flat_map (λ name. 9 ∷ field name) others
    → all ≡ out ++ names_line names
names_added out lead all first others names are led added =
    added ∙ ap (λ (t : List ℕ). t ++ flat_map (λ name. 9 ∷ field name) others) led ∙ append_assoc out (field first) (flat_map (λ name. 9 ∷ field name) others)
    ∙ ap (λ (t : List ℕ). out ++ t) (sym (names-more (field first) others))
    ∙ ap (λ (ns : List (List ℕ)). out ++ names_line ns) (sym are)

pub values_added : (out lead all : List ℕ) (first : Cells) (others columns : List Cells) (place : ℕ) → columns ≡ first ∷ others → lead ≡ out ++ value_field (value_at place first) → all ≡ lead ++ cells_text others place
    → all ≡ out ++ values_at columns place
values_added out lead all first others columns place are led added =
    added ∙ ap (λ (t : List ℕ). t ++ cells_text others place) led ∙ append_assoc out (value_field (value_at place first)) (cells_text others place)
    ∙ ap (λ (t : List ℕ). out ++ t) (sym (joined-more (value_field (value_at place first)) others place))
    ∙ ap (λ (cs : List Cells). out ++ values_at cs place) (sym are)

-- ---- places

filter_all : (P : ℕ → Type 0) (q : ℕ → Bool) (xs : List ℕ) → AllByRecursion P xs → AllByRecursion P (filter q xs)
filter_all P q [] all = tt
filter_all P q (x ∷ xs) all = by (q x) (filter_all P q xs all.1)
  where
    by : (kept : Bool) → AllByRecursion P (filter q xs) → AllByRecursion P (cond kept (x ∷ filter q xs) (filter q xs))
    by true rest = (all.0, rest)
    by false rest = rest

has_cells : (n place : ℕ) (columns : List Cells) → All (IsPrintable n) columns → place < n → All (HasCell place) columns
has_cells n place columns printable low k d within =
    let one = printable k d within in
    record { within = subst (λ (m : ℕ). place < m) (sym one.rows) low; ranges = one.ranges }

every_cell : (P : ℕ → Type 0) (Q : ℕ → Type 0) (xs : List ℕ) → ((x : ℕ) → P x → Q x) → AllByRecursion P xs → AllByRecursion Q xs
every_cell P Q [] so all = tt
every_cell P Q (x ∷ xs) so all = (so x all.0, every_cell P Q xs so all.1)

pub kept_cells : (columns : List Cells) (ids : List RowId) (kept : List Bool) (places : List ℕ) → All (IsPrintable (length ids)) columns → places ≡ filter (is_kept kept) (in_id_order ids)
    → All (λ place. All (HasCell place) columns) places
kept_cells columns ids kept places printable are =
    subst (λ (ps : List ℕ). All (λ place. All (HasCell place) columns) ps) (sym are)
    (All-from_recursion (λ place. All (HasCell place) columns) (filter (is_kept kept) (in_id_order ids))
    (every_cell (λ place. place < length ids) (λ place. All (HasCell place) columns) (filter (is_kept kept) (in_id_order ids)) (λ place low. has_cells (length ids) place columns printable low)
    (filter_all (λ place. place < length ids) (is_kept kept) (in_id_order ids) (places_within ids))))

pub one_kept : (kept : List Bool) (all : List ℕ) (i d : ℕ) (flag : Bool) (before old new : List ℕ) → i < length all → slice_get kept (get_or all i d) ≡ Some flag
    → old ≡ before ++ filter (is_kept kept) (take i all) → new ≡ old ++ one_if flag (get_or all i d) → new ≡ before ++ filter (is_kept kept) (take (i + 1) all)
one_kept kept all i d flag before old new low there sofar added =
    let place : ℕ = get_or all i d in
    let is : is_kept kept place ≡ flag = get_or_from_slice_get kept place flag false there in
    added ∙ ap (λ (ps : List ℕ). ps ++ one_if flag place) sofar
    ∙ append_assoc before (filter (is_kept kept) (take i all)) (one_if flag place)
    ∙ ap (λ (ps : List ℕ). before ++ ps) (sym (taken place is))
  where
    one : (place : ℕ) (b : Bool) → is_kept kept place ≡ b → filter (is_kept kept) (place ∷ []) ≡ one_if b place
    one place true e = rw e refl
    one place false e = rw e refl

    taken : (place : ℕ) → is_kept kept (get_or all i d) ≡ flag → filter (is_kept kept) (take (i + 1) all) ≡ filter (is_kept kept) (take i all) ++ one_if flag (get_or all i d)
    taken place is =
        ap (filter (is_kept kept)) (take_more all i d low)
        ∙ filter-append (is_kept kept) (take i all) (get_or all i d ∷ [])
        ∙ ap (λ (ps : List ℕ). filter (is_kept kept) (take i all) ++ ps) (one (get_or all i d) flag is)
