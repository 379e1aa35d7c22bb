-- One row more, in what comes of the rows of columns.
use Rattle.std.proofs.Common.{◌≡◌, ℕ, zero, suc, ◌+◌, ◌<◌, ◌≤◌, arith, append-nil, Bool, true, false, List, [], ◌∷◌, ◌++◌, length, map, drop, get_or, Option, Some, None, refl, sym, ap, subst, ◌∙◌, append_assoc, add-one, inl, inr}
use Rattle.std.specs.List.{AllByRecursion}
use Rattle.std.specs.Prelude.{IfOk, Result, Ok, Err, All, slice_get, option_map, nat_lt}
use Rattle.std.proofs.Math.Seq.{drop-cons}
use Rattle.std.proofs.lemmas.Bool.{cases_Bool, ltb-true, ltb-false}
use Rattle.std.proofs.lemmas.List.{get_or_past}
use Rattle.std.proofs.lemmas.List.Elements.{All-get_or, All-from_recursion}
use Rattle.std.proofs.lemmas.Option.{get_or_from_slice_get, slice_get-map, slice_get_within}
use Rattle.column_vectors.specs.Cells.{Cells}
use Rattle.dm_types.specs.Lanes.{IsNullOrOf}
use Rattle.dm_types.specs.Ranges.{IsNullOrInRange}
use Rattle.dm_types.specs.declared.value.DataType.{DataType}
use Rattle.dm_types.specs.declared.value.Value.{Value}
use Rattle.dm_types.specs.declared.value.Value.TheVariants as value
use Rattle.typed_expr.specs.Fits.{Fits}
use Rattle.typed_expr.specs.Kinds.{kind_of}
use Rattle.typed_expr.specs.declared.tree.TypedExpr.{TypedExpr}
use Rattle.vector_eval.specs.Batches.{IsRanged, kinds_of, at_row, on_rows, found_or, fault_at, faults_from}
use Rattle.vector_eval.specs.Outcomes.{Evaluated}
use Rattle.vector_eval.specs.Rows.{IsRow, row_at}
use Rattle.vector_eval.specs.Steps.{AreTyped}
use Rattle.vector_eval.specs.Values.{column, known, value_of}
use Rattle.vector_eval.specs.declared.fault.ErrorKind.{ErrorKind}
use Rattle.vector_eval.proofs.InRange.{held, Reads}

-- ---- the next row

next_flag : (flags : List Bool) (i : ℕ) (flag : Bool) → i < length flags → slice_get flags i ≡ Some flag → drop i flags ≡ flag ∷ drop (i + 1) flags
next_flag flags i flag less e =
    drop-cons flags i flag less
    ∙ ap (λ b. b ∷ drop (suc i) flags) (get_or_from_slice_get flags i flag flag e)
    ∙ ap (λ (k : ℕ). flag ∷ drop k flags) (sym (add-one i))

module _ {A : Type 0} (none : A) (f : List Value → Result A ErrorKind) (columns : List Cells) (flags : List Bool) (i : ℕ) (flag : Bool)
    (less : i < length flags) (e : slice_get flags i ≡ Some flag) (outcome : Result A ErrorKind) (is : outcome ≡ at_row none f columns i flag) where
  abbrev rest : List (Result A ErrorKind)
  rest = on_rows none f columns (i + 1) (drop (i + 1) flags)

  next_row : on_rows none f columns i (drop i flags) ≡ outcome ∷ rest
  next_row = ap (on_rows none f columns i) (next_flag flags i flag less e) ∙ ap (λ r. r ∷ rest) (sym is)

  pub found_more : (old new total : List A) → new ≡ old ++ found_or none outcome ∷ []
      → old ++ map (found_or none) (on_rows none f columns i (drop i flags)) ≡ total → new ++ map (found_or none) rest ≡ total
  found_more old new total added sofar =
      ap (λ z. z ++ map (found_or none) rest) added
      ∙ append_assoc old (found_or none outcome ∷ []) (map (found_or none) rest)
      ∙ sym (ap (λ z. old ++ map (found_or none) z) next_row)
      ∙ sofar

  pub faults_more : (old new total : List (ℕ × ErrorKind)) → new ≡ old ++ fault_at i outcome
      → old ++ faults_from i (on_rows none f columns i (drop i flags)) ≡ total → new ++ faults_from (i + 1) rest ≡ total
  faults_more old new total added sofar =
      ap (λ z. z ++ faults_from (i + 1) rest) added
      ∙ append_assoc old (fault_at i outcome) (faults_from (i + 1) rest)
      ∙ sym (ap (λ z. old ++ faults_from i z) next_row)
      ∙ sofar

-- ---- no row is left

past : {A : Type 0} (xs : List A) (i : ℕ) → length xs ≤ i → drop i xs ≡ []
past [] zero end = refl
past [] (suc i) end = refl
past (x ∷ xs) zero end = absurd (omega arith)
past (x ∷ xs) (suc i) end = past xs i (omega arith)

pub at_end : {A : Type 0} (none : A) (f : List Value → Result A ErrorKind) (columns : List Cells) (flags : List Bool) (i : ℕ) (found total : List A) → length flags ≤ i
    → found ++ map (found_or none) (on_rows none f columns i (drop i flags)) ≡ total → found ≡ total
at_end none f columns flags i found total end so_far =
    sym (append-nil found) ∙ sym (ap (λ (rest : List Bool). found ++ map (found_or none) (on_rows none f columns i rest)) (past flags i end)) ∙ so_far

-- ---- values of their types

cell_typed : (c : Cells) (row : ℕ) → All (IsNullOrOf c.kind) c.values → IsNullOrOf c.kind (get_or c.values row value.Null)
cell_typed c row typed = elim (cases_Bool (nat_lt row (length c.values))) as (λ _. IsNullOrOf c.kind (get_or c.values row value.Null)) [
  | inl e ↦ All-get_or (IsNullOrOf c.kind) c.values row value.Null (ltb-true _ _ e) typed
  | inr e ↦ subst (IsNullOrOf c.kind) (sym (get_or_past c.values row value.Null (ltb-false _ _ e))) tt
]

-- a column at a place, if any
found_typed : (k : DataType) (row : ℕ) (found : Option Cells) → ((c : Cells) → found ≡ Some c → All (IsNullOrOf c.kind) c.values)
    → option_map (λ (c : Cells). c.kind) found ≡ Some k → IsNullOrOf k (known (option_map (λ (c : Cells). get_or c.values row value.Null) found))
found_typed k row None typed e = absurd (cc)
found_typed k row (Some c) typed e =
    let same : c.kind ≡ k = cc in
    subst (λ j. IsNullOrOf j (get_or c.values row value.Null)) same (cell_typed c row (typed c refl))

column_typed : (columns : List Cells) (row : ℕ) → AreTyped columns → (place : ℕ) (k : DataType) → slice_get (kinds_of columns) place ≡ Some k → IsNullOrOf k (column place (row_at columns row))
column_typed columns row typed place k e =
    subst (λ (o : Option Value). IsNullOrOf k (known o)) (sym (slice_get-map (λ (c : Cells). get_or c.values row value.Null) columns place))
    (found_typed k row (slice_get columns place) (λ c h. typed place c h) (sym (slice_get-map (λ (c : Cells). c.kind) columns place) ∙ e))

typed_value : (k : DataType) (x : Value) → IsNullOrInRange k x → IsNullOrOf k x
typed_value k value.Null h = tt
typed_value k (value.Bool x) h = h.1
typed_value k (value.Int x) h = h.1
typed_value k (value.Dec x) h = h.1
typed_value k (value.Text x) h = h.1
typed_value k (value.Bytes x) h = h.1
typed_value k (value.Day x) h = h.1
typed_value k (value.Micros x) h = h.1

pub row_typed : (columns : List Cells) (x : TypedExpr) (row : ℕ) (selected : Bool) (outcome : Evaluated) (k : DataType) → Fits (kinds_of columns) x → AreTyped columns → Reads
    → outcome ≡ at_row value.Null (value_of x) columns row selected → k ≡ kind_of x → IfOk outcome (IsNullOrOf k)
row_typed columns x row true outcome k fits typed reads e same =
    subst (λ r. IfOk r (IsNullOrOf k)) (sym e)
    (subst (λ j. IfOk (value_of x (row_at columns row)) (IsNullOrOf j)) (sym same)
    (held (kinds_of columns) (row_at columns row) IsNullOrOf typed_value (column_typed columns row typed) reads x fits))
row_typed columns x row false outcome k fits typed reads e same = subst (λ r. IfOk r (IsNullOrOf k)) (sym e) tt

-- ---- values in their ranges

cell_ranged : (c : Cells) (row : ℕ) → IsRanged c → IsNullOrInRange c.kind (get_or c.values row value.Null)
cell_ranged c row ranged = elim (cases_Bool (nat_lt row (length c.values))) as (λ _. IsNullOrInRange c.kind (get_or c.values row value.Null)) [
  | inl e ↦ All-get_or (IsNullOrInRange c.kind) c.values row value.Null (ltb-true _ _ e) ranged
  | inr e ↦ subst (IsNullOrInRange c.kind) (sym (get_or_past c.values row value.Null (ltb-false _ _ e))) tt
]

found_ranged : (k : DataType) (row : ℕ) (found : Option Cells) → ((c : Cells) → found ≡ Some c → IsRanged c)
    → option_map (λ (c : Cells). c.kind) found ≡ Some k → IsNullOrInRange k (known (option_map (λ (c : Cells). get_or c.values row value.Null) found))
found_ranged k row None ranged e = absurd (cc)
found_ranged k row (Some c) ranged e =
    let same : c.kind ≡ k = cc in
    subst (λ j. IsNullOrInRange j (get_or c.values row value.Null)) same (cell_ranged c row (ranged c refl))

column_ranged : (columns : List Cells) (row : ℕ) → All IsRanged columns → IsRow (kinds_of columns) (row_at columns row)
column_ranged columns row ranged place k e =
    subst (λ (o : Option Value). IsNullOrInRange k (known o)) (sym (slice_get-map (λ (c : Cells). get_or c.values row value.Null) columns place))
    (found_ranged k row (slice_get columns place) (λ c h. subst IsRanged (get_or_from_slice_get columns place c c h) (All-get_or IsRanged columns place c (slice_get_within columns place c h) ranged)) (sym (slice_get-map (λ (c : Cells). c.kind) columns place) ∙ e))

-- what comes of the rows of columns whose values are in their ranges is in the range of the expression's type
pub ranged_on : (columns : List Cells) (x : TypedExpr) → Fits (kinds_of columns) x → All IsRanged columns → Reads → (at : ℕ) (flags : List Bool)
    → AllByRecursion (IsNullOrInRange (kind_of x)) (map (found_or value.Null) (on_rows value.Null (value_of x) columns at flags))
ranged_on columns x fits ranged reads at [] = tt
ranged_on columns x fits ranged reads at (selected ∷ more) = (here selected, ranged_on columns x fits ranged reads (at + 1) more)
  where
    found : (outcome : Evaluated) → IfOk outcome (IsNullOrInRange (kind_of x)) → IsNullOrInRange (kind_of x) (found_or value.Null outcome)
    found (Ok v) h = h
    found (Err kind) h = tt

    here : (flag : Bool) → IsNullOrInRange (kind_of x) (found_or value.Null (at_row value.Null (value_of x) columns at flag))
    here true = found (value_of x (row_at columns at)) (held (kinds_of columns) (row_at columns at) IsNullOrInRange (λ k v h. h) (column_ranged columns at ranged) reads x fits)
    here false = tt

pub ranged_column : (columns : List Cells) (x : TypedExpr) (flags : List Bool) (column : Cells) → Fits (kinds_of columns) x → All IsRanged columns → Reads
    → column.kind ≡ kind_of x → column.values ≡ map (found_or value.Null) (on_rows value.Null (value_of x) columns 0 flags) → IsRanged column
ranged_column columns x flags column fits ranged reads kind values =
    rw (kind, values) (All-from_recursion (IsNullOrInRange (kind_of x)) _ (ranged_on columns x fits ranged reads 0 flags))
