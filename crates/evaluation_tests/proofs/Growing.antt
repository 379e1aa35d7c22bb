-- Columns and a row that grow by a column and its value.
use Rattle.std.proofs.Common.{◌≡◌, zero, suc, ◌+◌, ◌∙◌, List, [], ◌∷◌, ◌++◌, length, sym, ap, subst, length-append}
use Rattle.std.specs.Prelude.{OnOk, Result, Ok, Err}
use Rattle.std.proofs.lemmas.List.{map-append, length-map}
use Rattle.std.proofs.lemmas.List.Elements.{All-push}
use Rattle.dm_types.specs.Ranges.{IsNullOrInRange, IsWellFormed}
use Rattle.dm_types.specs.declared.value.DataType.{DataType}
use Rattle.dm_types.specs.declared.value.Value.{Value}
use Rattle.typed_expr.specs.declared.scope.ScopeColumn.{ScopeColumn}
use Rattle.typed_expr.specs.Fits.{kinds_in}
use Rattle.vector_eval.specs.Rows.{IsRow}
use Rattle.evaluation_tests.specs.Given.{IsGiven}

-- a row of one more type
row_grows : (kinds : List DataType) (row : List Value) (k : DataType) (v : Value) → length kinds ≡ length row
    → IsRow kinds row → IsNullOrInRange k v → IsRow (kinds ++ k ∷ []) (row ++ v ∷ [])
row_grows [] [] k v same h here zero j is = let e : k ≡ j = cc in subst (λ t. IsNullOrInRange t v) e here
row_grows [] [] k v same h here (suc place) j is = absurd (cc)
row_grows [] (x ∷ xs) k v same h here place j is = absurd (cc)
row_grows (a ∷ kinds) [] k v same h here place j is = absurd (cc)
row_grows (a ∷ kinds) (x ∷ xs) k v same h here zero j is = h 0 j is
row_grows (a ∷ kinds) (x ∷ xs) k v same h here (suc place) j is =
    row_grows kinds xs k v (cc) (λ place j is. h (suc place) j is) here place j is

grown : (scope : List ScopeColumn) (row : List Value) (c : ScopeColumn) (v : Value) → IsGiven scope row
    → IsWellFormed c.kind → IsNullOrInRange c.kind v → IsGiven (scope ++ c ∷ []) (row ++ v ∷ [])
grown scope row c v given formed ranged =
    let kinds : length (kinds_in scope) ≡ length row = length-map scope (λ (c : ScopeColumn). c.kind) ∙ given.counted in
    record {
      formed = All-push (λ (c : ScopeColumn). IsWellFormed c.kind) scope c given.formed formed;
      row = subst (λ kinds. IsRow kinds (row ++ v ∷ [])) (sym (map-append (λ (c : ScopeColumn). c.kind) scope (c ∷ [])))
          (row_grows (kinds_in scope) row c.kind v kinds given.row ranged);
      counted = length-append scope (c ∷ []) ∙ ap (λ n. n + 1) given.counted ∙ sym (length-append row (v ∷ []));
    }

-- .. by two pushes, of which the first is done
pub both_grown : {A E : Type 0} (r : Result A E) (scope more : List ScopeColumn) (row longer : List Value)
    (c : ScopeColumn) (v : Value) (k : DataType) → IsGiven scope row → IsWellFormed k → c.kind ≡ k → IsNullOrInRange k v
    → more ≡ scope ++ c ∷ [] → OnOk r (longer ≡ row ++ v ∷ []) → OnOk r (IsGiven more longer)
both_grown (Err e) scope more row longer c v k given formed is ranged columns values = tt
both_grown (Ok a) scope more row longer c v k given formed is ranged columns values =
    let grows : IsGiven (scope ++ c ∷ []) (row ++ v ∷ []) = grown scope row c v given
    (subst IsWellFormed (sym is) formed) (subst (λ k. IsNullOrInRange k v) (sym is) ranged) in
    subst (λ values. IsGiven more values) (sym values) (subst (λ columns. IsGiven columns (row ++ v ∷ [])) (sym columns) grows)
