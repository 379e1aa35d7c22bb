-- Rows that are added one after another.
use Rattle.std.proofs.Common.{◌≡◌, ◌⊎◌, ℕ, ◌+◌, ◌<◌, ◌≤◌, List, [], ◌∷◌, ◌++◌, get_or, Some, refl, sym, ap, ◌∙◌, inl, inr, arith, length-append}
use Rattle.std.proofs.Math.ListN.{get_or-append}
use Rattle.std.proofs.lemmas.Bool.{cases_lt}
use Rattle.std.proofs.lemmas.List.{get_or_push}
use Rattle.std.proofs.lemmas.Option.{slice_get-get_or}
use Rattle.row_tracking.specs.Checked.{no_row}
use Rattle.row_tracking.specs.StepsIds.{AreRows}
use Rattle.row_tracking.specs.declared.row_id.RowId.{RowId}

pub rows_none : (row : ℕ → RowId) → AreRows row 0 []
rows_none row = record { counted = refl; each = λ k low. absurd (omega arith) }

pub rows_more : (row : ℕ → RowId) (n : ℕ) (rows grown : List RowId) → grown ≡ rows ++ row n ∷ [] → AreRows row n rows → AreRows row (n + 1) grown
rows_more row n rows grown is before = rw is (record {
  counted = omega (arith, before.counted, length-append rows (row n ∷ []));
  each = λ k low. slice_get-get_or (rows ++ row n ∷ []) k no_row (omega (arith, before.counted, length-append rows (row n ∷ []))) ∙ ap Some (by k low (cases_lt k n));
})
  where
    unwrapped : (x y : RowId) → Some x ≡ Some y → x ≡ y
    unwrapped x y e = cc

    by : (k : ℕ) → k < n + 1 → ((k < n) ⊎ (n ≤ k)) → get_or (rows ++ row n ∷ []) k no_row ≡ row k
    by k low (inl less) =
        get_or-append rows (row n ∷ []) no_row k (omega (arith, before.counted))
        ∙ unwrapped _ _ (sym (slice_get-get_or rows k no_row (omega (arith, before.counted))) ∙ before.each k less)
    by k low (inr past) =
        let e : k ≡ n = omega arith in
        get_or_push rows (row n) no_row k (before.counted ∙ sym e) ∙ ap row (sym e)
