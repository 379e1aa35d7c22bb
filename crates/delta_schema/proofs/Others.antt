-- Members of metadata one after the other.
use Rattle.std.proofs.Common.{◌≡◌, ℕ, List, [], ◌∷◌, ◌++◌, Bool, true, false, cond, refl, sym, ap, ◌∙◌, append_assoc}
use Rattle.serde_json.specs.Data.{Data, Members, member}
use Rattle.serde_json.specs.Written.{compact_text}
use Rattle.delta_schema.specs.Metadata.{is_kept, other_members}
use Rattle.delta_schema.specs.StepsReading.{other_of}

by_kept : {A : Type 0} (kept : Bool) (a : A) (rest : List A) → cond kept rest (a ∷ rest) ≡ cond kept [] (a ∷ []) ++ rest
by_kept true a rest = refl
by_kept false a rest = refl

-- one more member
pub others_step : (identity : Bool) (total done now : List (List ℕ × List ℕ)) (k : List ℕ) (d : Data) (ms : Members)
    → total ≡ done ++ other_members identity (member k d ms) → now ≡ done ++ other_of identity k d → total ≡ now ++ other_members identity ms
others_step identity total done now k d ms before grown =
    before
    ∙ ap (λ rest. done ++ rest) (by_kept (is_kept identity k) (k, compact_text d) (other_members identity ms))
    ∙ sym (append_assoc done (other_of identity k d) (other_members identity ms))
    ∙ ap (λ front. front ++ other_members identity ms) (sym grown)
