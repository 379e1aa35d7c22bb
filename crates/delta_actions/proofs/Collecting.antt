-- Reading items and members one after the other.
use Rattle.std.proofs.Common.{◌≡◌, ℕ, List, [], ◌∷◌, ◌++◌, Option, Some, None, option_map, refl, sym, ap, ◌∙◌, append_assoc}
use Rattle.serde_json.specs.Data.{Data, Members, member}
use Rattle.delta_actions.specs.Forms.{each_member}

-- what was collected before, and what is still to come
abbrev pub after : {A : Type 0} → List A → Option (List A) → Option (List A)
after done more = option_map (λ rest. done ++ rest) more

after_one : {A : Type 0} (done : List A) (a : A) (more : Option (List A)) → after done (option_map (λ rest. a ∷ rest) more) ≡ after (done ++ a ∷ []) more
after_one done a None = refl
after_one done a (Some rest) = ap Some (sym (append_assoc done (a ∷ []) rest))

-- one more member
pub collected : {A : Type 0} (form : Data → Option A) (k : List ℕ) (d : Data) (ms : Members) (a : A) (total : Option (List (List ℕ × A))) (done now : List (List ℕ × A))
    → total ≡ after done (each_member form (member k d ms)) → form d ≡ Some a → now ≡ done ++ (k, a) ∷ [] → total ≡ after now (each_member form ms)
collected form k d ms a total done now before is grown =
    before ∙ rw is (after_one done (k, a) (each_member form ms)) ∙ ap (λ xs. after xs (each_member form ms)) (sym grown)
