-- The paths of files that were read.
use Rattle.std.proofs.Common.{◌≡◌, ℕ, List, Bool, true, false, ◌||◌, cond, refl, ap, ◌∙◌}
use Rattle.std.specs.Cmp.Lexicographic.{slice_cmp}
use Rattle.std.specs.Ordering.{is_eq, nat_cmp}
use Rattle.std.specs.Str.{bytes_eq}
use Rattle.std.proofs.lemmas.Map.Text.{is_eq-slice_cmp}
use Rattle.table_load.specs.StepsLoading.{is_held}

set_or : (here old : Bool) → cond here true old ≡ (old || here)
set_or true true = refl
set_or true false = refl
set_or false true = refl
set_or false false = refl

-- a set that took a path has it, and those that it had
pub path_added : (old now : List (List ℕ)) (path : List ℕ) → ((other : List ℕ) → is_held now other ≡ cond (is_eq (slice_cmp nat_cmp path other)) true (is_held old other)) → (other : List ℕ) → is_held now other ≡ (is_held old other || bytes_eq path other)
path_added old now path updates other =
    updates other ∙ set_or (is_eq (slice_cmp nat_cmp path other)) (is_held old other) ∙ ap (λ (b : Bool). is_held old other || b) (is_eq-slice_cmp path other)
