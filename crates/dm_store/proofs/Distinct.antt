-- Paths that differ.
use Rattle.std.proofs.Common.{◌≡◌, ℕ, List, [], ◌∷◌, ◌++◌, ap, sym, ◌∙◌, None, false, is_some, Result, Ok, Err, OnOk, OnErr}
use Rattle.std.specs.List.{IsDistinct, list_any}
use Rattle.std.specs.Str.{bytes_eq}
use Rattle.std.specs.Map.{keys_of}
use Rattle.std.proofs.lemmas.Cmp.{nat_list_eq_equiv}
use Rattle.std.proofs.lemmas.Map.Keys.{IsDistinct-push}
use Rattle.std.proofs.lemmas.Map.Made.{is_some-lookup}
use Rattle.std.proofs.lemmas.Grind.{common_steps}
use Rattle.dm_store.specs.Files.{Files, lookup, ArePathsDistinct}

-- without files no path stands twice
pub distinct-nil : (files : Files) → files ≡ [] → ArePathsDistinct files
unfolding IsDistinct
distinct-nil [] e = tt
distinct-nil (f ∷ fs) e = cc

keys_push : (files : Files) (path bytes : List ℕ) → keys_of (files ++ (path, bytes) ∷ []) ≡ keys_of files ++ path ∷ []
keys_push [] path bytes = search common_steps
keys_push (f ∷ fs) path bytes = ap (λ ks. f.0 ∷ ks) (keys_push fs path bytes)

-- a new path keeps them apart
distinct-push : (files : Files) (path bytes : List ℕ) → ArePathsDistinct files → lookup path files ≡ None → ArePathsDistinct (files ++ (path, bytes) ∷ [])
distinct-push files path bytes apart new =
    let absent : list_any (bytes_eq path) (keys_of files) ≡ false = sym (is_some-lookup (bytes_eq path) files) ∙ ap is_some new in
    rw (keys_push files path bytes) (IsDistinct-push nat_list_eq_equiv (keys_of files) path apart absent)

-- a push of a new path keeps them apart, also where it fails
pub distinct-pushed : {E : Type 0} → (files new : Files) (path bytes : List ℕ) (pushed : Result (Unit {0}) E) → ArePathsDistinct files → lookup path files ≡ None → OnOk pushed (new ≡ files ++ (path, bytes) ∷ []) → OnErr pushed (new ≡ files) → ArePathsDistinct new
distinct-pushed files new path bytes (Ok _) apart absent ok err = rw ok (distinct-push files path bytes apart absent)
distinct-pushed files new path bytes (Err e) apart absent ok err = rw err apart
