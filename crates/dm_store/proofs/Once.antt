-- A listing has each name once.
use Rattle.std.proofs.Common.{◌≡◌, ℕ, List, [], ◌∷◌, ◌++◌, false, Option, None, Some, refl, ap, sym, ◌∙◌}
use Rattle.std.specs.List.{IsDistinct, AllByRecursion, cons_option}
use Rattle.std.specs.Str.{bytes_eq}
use Rattle.std.specs.Map as entries
use Rattle.std.proofs.lemmas.Bool.{false_from_ne_true}
use Rattle.std.proofs.lemmas.Cmp.{nat_list_eq_equiv}
use Rattle.std.proofs.lemmas.Map.Keys.{IsDistinct-cons, IsDistinct-IsPermutation}
use Rattle.std.proofs.lemmas.Slice.Eq.{bytes_eq-Decides}
use Rattle.dm_store.specs.Files.{Files, ArePathsDistinct, name_below, names_below, ListsOnce}
use Rattle.dm_store.proofs.Listing.{name_below-path}

-- two names of different paths of a folder differ
names_differ : (dir name path other_name other : List ℕ) → path ≡ dir ++ 47 ∷ name → bytes_eq path other ≡ false → name_below dir other ≡ Some other_name → bytes_eq name other_name ≡ false
names_differ dir name path other_name other is apart found =
    false_from_ne_true _ (λ yes.
    let same : name ≡ other_name = (bytes_eq-Decides name other_name).0 yes in
    let paths : path ≡ other = is ∙ ap (λ n. dir ++ 47 ∷ n) same ∙ sym (name_below-path dir other other_name found) in
    let both = (bytes_eq-Decides path other).1 paths in
    cc)

push_other : (name : List ℕ) (found : Option (List ℕ)) (names : List (List ℕ)) → ((n : List ℕ) → found ≡ Some n → bytes_eq name n ≡ false) → AllByRecursion (λ n. bytes_eq name n ≡ false) names → AllByRecursion (λ n. bytes_eq name n ≡ false) (cons_option found names)
push_other name None names differs rest = rest
push_other name (Some n) names differs rest = (differs n refl, rest)

others : (dir name path : List ℕ) (files : Files) → path ≡ dir ++ 47 ∷ name → AllByRecursion (λ p. bytes_eq path p ≡ false) (entries.keys_of files) → AllByRecursion (λ n. bytes_eq name n ≡ false) (names_below dir files)
others dir name path [] is apart = tt
others dir name path (file ∷ files) is apart =
    push_other name (name_below dir file.0) (names_below dir files) (λ n found. names_differ dir name path n file.0 is apart.0 found) (others dir name path files is apart.1)

push_name : (found : Option (List ℕ)) (names : List (List ℕ)) → ((n : List ℕ) → found ≡ Some n → AllByRecursion (λ m. bytes_eq n m ≡ false) names) → IsDistinct bytes_eq names → IsDistinct bytes_eq (cons_option found names)
push_name None names differs rest = rest
push_name (Some n) names differs rest = IsDistinct-cons bytes_eq n names (differs n refl) rest

distinct-names : (dir : List ℕ) (files : Files) → ArePathsDistinct files → IsDistinct bytes_eq (names_below dir files)
unfolding IsDistinct
distinct-names dir [] apart = tt
distinct-names dir (file ∷ files) apart =
    push_name (name_below dir file.0) (names_below dir files) (λ n found. others dir n file.0 files (name_below-path dir file.0 n found) apart.0) (distinct-names dir files apart.1)

pub lists-once : ListsOnce
lists-once dir files names apart lists = IsDistinct-IsPermutation bytes_eq nat_list_eq_equiv.symm (names_below dir files) names lists (distinct-names dir files apart)
