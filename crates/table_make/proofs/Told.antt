-- Elements one after another.
use Rattle.std.proofs.Common.{◌≡◌, ℕ, ◌+◌, ◌<◌, ◌≤◌, List, [], ◌∷◌, ◌++◌, length, take, drop, get_or, map, min, Bool, Option, Some, None, sym, ap, ◌∙◌}
use Rattle.std.specs.List.{cons_option, filter_map, reduce}
use Rattle.std.proofs.Math.ListN.{drop_of_length-le}
use Rattle.std.proofs.lemmas.List.{append_assoc, map-append, take_more}
use Rattle.table_make.proofs.Following.{here}
use Rattle.sql_tree.specs.declared.tree.Name.{Name}
use Rattle.table_make.specs.Steps.{earlier}
use Rattle.table_make.proofs.Least.{then_one}
use Rattle.table_make.specs.Elements.{each_behind, is_among, told}

module _ {A : Type 0} (xs : List A) where
  pub front_more : (i : ℕ) (a : A) → i < length xs → a ≡ get_or xs i a → take (i + 1) xs ≡ take i xs ++ a ∷ []
  front_more i a within is = take_more xs i a within ∙ ap (λ (y : A). take i xs ++ y ∷ []) (sym is)

  -- what is left, with what is before it
  pub left_behind : (i : ℕ) (a : A) → i < length xs → a ≡ get_or xs i a
      → each_behind (take i xs) (drop i xs) ≡ (take i xs, a) ∷ each_behind (take (i + 1) xs) (drop (i + 1) xs)
  left_behind i a within is =
      ap (each_behind (take i xs)) (here xs i a within is)
      ∙ ap (λ (before : List A). (take i xs, a) ∷ each_behind before (drop (i + 1) xs)) (sym (front_more i a within is))

  pub none_behind : (i : ℕ) → length xs ≤ i → each_behind (take i xs) (drop i xs) ≡ []
  none_behind i beyond = ap (each_behind (take i xs)) (drop_of_length-le xs beyond)

-- the least place of what is found, where each is looked at with those before it
pub step_behind : {A : Type 0} (f : List A × A → Option ℕ) (xs : List A) (i : ℕ) (a : A) (found now total : Option ℕ) → i < length xs → a ≡ get_or xs i a
    → now ≡ earlier found (f (take i xs, a))
    → total ≡ earlier found (reduce min (filter_map f (each_behind (take i xs) (drop i xs))))
    → total ≡ earlier now (reduce min (filter_map f (each_behind (take (i + 1) xs) (drop (i + 1) xs))))
step_behind {A = A} f xs i a found now total within is new before =
    before
    ∙ ap (λ (rest : List (List A × A)). earlier found (reduce min (filter_map f rest))) (left_behind xs i a within is)
    ∙ then_one f (take i xs, a) (each_behind (take (i + 1) xs) (drop (i + 1) xs)) found now new

-- ---- elements of a sort, whose names are told apart

module _ {B : Type 0} (name_of : B → Name) where
  abbrev pub names : List (B × Bool) → List Name
  names done = map name_of (map (λ one. one.0) done)

  -- those that are told, and those that are left
  abbrev pub with_left : List (B × Bool) → List B → List (B × Bool)
  with_left done left = done ++ map (told name_of) (each_behind (map (λ one. one.0) done) left)

  pub more : (done : List (B × Bool)) (b : B) (left : List B) (doubled : Bool) → doubled ≡ is_among (names done) (name_of b)
      → with_left done (b ∷ left) ≡ with_left (done ++ (b, doubled) ∷ []) left
  more done b left doubled is =
      ap (λ (it : Bool). done ++ (b, it) ∷ map (told name_of) (each_behind (map (λ one. one.0) done ++ b ∷ []) left)) (sym is)
      ∙ sym (append_assoc done ((b, doubled) ∷ []) (map (told name_of) (each_behind (map (λ one. one.0) done ++ b ∷ []) left)))
      ∙ ap (λ (before : List B). (done ++ (b, doubled) ∷ []) ++ map (told name_of) (each_behind before left)) (sym (map-append (λ (one : B × Bool). one.0) done ((b, doubled) ∷ [])))

  pub names_more : (done : List (B × Bool)) (b : B) (doubled : Bool) → names (done ++ (b, doubled) ∷ []) ≡ names done ++ name_of b ∷ []
  names_more done b doubled =
      ap (map name_of) (map-append (λ (one : B × Bool). one.0) done ((b, doubled) ∷ []))
      ∙ map-append name_of (map (λ one. one.0) done) (b ∷ [])

-- ---- those of a sort among the elements that are left

module _ {E B : Type 0} (pick : E → Option B) (xs : List E) where
  pub picked : (i : ℕ) (e : E) (b : B) → i < length xs → e ≡ get_or xs i e → pick e ≡ Some b → filter_map pick (drop i xs) ≡ b ∷ filter_map pick (drop (i + 1) xs)
  picked i e b within is one =
      ap (filter_map pick) (here xs i e within is)
      ∙ ap (λ (it : Option B). cons_option it (filter_map pick (drop (i + 1) xs))) one

  pub passed : (i : ℕ) (e : E) → i < length xs → e ≡ get_or xs i e → pick e ≡ None → filter_map pick (drop i xs) ≡ filter_map pick (drop (i + 1) xs)
  passed i e within is none =
      ap (filter_map pick) (here xs i e within is)
      ∙ ap (λ (it : Option B). cons_option it (filter_map pick (drop (i + 1) xs))) none

  pub none_left : (i : ℕ) → length xs ≤ i → filter_map pick (drop i xs) ≡ []
  none_left i beyond = ap (filter_map pick) (drop_of_length-le xs beyond)
