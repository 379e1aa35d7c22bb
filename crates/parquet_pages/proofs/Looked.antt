-- Values that are looked up in a list.
use Rattle.std.proofs.Common.{◌≡◌, ℕ, zero, suc, List, [], ◌∷◌, ◌++◌, length, Option, Some, None, Bool, true, false, inl, inr, refl, sym, ap, ◌∙◌}
use Rattle.std.specs.Prelude.{map, slice_get, nat_lt, option_map, ◌&&◌}
use Rattle.std.specs.List.{list_all}
use Rattle.std.proofs.lemmas.Bool.{le-ltb, ltb-false}
use Rattle.std.proofs.lemmas.Option.{slice_get_cases, slice_get_past}
use Rattle.dm_types.specs.Then.{◌>>=◌}
use Rattle.parquet_pages.specs.Entries.{all_told, looked_up}

module _ {A : Type 0} where
  -- ---- the first of them, and those behind it

  pub told_first : (first : A) (rest : List (Option A)) (more : List A) → all_told rest ≡ Some more → all_told (Some first ∷ rest) ≡ Some (first ∷ more)
  unfolding all_told
  told_first first rest more is = ap (option_map (λ xs. first ∷ xs)) is

  pub told_none_behind : (first : A) (rest : List (Option A)) → all_told rest ≡ None → all_told (Some first ∷ rest) ≡ None
  unfolding all_told
  told_none_behind first rest is = ap (option_map (λ xs. first ∷ xs)) is

  pub told_none : (rest : List (Option A)) → all_told (None ∷ rest) ≡ None
  unfolding all_told
  told_none rest = refl

  pub told_nothing : ◌≡◌ {A = Option (List A)} (all_told []) (Some [])
  unfolding all_told
  told_nothing = refl

  pub record Told (first : A) (rest : List (Option A)) (all : List A) : Type 0 where
    pub more : List A
    pub is : all_told rest ≡ Some more
    pub whole : all ≡ first ∷ more

  told_by : (first : A) (rest : List (Option A)) (all : List A) (known : Option (List A)) → all_told rest ≡ known → option_map (λ xs. first ∷ xs) known ≡ Some all → Told first rest all
  told_by first rest all None known is = absurd cc
  told_by first rest all (Some more) known is = record { more = more; is = known; whole = cc }

  pub told_parts : (first : A) (rest : List (Option A)) (all : List A) → all_told (Some first ∷ rest) ≡ Some all → Told first rest all
  unfolding all_told
  told_parts first rest all is = told_by first rest all (all_told rest) refl is

  -- ---- places

  told_get_by : {P : Type 0} (f : P → Option A) (p : P) (ps : List P) (all : List A) (k : ℕ) (one : Option A) → ((more : List A) (j : ℕ) → all_told (map f ps) ≡ Some more → (slice_get ps j >>= f) ≡ slice_get more j)
      → f p ≡ one → all_told (one ∷ map f ps) ≡ Some all → (slice_get (p ∷ ps) k >>= f) ≡ slice_get all k
  told_get_by f p ps all k None later one is = let e = sym (told_none (map f ps)) ∙ is in absurd cc
  told_get_by f p ps all zero (Some first) later one is = let t = told_parts first (map f ps) all is in rw (t.whole, one) refl
  told_get_by f p ps all (suc k) (Some first) later one is = let t = told_parts first (map f ps) all is in rw t.whole (later t.more k t.is)

  -- the k-th of them
  pub told_get : {P : Type 0} (f : P → Option A) (ps : List P) (all : List A) (k : ℕ) → all_told (map f ps) ≡ Some all → (slice_get ps k >>= f) ≡ slice_get all k
  told_get f [] all k is = let e = sym told_nothing ∙ is in let n : [] ≡ all = cc in rw (sym n) refl
  told_get f (p ∷ ps) all k is = told_get_by f p ps all k (f p) (λ more j known. told_get f ps more j known) refl is

  -- one that is missing
  pub told_missing : (xs : List (Option A)) (k : ℕ) → slice_get xs k ≡ Some None → all_told xs ≡ None
  told_missing [] k is = absurd cc
  told_missing (None ∷ xs) k is = told_none xs
  told_missing (Some x ∷ xs) zero is = absurd cc
  told_missing (Some x ∷ xs) (suc k) is = told_none_behind x xs (told_missing xs k is)

  -- one more at the end
  pub told_more : (xs : List (Option A)) (all : List A) (last : A) → all_told xs ≡ Some all → all_told (xs ++ Some last ∷ []) ≡ Some (all ++ last ∷ [])
  told_more [] all last is = let e = sym told_nothing ∙ is in let n : [] ≡ all = cc in rw (sym n) (told_first last [] [] told_nothing)
  told_more (None ∷ xs) all last is = let e = sym (told_none xs) ∙ is in absurd cc
  told_more (Some x ∷ xs) all last is =
      let t = told_parts x xs all is in
      rw t.whole (told_first x (xs ++ Some last ∷ []) (t.more ++ last ∷ []) (told_more xs t.more last t.is))

  -- ---- looking up

  found_place : (values : List A) (p : ℕ) → nat_lt p (length values) ≡ true → (x : A) × (slice_get values p ≡ Some x)
  found_place values p below = elim (slice_get_cases values p).1 as (λ _. (x : A) × (slice_get values p ≡ Some x)) [
    | inl within ↦ (within.0, within.2)
    | inr past ↦ absurd (let e : nat_lt p (length values) ≡ false = le-ltb p (length values) past.0 in cc)
  ]

  no_place : (values : List A) (p : ℕ) → nat_lt p (length values) ≡ false → slice_get values p ≡ None
  no_place values p past = slice_get_past values p (ltb-false p (length values) past)

  abbrev are_below : List A → List ℕ → Bool
  are_below values places = list_all (λ place. nat_lt place (length values)) places

  all_by : (values : List A) (p : ℕ) (ps : List ℕ) (below : Bool) → (are_below values ps ≡ true → (named : List A) × (looked_up values ps ≡ Some named)) → nat_lt p (length values) ≡ below → (below && are_below values ps) ≡ true
      → (named : List A) × (looked_up values (p ∷ ps) ≡ Some named)
  all_by values p ps true later below are =
      let one = found_place values p below in
      let more = later are in
      (one.0 ∷ more.0, ap (λ o. all_told (o ∷ map (slice_get values) ps)) one.1 ∙ told_first one.0 (map (slice_get values) ps) more.0 more.1)
  all_by values p ps false later below are = absurd cc

  pub looked_up_all : (values : List A) (places : List ℕ) → list_all (λ place. nat_lt place (length values)) places ≡ true → (named : List A) × (looked_up values places ≡ Some named)
  looked_up_all values [] are = ([], told_nothing)
  looked_up_all values (p ∷ ps) are = all_by values p ps (nat_lt p (length values)) (λ more. looked_up_all values ps more) refl are

  none_by : (values : List A) (p : ℕ) (ps : List ℕ) (below : Bool) → (are_below values ps ≡ false → looked_up values ps ≡ None) → nat_lt p (length values) ≡ below → (below && are_below values ps) ≡ false → looked_up values (p ∷ ps) ≡ None
  none_by values p ps true later below are =
      let one = found_place values p below in
      ap (λ o. all_told (o ∷ map (slice_get values) ps)) one.1 ∙ told_none_behind one.0 (map (slice_get values) ps) (later are)
  none_by values p ps false later below are = ap (λ o. all_told (o ∷ map (slice_get values) ps)) (no_place values p below) ∙ told_none (map (slice_get values) ps)

  pub looked_up_none : (values : List A) (places : List ℕ) → list_all (λ place. nat_lt place (length values)) places ≡ false → looked_up values places ≡ None
  looked_up_none values [] are = absurd cc
  looked_up_none values (p ∷ ps) are = none_by values p ps (nat_lt p (length values)) (λ more. looked_up_none values ps more) refl are
