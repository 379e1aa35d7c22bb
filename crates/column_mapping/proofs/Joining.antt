-- What one more leaf does to what the leaves carry.
use Rattle.std.proofs.Common.{◌≡◌, ℕ, ℤ, suc, ◌+◌, ◌<◌, List, [], ◌∷◌, ◌++◌, length, take, get_or, map, Bool, true, false, cond, Option, Some, None, refl, sym, ap, ◌∙◌, append-nil, arith}
use Rattle.std.specs.BTreeMap.{BTreeMap, get, Updates}
use Rattle.std.specs.Cmp.Lexicographic.{slice_cmp}
use Rattle.std.specs.List.{filter, enumerate_from}
use Rattle.std.specs.Option.{option_and_then}
use Rattle.std.specs.Ordering.{nat_cmp, int_cmp, int_eq}
use Rattle.std.specs.Str.{bytes_eq}
use Rattle.std.proofs.lemmas.List.{take_more, length-take-le, map-append}
use Rattle.std.proofs.lemmas.List.Elements.{filter-append}
use Rattle.std.proofs.lemmas.Map.Text.{btree_map_updates_str}
use Rattle.std.proofs.lemmas.Slice.Eq.{bytes_eq-Decides}
use Rattle.std.specs.Cmp.{signed_Decides}
use denote.Ref.{Bor}
use Rattle.delta_schema.specs.declared.schema.ColumnDef.{ColumnDef}
use Rattle.parquet_meta.specs.declared.metadata.LeafSchema.{LeafSchema}
use Rattle.column_mapping.specs.declared.places.PlaceChoice.{PlaceChoice}
use Rattle.column_mapping.specs.declared.places.PlaceChoice.TheVariants as choice
use Rattle.column_mapping.specs.Mapping.{shares}
use Rattle.column_mapping.specs.Places.{is_named, carriers, choice_of, place_by}
use Rattle.column_mapping.specs.Steps.{single, joined, carried, named_in, KeepsByName, KeepsById, settled, column_choice}

-- ---- one more leaf

enumerated_push : {X : Type 0} (n : ℕ) (xs : List X) (x : X) → enumerate_from n (xs ++ x ∷ []) ≡ enumerate_from n xs ++ (n + length xs, x) ∷ []
enumerated_push {X} n [] x = let e : n ≡ n + 0 = omega arith in ap (λ (k : ℕ). let p : ℕ × X = (k, x) in p ∷ []) e
enumerated_push {X} n (y ∷ ys) x =
    let e : n + 1 + length ys ≡ n + suc (length ys) = omega arith in
    ap (λ (rest : List (ℕ × X)). (n, y) ∷ rest) (enumerated_push (n + 1) ys x ∙ ap (λ (k : ℕ). enumerate_from (n + 1) ys ++ (k, x) ∷ []) e)

carriers_push : (test : LeafSchema → Bool) (leaves : List LeafSchema) (leaf : LeafSchema) → carriers test (leaves ++ leaf ∷ []) ≡ carriers test leaves ++ cond (test leaf) ((length leaves, leaf) ∷ []) []
unfolding carriers
carriers_push test leaves leaf =
    let e : 0 + length leaves ≡ length leaves = omega arith in
    ap (filter (λ (it : ℕ × LeafSchema). test it.1)) (enumerated_push 0 leaves leaf ∙ ap (λ (k : ℕ). enumerate_from 0 leaves ++ (k, leaf) ∷ []) e)
    ∙ filter-append (λ (it : ℕ × LeafSchema). test it.1) (enumerate_from 0 leaves) ((length leaves, leaf) ∷ [])

carried_push : (all : List (ℕ × LeafSchema)) (one : ℕ × LeafSchema) → carried (all ++ one ∷ []) ≡ Some (joined (carried all) (single one.1.top one.0))
carried_push [] one = refl
carried_push (first ∷ []) one = refl
carried_push (first ∷ second ∷ more) one = refl

one_more : (test : LeafSchema → Bool) (leaves : List LeafSchema) (leaf : LeafSchema) (passes : Bool) → test leaf ≡ passes → carried (carriers test (leaves ++ leaf ∷ [])) ≡ cond passes (Some (joined (carried (carriers test leaves)) (single leaf.top (length leaves)))) (carried (carriers test leaves))
one_more test leaves leaf true is = ap carried (carriers_push test leaves leaf) ∙ rw is (carried_push (carriers test leaves) (length leaves, leaf))
one_more test leaves leaf false is = ap carried (carriers_push test leaves leaf) ∙ rw is (ap carried (append-nil (carriers test leaves)))

-- ---- under each key

-- what stands under a key after a leaf's own key took what is carried there
joined_here : {K : Type 0} (test : K → LeafSchema → Bool) (leaves : List LeafSchema) (leaf : LeafSchema) (old : K → Option PlaceChoice) (now : Option PlaceChoice) (own : PlaceChoice) (mine asked : K) (same : Bool)
    → test asked leaf ≡ same → (same ≡ true → mine ≡ asked) → ((other : K) → old other ≡ carried (carriers (test other) leaves)) → own ≡ single leaf.top (length leaves)
    → now ≡ cond same (Some (joined (old mine) own)) (old asked) → now ≡ carried (carriers (test asked) (leaves ++ leaf ∷ []))
joined_here {K} test leaves leaf old now own mine asked true is found before one after =
    let e : mine ≡ asked = found refl in
    let there : old mine ≡ carried (carriers (test asked) leaves) = before mine ∙ ap (λ (k : K). carried (carriers (test k) leaves)) e in
    after ∙ rw (one, there) refl ∙ sym (one_more (test asked) leaves leaf true is)
joined_here {K} test leaves leaf old now own mine asked false is found before one after = after ∙ before asked ∙ sym (one_more (test asked) leaves leaf false is)

-- names
named_more : (old new : BTreeMap (Bor (List ℕ)) PlaceChoice) (leaves : List LeafSchema) (leaf : LeafSchema) (key : Bor (List ℕ)) (own : PlaceChoice) → KeepsByName old leaves → key.now ≡ leaf.name → own ≡ single leaf.top (length leaves)
    → Updates (λ x y. slice_cmp nat_cmp x.now y.now) old new key (Some (joined (get (λ x y. slice_cmp nat_cmp x.now y.now) old key) own)) → KeepsByName new (leaves ++ leaf ∷ [])
named_more old new leaves leaf key own before same one updates = record {
  under = λ name.
      let found : bytes_eq leaf.name name ≡ true → key.now ≡ name = λ is. same ∙ (bytes_eq-Decides leaf.name name).0 is in
      let after : named_in new name ≡ cond (bytes_eq leaf.name name) (Some (joined (named_in old key.now) own)) (named_in old name) =
      btree_map_updates_str key.now old new _ updates name ∙ ap (λ (bs : List ℕ). cond (bytes_eq bs name) (Some (joined (named_in old key.now) own)) (named_in old name)) same in
      joined_here (λ (asked : List ℕ). is_named (Some asked)) leaves leaf (named_in old) (named_in new name) own key.now name (bytes_eq leaf.name name) refl found before.under one after;
}

-- field ids
id_more : (old new : BTreeMap ℤ PlaceChoice) (leaves : List LeafSchema) (leaf : LeafSchema) (key : ℤ) (own : PlaceChoice) → KeepsById old leaves → leaf.field_id ≡ Some key → own ≡ single leaf.top (length leaves)
    → Updates int_cmp old new key (Some (joined (get int_cmp old key) own)) → KeepsById new (leaves ++ leaf ∷ [])
id_more old new leaves leaf key own before has one updates = record {
  under = λ id.
      let test : shares int_eq leaf.field_id (Some id) ≡ int_eq key id = rw has refl in
      joined_here (λ (asked : ℤ) (it : LeafSchema). shares int_eq it.field_id (Some asked)) leaves leaf (get int_cmp old) (get int_cmp new id) own key id (int_eq key id) test (λ is. (signed_Decides key id).0 is) before.under one (updates.0 id);
}

id_skipped : (places : BTreeMap ℤ PlaceChoice) (leaves : List LeafSchema) (leaf : LeafSchema) → KeepsById places leaves → leaf.field_id ≡ None → KeepsById places (leaves ++ leaf ∷ [])
id_skipped places leaves leaf before none = record {
  under = λ id.
      let test : shares int_eq leaf.field_id (Some id) ≡ false = rw none refl in
      before.under id ∙ sym (one_more (λ (it : LeafSchema). shares int_eq it.field_id (Some id)) leaves leaf false test);
}

-- ---- one leaf after another

-- the front of a list, with the next element
front_more : {X : Type 0} (xs : List X) (i : ℕ) (x : X) → i < length xs → x ≡ get_or xs i x → take (i + 1) xs ≡ take i xs ++ x ∷ []
front_more {X} xs i x within is = take_more xs i x within ∙ ap (λ (y : X). take i xs ++ y ∷ []) (sym is)

front_length : {X : Type 0} (xs : List X) (i : ℕ) → i < length xs → i ≡ length (take i xs)
front_length xs i within = sym (length-take-le i xs (omega arith))

pub names_step : (old new : BTreeMap (Bor (List ℕ)) PlaceChoice) (leaves : List LeafSchema) (at : ℕ) (leaf : LeafSchema) (key : Bor (List ℕ)) (own : PlaceChoice) → KeepsByName old (take at leaves) → at < length leaves → leaf ≡ get_or leaves at leaf
    → key.now ≡ leaf.name → own ≡ single leaf.top at → Updates (λ x y. slice_cmp nat_cmp x.now y.now) old new key (Some (joined (get (λ x y. slice_cmp nat_cmp x.now y.now) old key) own)) → KeepsByName new (take (at + 1) leaves)
names_step old new leaves at leaf key own before within is same one updates =
    rw (front_more leaves at leaf within is) (named_more old new (take at leaves) leaf key own before same (one ∙ ap (single leaf.top) (front_length leaves at within)) updates)

pub ids_step : (old new : BTreeMap ℤ PlaceChoice) (leaves : List LeafSchema) (at : ℕ) (leaf : LeafSchema) (key : ℤ) (own : PlaceChoice) → KeepsById old (take at leaves) → at < length leaves → leaf ≡ get_or leaves at leaf
    → leaf.field_id ≡ Some key → own ≡ single leaf.top at → Updates int_cmp old new key (Some (joined (get int_cmp old key) own)) → KeepsById new (take (at + 1) leaves)
ids_step old new leaves at leaf key own before within is has one updates =
    rw (front_more leaves at leaf within is) (id_more old new (take at leaves) leaf key own before has (one ∙ ap (single leaf.top) (front_length leaves at within)) updates)

pub ids_stay : (places : BTreeMap ℤ PlaceChoice) (leaves : List LeafSchema) (at : ℕ) (leaf : LeafSchema) → KeepsById places (take at leaves) → at < length leaves → leaf ≡ get_or leaves at leaf → leaf.field_id ≡ None → KeepsById places (take (at + 1) leaves)
ids_stay places leaves at leaf before within is none = rw (front_more leaves at leaf within is) (id_skipped places (take at leaves) leaf before none)

pub carried_step : (test : LeafSchema → Bool) (leaves : List LeafSchema) (at : ℕ) (leaf : LeafSchema) (found now : Option PlaceChoice) (own : PlaceChoice) → found ≡ carried (carriers test (take at leaves)) → at < length leaves → leaf ≡ get_or leaves at leaf
    → own ≡ single leaf.top at → now ≡ cond (test leaf) (Some (joined found own)) found → now ≡ carried (carriers test (take (at + 1) leaves))
carried_step test leaves at leaf found now own before within is one after =
    rw (front_more leaves at leaf within is) (after ∙ rw (before, one ∙ ap (single leaf.top) (front_length leaves at within)) (sym (one_more test (take at leaves) leaf (test leaf) refl)))

-- before the first leaf
pub names_none : (places : BTreeMap (Bor (List ℕ)) PlaceChoice) → places.entries ≡ [] → KeepsByName places []
unfolding carriers
names_none places none = record { under = λ name. rw none refl }

pub ids_none : (places : BTreeMap ℤ PlaceChoice) → places.entries ≡ [] → KeepsById places []
unfolding carriers
ids_none places none = record { under = λ id. rw none refl }

pub carried_none : (test : LeafSchema → Bool) → None ≡ carried (carriers test [])
unfolding carriers
carried_none test = refl

-- ---- columns

-- no element carries what has no key
no_key : (leaves : List LeafSchema) (n : ℕ) (test : LeafSchema → Bool) → ((leaf : LeafSchema) → test leaf ≡ false) → filter (λ (it : ℕ × LeafSchema). test it.1) (enumerate_from n leaves) ≡ []
no_key [] n test none = refl
no_key (leaf ∷ leaves) n test none = rw (none leaf) (no_key leaves (n + 1) test none)

no_carrier : (test : LeafSchema → Bool) (leaves : List LeafSchema) → ((leaf : LeafSchema) → test leaf ≡ false) → None ≡ carried (carriers test leaves)
unfolding carriers
no_carrier test leaves none = rw (no_key leaves 0 test none) refl

unshared : {A : Type 0} (same : A → A → Bool) (it : Option A) → shares same it None ≡ false
unshared same None = refl
unshared same (Some a) = refl

unnamed : (leaves : List LeafSchema) → None ≡ carried (carriers (is_named None) leaves)
unnamed leaves = no_carrier (is_named None) leaves (λ leaf. refl)

without_id : (leaves : List LeafSchema) → None ≡ carried (carriers (λ leaf. shares int_eq leaf.field_id None) leaves)
without_id leaves = no_carrier (λ leaf. shares int_eq leaf.field_id None) leaves (λ leaf. unshared int_eq leaf.field_id)

-- where a column is, by what the leaves carry
settled_is : (nullable : Bool) (all : List (ℕ × LeafSchema)) → settled nullable (carried all) ≡ choice_of nullable all
settled_is nullable [] = refl
settled_is nullable (one ∷ []) = refl
settled_is nullable (first ∷ second ∷ more) = refl

pub settled-carried : (nullable : Bool) (test : LeafSchema → Bool) (leaves : List LeafSchema) (found : Option PlaceChoice) → found ≡ carried (carriers test leaves) → settled nullable found ≡ choice_of nullable (carriers test leaves)
settled-carried nullable test leaves found is = rw is (settled_is nullable (carriers test leaves))

column_choice-carried : (test : ColumnDef → LeafSchema → Bool) (leaves : List LeafSchema) (column : ColumnDef) (found : Option PlaceChoice) → found ≡ carried (carriers (test column) leaves) → column_choice column found ≡ place_by test leaves column
column_choice-carried test leaves column found is = ap (λ (it : PlaceChoice). cond column.partition choice.Partition it) (settled-carried column.nullable (test column) leaves found is)

-- what a column's key finds
pub named_found : (places : BTreeMap (Bor (List ℕ)) PlaceChoice) (leaves : List LeafSchema) (name : Option (List ℕ)) (found : Option PlaceChoice) → KeepsByName places leaves → found ≡ option_and_then (named_in places) name → found ≡ carried (carriers (is_named name) leaves)
named_found places leaves None found keeps is = is ∙ unnamed leaves
named_found places leaves (Some name) found keeps is = is ∙ keeps.under name

pub id_found : (places : BTreeMap ℤ PlaceChoice) (leaves : List LeafSchema) (id : Option ℤ) (found : Option PlaceChoice) → KeepsById places leaves → found ≡ option_and_then (get int_cmp places) id → found ≡ carried (carriers (λ leaf. shares int_eq leaf.field_id id) leaves)
id_found places leaves None found keeps is = is ∙ without_id leaves
id_found places leaves (Some id) found keeps is = is ∙ keeps.under id

pub choices_more : (test : ColumnDef → LeafSchema → Bool) (leaves : List LeafSchema) (columns : List ColumnDef) (i : ℕ) (column : ColumnDef) (found : Option PlaceChoice) (old now : List PlaceChoice) (own : PlaceChoice)
    → old ≡ map (place_by test leaves) (take i columns) → i < length columns → column ≡ get_or columns i column → found ≡ carried (carriers (test column) leaves) → own ≡ column_choice column found → now ≡ old ++ own ∷ [] → now ≡ map (place_by test leaves) (take (i + 1) columns)
choices_more test leaves columns i column found old now own before within is finds one after =
    after ∙ rw (front_more columns i column within is, map-append) (ap (λ (xs : List PlaceChoice). xs ++ own ∷ []) before ∙ ap (λ (x : PlaceChoice). map (place_by test leaves) (take i columns) ++ x ∷ []) (one ∙ column_choice-carried test leaves column found finds))
