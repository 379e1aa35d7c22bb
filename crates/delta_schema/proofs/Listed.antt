-- The other members of a column, as they stand in its metadata.
use Rattle.std.proofs.Common.{◌≡◌, ℕ, ◌-◌, ◌≤◌, List, [], ◌∷◌, Bool, true, false, cond, Option, Some, None, Ordering, Less, Equal, Greater, nat_cmp, true≢false, refl, sym, ap, ◌∙◌, subst, arith}
use Rattle.std.specs.Prelude.{⊤}
use Rattle.std.specs.List.{AllByRecursion}
use Rattle.std.specs.List.Sorted.{IsStrictlySortedBy}
use Rattle.std.specs.Map.{keys_of}
use Rattle.std.specs.Ordering.{is_eq, match_ordering}
use Rattle.std.specs.Cmp.Lexicographic.{slice_cmp}
use Rattle.std.proofs.lemmas.Map.Text.{is_eq-slice_cmp}
use Rattle.std.proofs.lemmas.Slice.Eq.{bytes_eq-Decides}
use Rattle.serde_json.specs.Data.{Data, null, boolean, number, string, array, object, Items, no_items, item, Members, no_members, member, put}
use Rattle.serde_json.specs.Find.{get_member}
use Rattle.serde_json.specs.Written.{compact_text}
use Rattle.json_text.specs.Plain.{IsAbove, IsPlain, ArePlainItems, ArePlain}
use Rattle.json_text.proofs.Plain.{joined, joined-one, joined-nil, put-last, read-compact_text, AreBefore, AreBefore-one, AreBefore-none}
use Rattle.delta_actions.specs.Writable.{AreOrdered}
use Rattle.delta_actions.specs.Written.{Fields, members_onto, put_some}
use Rattle.delta_schema.specs.Metadata.{is_kept, is_whole, other_members}
use Rattle.delta_schema.specs.Written.{other_fields, whole_value}
use Rattle.delta_schema.specs.Writable.{IsOther}

pub same_name : (a b : List ℕ) → slice_cmp nat_cmp a b ≡ Equal → a ≡ b
same_name a b is = (bytes_eq-Decides a b).0 (sym (is_eq-slice_cmp a b) ∙ ap is_eq is)

-- ---- a value that is plain within some depth is so within more

mutual
  pub plain_within : (n m : ℕ) (d : Data) → n ≤ m → IsPlain n d → IsPlain m d
  plain_within n m null more h = tt
  plain_within n m (boolean b) more h = tt
  plain_within n m (number x) more h = h
  plain_within n m (string s) more h = tt
  plain_within n m (array ds) more h = (omega (arith, h.0), items_within (n - 1) (m - 1) ds (omega arith) h.1)
  plain_within n m (object ms) more h = (omega (arith, h.0), members_within (n - 1) (m - 1) ms (omega arith) h.1)

  items_within : (n m : ℕ) (ds : Items) → n ≤ m → ArePlainItems n ds → ArePlainItems m ds
  items_within n m no_items more h = tt
  items_within n m (item d ds) more h = (plain_within n m d more h.0, items_within n m ds more h.1)

  members_within : (n m : ℕ) (ms : Members) → n ≤ m → ArePlain n ms → ArePlain m ms
  members_within n m no_members more h = tt
  members_within n m (member k d ms) more h = (plain_within n m d more h.0, h.1, members_within n m ms more h.2)

-- the value of a member's text
pub value_of : (text : List ℕ) (d : Data) → text ≡ compact_text d → is_whole d ≡ true → IsPlain 123 d → whole_value text ≡ Some d
value_of text d is whole plain =
    ap whole_value is ∙ rw (read-compact_text d (plain_within 123 127 d (omega arith) plain), whole) refl

-- ---- the members as a list

abbrev listed_by : List ℕ → Option Data → Members → Members
listed_by k None ms = ms
listed_by k (Some d) ms = member k d ms

abbrev pub listed : List (List ℕ × List ℕ) → Members
listed [] = no_members
listed (p ∷ ps) = listed_by p.0 (whole_value p.1) (listed ps)

above_by : (q k : List ℕ) (o : Option Data) (ms : Members) → slice_cmp nat_cmp q k ≡ Less → IsAbove q ms → IsAbove q (listed_by k o ms)
above_by q k None ms less h = h
above_by q k (Some d) ms less h = (less, h)

above_listed : (q : List ℕ) (ps : List (List ℕ × List ℕ)) → AllByRecursion (λ y. slice_cmp nat_cmp q y ≡ Less) (keys_of ps) → IsAbove q (listed ps)
above_listed q [] h = tt
above_listed q (p ∷ ps) h = above_by q p.0 (whole_value p.1) (listed ps) h.0 (above_listed q ps h.1)

onto_by : (f : Members) (k : List ℕ) (o : Option Data) (rest : Members) (more : Fields) → AreBefore f (listed_by k o rest) → IsAbove k rest
    → ((g : Members) → AreBefore g rest → members_onto g more ≡ joined g rest) → members_onto (put_some k o f) more ≡ joined f (listed_by k o rest)
onto_by f k None rest more before above later = later f before
onto_by f k (Some d) rest more before above later =
    ap (λ m. members_onto m more) (put-last f k d before.0) ∙ later (joined f (member k d no_members)) (AreBefore-one f k d rest before.1 above) ∙ joined-one f k d rest

onto_listed : (f : Members) (ps : List (List ℕ × List ℕ)) → AreOrdered ps → AreBefore f (listed ps) → members_onto f (other_fields ps) ≡ joined f (listed ps)
unfolding IsStrictlySortedBy
onto_listed f [] h before = joined-nil f
onto_listed f (p ∷ ps) h before = onto_by f p.0 (whole_value p.1) (listed ps) (other_fields ps) before (above_listed p.0 ps h.0) (λ g first. onto_listed g ps h.1 first)

pub others_listed : (ps : List (List ℕ × List ℕ)) → AreOrdered ps → members_onto no_members (other_fields ps) ≡ listed ps
others_listed ps h = onto_listed no_members ps h (AreBefore-none (listed ps))

-- ---- they are the others of what they are listed in

other_back : (i : Bool) (p : List ℕ × List ℕ) (d : Data) (ms : Members) → p.1 ≡ compact_text d → is_kept i p.0 ≡ false → other_members i (member p.0 d ms) ≡ p ∷ other_members i ms
other_back i p d ms is free = rw (free, ← is) refl

pub others_back : (i : Bool) (ps : List (List ℕ × List ℕ)) → AllByRecursion (IsOther i) ps → other_members i (listed ps) ≡ ps
others_back i [] h = refl
others_back i (p ∷ ps) h =
    let v = h.0.value in
    rw (value_of p.1 v.0 v.1 v.2 v.3) (other_back i p v.0 (listed ps) v.1 h.0.free ∙ ap (λ rest. p ∷ rest) (others_back i ps h.1))

-- ---- a kept member among them changes nothing

others_by : (o : Ordering) (i : Bool) (k l : List ℕ) (d e : Data) (ms : Members) → slice_cmp nat_cmp k l ≡ o → is_kept i k ≡ true → other_members i (put k d ms) ≡ other_members i ms
    → other_members i (match_ordering o (member k d (member l e ms)) (member l d ms) (member l e (put k d ms))) ≡ other_members i (member l e ms)
others_by Less i k l d e ms is kept later = rw kept refl
others_by Equal i k l d e ms is kept later =
    let kept_l : is_kept i l ≡ true = subst (λ (x : List ℕ). is_kept i x ≡ true) (same_name k l is) kept in
    rw kept_l refl
others_by Greater i k l d e ms is kept later = ap (λ rest. cond (is_kept i l) rest ((l, compact_text e) ∷ rest)) later

others-put : (i : Bool) (k : List ℕ) (d : Data) (ms : Members) → is_kept i k ≡ true → other_members i (put k d ms) ≡ other_members i ms
others-put i k d no_members kept = rw kept refl
others-put i k d (member l e ms) kept = others_by _ i k l d e ms refl kept (others-put i k d ms kept)

others-put_some : (i : Bool) (k : List ℕ) (o : Option Data) (ms : Members) → is_kept i k ≡ true → other_members i (put_some k o ms) ≡ other_members i ms
others-put_some i k None ms kept = refl
others-put_some i k (Some d) ms kept = others-put i k d ms kept

abbrev pub AreKept : Bool → Fields → Type 0
AreKept i [] = ⊤
AreKept i (f ∷ fs) = (is_kept i f.0 ≡ true) × AreKept i fs

pub others-onto : (i : Bool) (fs : Fields) (ms : Members) → AreKept i fs → other_members i (members_onto ms fs) ≡ other_members i ms
others-onto i [] ms kept = refl
others-onto i (f ∷ fs) ms kept = others-onto i fs (put_some f.0 f.1 ms) kept.1 ∙ others-put_some i f.0 f.1 ms kept.0

-- ---- none of them has a kept name

get_by : (o : Ordering) (i : Bool) (q l : List ℕ) (e : Data) (found : Option Data) → slice_cmp nat_cmp q l ≡ o → is_kept i q ≡ true → is_kept i l ≡ false → match_ordering o found (Some e) found ≡ found
get_by Less i q l e found is kept free = refl
get_by Equal i q l e found is kept free = absurd (true≢false (sym kept ∙ subst (λ (x : List ℕ). is_kept i x ≡ false) (sym (same_name q l is)) free))
get_by Greater i q l e found is kept free = refl

pub get_none : (i : Bool) (q : List ℕ) (ps : List (List ℕ × List ℕ)) → AllByRecursion (IsOther i) ps → is_kept i q ≡ true → get_member q (listed ps) ≡ None
get_none i q [] h kept = refl
get_none i q (p ∷ ps) h kept =
    let v = h.0.value in
    ap (λ o. get_member q (listed_by p.0 o (listed ps))) (value_of p.1 v.0 v.1 v.2 v.3) ∙ get_by _ i q p.0 v.0 (get_member q (listed ps)) refl kept h.0.free ∙ get_none i q ps h.1 kept
