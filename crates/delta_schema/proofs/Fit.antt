-- Values as they are read: numbers in their range, objects in order, and nested within a depth.
use Rattle.std.proofs.Common.{◌≡◌, ℕ, pos, negsuc, zero, suc, ◌-◌, ◌<◌, ◌≤◌, ◌^◌, List, Bool, true, false, ◌&&◌, cond, Option, Some, None, option_map, option_and_then, Ordering, Less, Equal, Greater, nat_cmp, refl, subst, arith}
use Rattle.std.specs.Prelude.{⊤, IfSome, nat_lt, nat_le, slice_index, drop, ◌==◌}
use Rattle.std.specs.Ordering.{match_ordering}
use Rattle.std.specs.Cmp.Lexicographic.{slice_cmp}
use Rattle.std.specs.Float.{binary64, float_is_finite}
use Rattle.std.proofs.lemmas.Bool.{and_parts, ltb-true, leb-true}
use Rattle.fast_float.specs.Text.{minus, Parts, scan, digits_of, nearest, with_sign}
use Rattle.json.specs.Json as json
use Rattle.json.specs.Lex.{tokens}
use Rattle.serde_json.specs.Data.{Num, unsigned, negative, float, Data, null, boolean, number, string, array, object, Items, no_items, item, Members, no_members, member, put, depth, items_depth, members_depth}
use Rattle.serde_json.specs.Find.{get, get_member}
use Rattle.serde_json.specs.Read.{float_of, is_integer, max_depth, number_from, number_of, of_json, of_items, of_members, read}
use Rattle.serde_json.proofs.Nesting.{depth-read}
use Rattle.json_text.specs.Plain.{AreSorted, AreSortedItems, IsAbove, IsPlain, ArePlain, ArePlainItems, IsSorted}
use Rattle.json_text.proofs.Ordered.{sorted-read}
use Rattle.delta_schema.specs.Metadata.{is_whole, are_whole_items, are_whole_members}

abbrev pub IsKnown : Num → Type 0
IsKnown (unsigned n) = n < 2 ^ 64
IsKnown (negative (pos n)) = ⊥
IsKnown (negative (negsuc n)) = n < 2 ^ 63
IsKnown (float x) = ⊤

abbrev mutual
  IsRanged : Data → Type 0
  IsRanged null = ⊤
  IsRanged (boolean b) = ⊤
  IsRanged (number x) = IsKnown x
  IsRanged (string s) = ⊤
  IsRanged (array ds) = AreRangedItems ds
  IsRanged (object ms) = AreRanged ms

  AreRangedItems : Items → Type 0
  AreRangedItems no_items = ⊤
  AreRangedItems (item d ds) = IsRanged d × AreRangedItems ds

  AreRanged : Members → Type 0
  AreRanged no_members = ⊤
  AreRanged (member k d ms) = IsRanged d × AreRanged ms

-- ---- numbers

if_any : {A : Type 0} (o : Option A) → IfSome o (λ _. ⊤)
if_any None = tt
if_any (Some a) = tt

if_map : {A B : Type 0} (P : A → Type 0) (Q : B → Type 0) (f : A → B) (o : Option A) → ((a : A) → P a → Q (f a)) → IfSome o P → IfSome (option_map f o) Q
if_map P Q f None k h = tt
if_map P Q f (Some a) k h = k a h

if_then : {A B : Type 0} (P : A → Type 0) (Q : B → Type 0) (f : A → Option B) (o : Option A) → ((a : A) → P a → IfSome (f a) Q) → IfSome o P → IfSome (option_and_then f o) Q
if_then P Q f None k h = tt
if_then P Q f (Some a) k h = k a h

float_by : (finite : Bool) (x : Num) → IsKnown x → IfSome (cond finite (Some x) None) IsKnown
float_by true x h = h
float_by false x h = tt

float_known : (sign : Bool) (p : Parts) → IfSome (float_of sign p) IsKnown
float_known sign p = float_by (float_is_finite (nearest binary64 sign p)) (float (nearest binary64 sign p)) tt

plus_by : (p : Parts) (fits : Bool) → (is_integer p && nat_lt (digits_of p) (2 ^ 64)) ≡ fits → IfSome (cond fits (Some (unsigned (digits_of p))) (float_of false p)) IsKnown
plus_by p true is = ltb-true (digits_of p) (2 ^ 64) (and_parts (is_integer p) (nat_lt (digits_of p) (2 ^ 64)) is).1
plus_by p false is = float_known false p

below_zero : (n : ℕ) → 0 < n → n ≤ 2 ^ 63 → IsKnown (negative (with_sign true n))
below_zero zero some few = absurd (omega (arith, some))
below_zero (suc n) some few = omega (arith, few)

minus_by : (p : Parts) (fits : Bool) → (is_integer p && nat_lt 0 (digits_of p) && nat_le (digits_of p) (2 ^ 63)) ≡ fits
    → IfSome (cond fits (Some (negative (with_sign true (digits_of p)))) (float_of true p)) IsKnown
minus_by p true is =
    let parts = and_parts (is_integer p && nat_lt 0 (digits_of p)) (nat_le (digits_of p) (2 ^ 63)) is in
    let first = and_parts (is_integer p) (nat_lt 0 (digits_of p)) parts.0 in
    below_zero (digits_of p) (ltb-true 0 (digits_of p) first.1) (leb-true (digits_of p) (2 ^ 63) parts.1)
minus_by p false is = float_known true p

number_from_known : (sign : Bool) (p : Parts) → IfSome (number_from sign p) IsKnown
number_from_known false p = plus_by p _ refl
number_from_known true p = minus_by p _ refl

signed_by : (b : Bool) (x y : Option Num) → IfSome x IsKnown → IfSome y IsKnown → IfSome (cond b x y) IsKnown
signed_by true x y h k = h
signed_by false x y h k = k

number_known : (s : List ℕ) → IfSome (number_of s) IsKnown
unfolding number_of
number_known s =
    signed_by (slice_index s 0 == minus) (number_from true (scan (drop 1 s))) (number_from false (scan s)) (number_from_known true (scan (drop 1 s))) (number_from_known false (scan s))

-- ---- values

ranged_by : (o : Ordering) (a b c : Members) → AreRanged a → AreRanged b → AreRanged c → AreRanged (match_ordering o a b c)
ranged_by Less a b c x y z = x
ranged_by Equal a b c x y z = y
ranged_by Greater a b c x y z = z

ranged_put : (k : List ℕ) (d : Data) (ms : Members) → IsRanged d → AreRanged ms → AreRanged (put k d ms)
ranged_put k d no_members x h = (x, tt)
ranged_put k d (member l e ms) x h = ranged_by (slice_cmp nat_cmp k l) _ _ _ (x, h) (x, h.1) (h.0, ranged_put k d ms x h.1)

mutual
  of_json_ranged : (j : json.Json) → IfSome (of_json j) IsRanged
  of_json_ranged json.null = tt
  of_json_ranged (json.boolean b) = tt
  of_json_ranged (json.number s) = if_map IsKnown IsRanged number (number_of s) (λ a h. h) (number_known s)
  of_json_ranged (json.string s) = tt
  of_json_ranged (json.array js) = if_map AreRangedItems IsRanged array (of_items js) (λ a h. h) (of_items_ranged js)
  of_json_ranged (json.object ms) = if_map AreRanged IsRanged object (of_members ms no_members) (λ a h. h) (of_members_ranged ms no_members tt)

  of_items_ranged : (js : json.Items) → IfSome (of_items js) AreRangedItems
  of_items_ranged json.no_items = tt
  of_items_ranged (json.item j js) =
      if_then IsRanged AreRangedItems (λ d. option_map (item d) (of_items js)) (of_json j) (λ d x. if_map AreRangedItems AreRangedItems (item d) (of_items js) (λ ds y. (x, y)) (of_items_ranged js)) (of_json_ranged j)

  of_members_ranged : (ms : json.Members) (found : Members) → AreRanged found → IfSome (of_members ms found) AreRanged
  of_members_ranged json.no_members found h = h
  of_members_ranged (json.member k j ms) found h =
      if_then IsRanged AreRanged (λ d. of_members ms (put k d found)) (of_json j) (λ d x. of_members_ranged ms (put k d found) (ranged_put k d found x h)) (of_json_ranged j)

ranged_read : (text : List ℕ) (d : Data) → read text ≡ Some d → IsRanged d
ranged_read text d e =
    subst (λ o. IfSome o IsRanged) e (if_then (λ _. ⊤) IsRanged of_json (option_and_then (λ p. json.if_last p.0 p.1) (json.value max_depth (tokens text))) (λ j _. of_json_ranged j) (if_any _))

-- ---- all of it within a depth

abbrev mutual
  pub IsFit : ℕ → Data → Type 0
  IsFit n null = ⊤
  IsFit n (boolean b) = ⊤
  IsFit n (number x) = IsKnown x
  IsFit n (string s) = ⊤
  IsFit n (array ds) = (0 < n) × AreFitItems (n - 1) ds
  IsFit n (object ms) = (0 < n) × AreFit (n - 1) ms

  pub AreFitItems : ℕ → Items → Type 0
  AreFitItems n no_items = ⊤
  AreFitItems n (item d ds) = IsFit n d × AreFitItems n ds

  pub AreFit : ℕ → Members → Type 0
  AreFit n no_members = ⊤
  AreFit n (member k d ms) = IsFit n d × IsAbove k ms × AreFit n ms

mutual
  fit : (n : ℕ) (d : Data) → IsSorted d → IsRanged d → depth d ≤ n → IsFit n d
  fit n null s r h = tt
  fit n (boolean b) s r h = tt
  fit n (number x) s r h = r
  fit n (string t) s r h = tt
  fit n (array ds) s r h = (omega (arith, h), fit_items (n - 1) ds s r (omega (arith, h)))
  fit n (object ms) s r h = (omega (arith, h), fit_members (n - 1) ms s r (omega (arith, h)))

  fit_items : (n : ℕ) (ds : Items) → AreSortedItems ds → AreRangedItems ds → items_depth ds ≤ n → AreFitItems n ds
  fit_items n no_items s r h = tt
  fit_items n (item d ds) s r h = (fit n d s.0 r.0 (omega (arith, h)), fit_items n ds s.1 r.1 (omega (arith, h)))

  fit_members : (n : ℕ) (ms : Members) → AreSorted ms → AreRanged ms → members_depth ms ≤ n → AreFit n ms
  fit_members n no_members s r h = tt
  fit_members n (member k d ms) s r h = (fit n d s.0 r.0 (omega (arith, h)), s.1, fit_members n ms s.2 r.1 (omega (arith, h)))

pub fit_read : (text : List ℕ) (d : Data) → read text ≡ Some d → IsFit 127 d
fit_read text d is = fit 127 d (sorted-read text d is) (ranged_read text d is) (depth-read text d is)

-- ---- whole, so plain

mutual
  pub fit_plain : (n : ℕ) (d : Data) → IsFit n d → is_whole d ≡ true → IsPlain n d
  fit_plain n null h whole = tt
  fit_plain n (boolean b) h whole = tt
  fit_plain n (number (unsigned x)) h whole = h
  fit_plain n (number (negative (pos x))) h whole = absurd h
  fit_plain n (number (negative (negsuc x))) h whole = h
  fit_plain n (number (float x)) h whole = absurd cc
  fit_plain n (string s) h whole = tt
  fit_plain n (array ds) h whole = (h.0, fit_plain_items (n - 1) ds h.1 whole)
  fit_plain n (object ms) h whole = (h.0, fit_plain_members (n - 1) ms h.1 whole)

  fit_plain_items : (n : ℕ) (ds : Items) → AreFitItems n ds → are_whole_items ds ≡ true → ArePlainItems n ds
  fit_plain_items n no_items h whole = tt
  fit_plain_items n (item d ds) h whole =
      let parts = and_parts (is_whole d) (are_whole_items ds) whole in
      (fit_plain n d h.0 parts.0, fit_plain_items n ds h.1 parts.1)

  fit_plain_members : (n : ℕ) (ms : Members) → AreFit n ms → are_whole_members ms ≡ true → ArePlain n ms
  fit_plain_members n no_members h whole = tt
  fit_plain_members n (member k d ms) h whole =
      let parts = and_parts (is_whole d) (are_whole_members ms) whole in
      (fit_plain n d h.0 parts.0, h.1, fit_plain_members n ms h.2 parts.1)

-- ---- members

get_by : (n : ℕ) (o : Ordering) (d : Data) (more : Option Data) → IsFit n d → IfSome more (IsFit n) → IfSome (match_ordering o more (Some d) more) (IsFit n)
get_by n Less d more x h = h
get_by n Equal d more x h = x
get_by n Greater d more x h = h

pub get_fit_member : (n : ℕ) (q : List ℕ) (ms : Members) → AreFit n ms → IfSome (get_member q ms) (IsFit n)
get_fit_member n q no_members h = tt
get_fit_member n q (member k d ms) h = get_by n (slice_cmp nat_cmp q k) d (get_member q ms) h.0 (get_fit_member n q ms h.2)

pub get_fit : (n : ℕ) (q : List ℕ) (d : Data) → IsFit n d → IfSome (get q d) (IsFit (n - 1))
get_fit n q null h = tt
get_fit n q (boolean b) h = tt
get_fit n q (number x) h = tt
get_fit n q (string s) h = tt
get_fit n q (array ds) h = tt
get_fit n q (object ms) h = get_fit_member (n - 1) q ms h.1
