-- The compact text of a value with no float, whose objects have their members in order, reads as that value.
use Rattle.std.proofs.Common.{◌≡◌, ℕ, ◌-◌, ◌≤◌, pos, negsuc, List, [], ◌++◌, append-nil, false, Option, Some, option_map, option_and_then, Ordering, Less, Equal, Greater, nat_cmp, refl, sym, ap, ◌∙◌, arith}
use Rattle.std.specs.Prelude.{⊤}
use Rattle.std.specs.Ordering.{match_ordering, ordering_reverse}
use Rattle.std.specs.Cmp.Lexicographic.{slice_cmp}
use Rattle.std.proofs.lemmas.Cmp.{nat_list_cmp_total}
use Rattle.std.proofs.lemmas.Bool.{or_from, or_parts}
use Rattle.json.specs.Json as json
use Rattle.json.specs.Token.{Token}
use Rattle.json.specs.Lex.{tokens}
use Rattle.json.proofs.Printed.Tokens.{tokens-print}
use Rattle.json.specs.Tree as tree
use Rattle.json.proofs.Printed.Trees.{value-json_tokens, ArePrintable-json_tokens}
use Rattle.json.proofs.Printed.Decimals.{IsNumber-decimal, IsNumber-signed_decimal}
use Rattle.serde_json.specs.Data.{Num, unsigned, negative, float, Data, null, boolean, number, string, array, object, Items, no_items, item, Members, no_members, member, put}
use Rattle.serde_json.specs.Read.{number_of, of_json, of_items, of_members, max_depth, read}
use Rattle.serde_json.specs.Written.{number_text, outline, items_outline, members_outline, has_float, members_have_float, compact_text}
use Rattle.serde_json.proofs.Numbers.{number_of-decimal, number_of-negative}
use Rattle.serde_json.proofs.Texts.{print-outline}
use Rattle.json_text.specs.Plain.{IsAbove, IsPlainNumber, IsPlain, ArePlainItems, ArePlain}

-- ---- `put` keeps members in order

pub above_more : (k l : List ℕ) (ms : Members) → slice_cmp nat_cmp k l ≡ Less → IsAbove l ms → IsAbove k ms
above_more k l no_members less h = tt
above_more k l (member m e ms) less h = (nat_list_cmp_total.trans k l m less h.0, above_more k l ms less h.1)

IsAbove-by : (o : Ordering) (q : List ℕ) (a b c : Members) → IsAbove q a → IsAbove q b → IsAbove q c → IsAbove q (match_ordering o a b c)
IsAbove-by Less q a b c x y z = x
IsAbove-by Equal q a b c x y z = y
IsAbove-by Greater q a b c x y z = z

pub IsAbove-put : (q k : List ℕ) (d : Data) (ms : Members) → slice_cmp nat_cmp q k ≡ Less → IsAbove q ms → IsAbove q (put k d ms)
IsAbove-put q k d no_members less h = (less, tt)
IsAbove-put q k d (member l e ms) less h = IsAbove-by (slice_cmp nat_cmp k l) q _ _ _ (less, h) (h.0, h.1) (h.0, IsAbove-put q k d ms less h.1)

module _ (n : ℕ) where
  ArePlain-by : (o : Ordering) (k l : List ℕ) (d e : Data) (ms : Members) → slice_cmp nat_cmp k l ≡ o → IsPlain n d → ArePlain n (member l e ms) → ArePlain n (put k d ms)
      → ArePlain n (match_ordering o (member k d (member l e ms)) (member l d ms) (member l e (put k d ms)))
  ArePlain-by Less k l d e ms is x h later = (x, (is, above_more k l ms is h.1), h)
  ArePlain-by Equal k l d e ms is x h later = (x, h.1, h.2)
  ArePlain-by Greater k l d e ms is x h later =
      let below : slice_cmp nat_cmp l k ≡ Less = nat_list_cmp_total.antisymm l k ∙ ap ordering_reverse is in
      (h.0, IsAbove-put l k d ms below h.1, later)

  pub ArePlain-put : (k : List ℕ) (d : Data) (ms : Members) → IsPlain n d → ArePlain n ms → ArePlain n (put k d ms)
  ArePlain-put k d no_members x h = (x, tt, tt)
  ArePlain-put k d (member l e ms) x h = ArePlain-by _ k l d e ms refl x h (ArePlain-put k d ms x h.2)

-- ---- members that were in order go in at the end

abbrev pub joined : Members → Members → Members
joined no_members ms = ms
joined (member l e f) ms = member l e (joined f ms)

pub joined-nil : (f : Members) → f ≡ joined f no_members
joined-nil no_members = refl
joined-nil (member l e f) = ap (member l e) (joined-nil f)

pub joined-one : (f : Members) (k : List ℕ) (d : Data) (ms : Members) → joined (joined f (member k d no_members)) ms ≡ joined f (member k d ms)
joined-one no_members k d ms = refl
joined-one (member l e f) k d ms = ap (member l e) (joined-one f k d ms)

abbrev pub AllBelow : List ℕ → Members → Type 0
AllBelow k no_members = ⊤
AllBelow k (member l e f) = (slice_cmp nat_cmp k l ≡ Greater) × AllBelow k f

pub put-last : (f : Members) (k : List ℕ) (d : Data) → AllBelow k f → put k d f ≡ joined f (member k d no_members)
put-last no_members k d h = refl
put-last (member l e f) k d h = rw h.0 (ap (member l e) (put-last f k d h.1))

AllBelow-one : (q : List ℕ) (f : Members) (k : List ℕ) (d : Data) → AllBelow q f → slice_cmp nat_cmp q k ≡ Greater → AllBelow q (joined f (member k d no_members))
AllBelow-one q no_members k d h more = (more, tt)
AllBelow-one q (member l e f) k d h more = (h.0, AllBelow-one q f k d h.1 more)

abbrev pub AreBefore : Members → Members → Type 0
AreBefore f no_members = ⊤
AreBefore f (member k d ms) = AllBelow k f × AreBefore f ms

pub AreBefore-one : (f : Members) (k : List ℕ) (d : Data) (ms : Members) → AreBefore f ms → IsAbove k ms → AreBefore (joined f (member k d no_members)) ms
AreBefore-one f k d no_members h above = tt
AreBefore-one f k d (member l e ms) h above =
    let more : slice_cmp nat_cmp l k ≡ Greater = nat_list_cmp_total.antisymm l k ∙ ap ordering_reverse above.0 in
    (AllBelow-one l f k d h.0 more, AreBefore-one f k d ms h.1 above.1)

pub AreBefore-none : (ms : Members) → AreBefore no_members ms
AreBefore-none no_members = tt
AreBefore-none (member k d ms) = (tt, AreBefore-none ms)

-- ---- the outline of the value is what its text reads as

number_back : (x : Num) → IsPlainNumber x → number_of (number_text x) ≡ Some x
number_back (unsigned n) h = number_of-decimal n h
number_back (negative (pos n)) h = absurd h
number_back (negative (negsuc n)) h = number_of-negative n h
number_back (float x) h = absurd h

mutual
  of_outline : (n : ℕ) (d : Data) → IsPlain n d → of_json (outline d) ≡ Some d
  of_outline n null h = refl
  of_outline n (boolean b) h = refl
  of_outline n (number x) h = ap (option_map number) (number_back x h)
  of_outline n (string s) h = refl
  of_outline n (array ds) h = ap (option_map array) (of_items_outline (n - 1) ds h.1)
  of_outline n (object ms) h = ap (option_map object) (of_members_outline (n - 1) no_members ms h.1 (AreBefore-none ms))

  of_items_outline : (n : ℕ) (ds : Items) → ArePlainItems n ds → of_items (items_outline ds) ≡ Some ds
  of_items_outline n no_items h = refl
  of_items_outline n (item d ds) h = rw (of_outline n d h.0, of_items_outline n ds h.1) refl

  of_members_outline : (n : ℕ) (f ms : Members) → ArePlain n ms → AreBefore f ms → of_members (members_outline ms) f ≡ Some (joined f ms)
  of_members_outline n f no_members h before = ap Some (joined-nil f)
  of_members_outline n f (member k d ms) h before =
      rw (of_outline n d h.0) (ap (of_members (members_outline ms)) (put-last f k d before.0)
      ∙ of_members_outline n (joined f (member k d no_members)) ms h.2 (AreBefore-one f k d ms before.1 h.1) ∙ ap Some (joined-one f k d ms))

-- ---- and it can be printed

number_printed : (x : Num) → IsPlainNumber x → tree.HasNumbers (json.number (number_text x))
number_printed (unsigned n) h = IsNumber-decimal n h
number_printed (negative (pos n)) h = absurd h
number_printed (negative (negsuc n)) h = IsNumber-signed_decimal (negsuc n) (omega arith)
number_printed (float x) h = absurd h

mutual
  numbered : (n : ℕ) (d : Data) → IsPlain n d → tree.HasNumbers (outline d)
  numbered n null h = tt
  numbered n (boolean b) h = tt
  numbered n (number x) h = number_printed x h
  numbered n (string s) h = tt
  numbered n (array ds) h = items_numbered (n - 1) ds h.1
  numbered n (object ms) h = members_numbered (n - 1) ms h.1

  items_numbered : (n : ℕ) (ds : Items) → ArePlainItems n ds → tree.ItemsHaveNumbers (items_outline ds)
  items_numbered n no_items h = tt
  items_numbered n (item d ds) h = (numbered n d h.0, items_numbered n ds h.1)

  members_numbered : (n : ℕ) (ms : Members) → ArePlain n ms → tree.MembersHaveNumbers (members_outline ms)
  members_numbered n no_members h = tt
  members_numbered n (member k d ms) h = (numbered n d h.0, members_numbered n ms h.2)

mutual
  shallow : (n : ℕ) (d : Data) → IsPlain n d → tree.depth (outline d) ≤ n
  shallow n null h = omega arith
  shallow n (boolean b) h = omega arith
  shallow n (number x) h = omega arith
  shallow n (string s) h = omega arith
  shallow n (array ds) h = omega (arith, h.0, items_shallow (n - 1) ds h.1)
  shallow n (object ms) h = omega (arith, h.0, members_shallow (n - 1) ms h.1)

  items_shallow : (n : ℕ) (ds : Items) → ArePlainItems n ds → tree.items_depth (items_outline ds) ≤ n
  items_shallow n no_items h = omega arith
  items_shallow n (item d ds) h = omega (arith, shallow n d h.0, items_shallow n ds h.1)

  members_shallow : (n : ℕ) (ms : Members) → ArePlain n ms → tree.members_depth (members_outline ms) ≤ n
  members_shallow n no_members h = omega arith
  members_shallow n (member k d ms) h = omega (arith, shallow n d h.0, members_shallow n ms h.2)

abbrev whole : Option (json.Json × List Token) → Option Data
whole o = option_and_then of_json (option_and_then (λ p. json.if_last p.0 p.1) o)

pub read-compact_text : (d : Data) → IsPlain 127 d → read (compact_text d) ≡ Some d
read-compact_text d h =
    let j = outline d in
    let same : tokens (compact_text d) ≡ tree.json_tokens j ++ [] = ap tokens (sym (print-outline d)) ∙ tokens-print (tree.json_tokens j) (ArePrintable-json_tokens j (numbered 127 d h)) ∙ sym (append-nil (tree.json_tokens j)) in
    ap whole (ap (json.value max_depth) same ∙ value-json_tokens j max_depth [] (shallow 127 d h)) ∙ of_outline 127 d h

-- ---- no float

no_float_by : (o : Ordering) (a b c : Members) → members_have_float a ≡ false → members_have_float b ≡ false → members_have_float c ≡ false → members_have_float (match_ordering o a b c) ≡ false
no_float_by Less a b c x y z = x
no_float_by Equal a b c x y z = y
no_float_by Greater a b c x y z = z

pub no_float-put : (k : List ℕ) (d : Data) (ms : Members) → has_float d ≡ false → members_have_float ms ≡ false → members_have_float (put k d ms) ≡ false
no_float-put k d no_members x h = or_from _ _ x refl
no_float-put k d (member l e ms) x h =
    let parts = or_parts (has_float e) (members_have_float ms) h in
    no_float_by (slice_cmp nat_cmp k l) _ _ _ (or_from _ _ x h) (or_from _ _ x parts.1) (or_from _ _ parts.0 (no_float-put k d ms x parts.1))
