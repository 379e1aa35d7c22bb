-- Values whose numbers are whole have no float.
use Rattle.std.proofs.Common.{◌≡◌, Bool, true, false, ◌||◌, is_some, refl}
use Rattle.std.proofs.lemmas.Bool.{and_parts}
use Rattle.serde_json.specs.Data.{Num, unsigned, negative, float, Data, null, boolean, number, string, array, object, Items, no_items, item, Members, no_members, member}
use Rattle.serde_json.specs.Find.{as_i64, is_float}
use Rattle.serde_json.specs.Written.{has_float, items_have_float, members_have_float}
use Rattle.delta_schema.specs.Metadata.{is_whole, are_whole_items, are_whole_members}

number_no_float : (n : Num) → is_some (as_i64 n) ≡ true → is_float n ≡ false
number_no_float (unsigned n) whole = refl
number_no_float (negative z) whole = refl
number_no_float (float x) whole = absurd cc

none_of : (a b : Bool) → a ≡ false → b ≡ false → (a || b) ≡ false
none_of a b first second = rw (first, second) refl

mutual
  pub no_float : (d : Data) → is_whole d ≡ true → has_float d ≡ false
  no_float null whole = refl
  no_float (boolean b) whole = refl
  no_float (number n) whole = number_no_float n whole
  no_float (string s) whole = refl
  no_float (array ds) whole = no_float_items ds whole
  no_float (object ms) whole = no_float_members ms whole

  no_float_items : (ds : Items) → are_whole_items ds ≡ true → items_have_float ds ≡ false
  no_float_items no_items whole = refl
  no_float_items (item d ds) whole =
      let parts = and_parts (is_whole d) (are_whole_items ds) whole in
      none_of (has_float d) (items_have_float ds) (no_float d parts.0) (no_float_items ds parts.1)

  no_float_members : (ms : Members) → are_whole_members ms ≡ true → members_have_float ms ≡ false
  no_float_members no_members whole = refl
  no_float_members (member k d ms) whole =
      let parts = and_parts (is_whole d) (are_whole_members ms) whole in
      none_of (has_float d) (members_have_float ms) (no_float d parts.0) (no_float_members ms parts.1)
