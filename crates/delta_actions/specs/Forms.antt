-- The forms of an action's members, over values as the JSON reader gives them.
use Rattle.std.specs.Prelude.{ℕ, ℤ, List, [], ◌∷◌, Option, Some, None, option_map, nat_le, if◌then◌else◌}
use Rattle.serde_json.specs.Data.{Data, null, boolean, number, string, array, object, Items, no_items, item, Members, no_members, member}
use Rattle.serde_json.specs.Find.{get, as_number, as_str, as_array, as_object, as_i64, as_u64}
use Rattle.dm_types.specs.Then.{◌>>=◌}

-- ---- members; None is a member that hasn't its form

-- a value that isn't JSON's null
abbrev pub unless_null : Data → Option Data
unless_null null = None
unless_null (boolean b) = Some (boolean b)
unless_null (number n) = Some (number n)
unless_null (string s) = Some (string s)
unless_null (array ds) = Some (array ds)
unless_null (object ms) = Some (object ms)

-- the member of this name, where the value is an object that has one which isn't null
abbrev pub present : List ℕ → Data → Option Data
present name d = get name d >>= unless_null

-- a value of the form, where there is a value
abbrev pub maybe : {A : Type 0} → (Data → Option A) → Option Data → Option (Option A)
maybe form None = Some None
maybe form (Some d) = option_map Some (form d)

-- a member that must be there
abbrev pub needed : {A : Type 0} → (Data → Option A) → List ℕ → Data → Option A
needed form name d = present name d >>= form

-- a member that may be absent or null
abbrev pub optional : {A : Type 0} → (Data → Option A) → List ℕ → Data → Option (Option A)
optional form name d = maybe form (present name d)

-- ---- forms; texts and truth values are JSON's

-- a number that is kept as an integer, in the range of an i64
abbrev pub whole : Data → Option ℤ
whole d = as_number d >>= as_i64

-- a number that is kept as an integer, from 0 to 2147483647
abbrev pub version : Data → Option ℕ
version d = as_number d >>= as_u64 >>= λ n. if nat_le n 2147483647 then Some n else None

-- a text, or null
abbrev pub text_or_null : Data → Option (Option (List ℕ))
text_or_null null = Some None
text_or_null (boolean b) = None
text_or_null (number n) = None
text_or_null (string s) = Some (Some s)
text_or_null (array ds) = None
text_or_null (object ms) = None

-- each item has the form
abbrev pub each_item : {A : Type 0} → (Data → Option A) → Items → Option (List A)
each_item form no_items = Some []
each_item form (item d ds) = form d >>= λ a. option_map (λ more. a ∷ more) (each_item form ds)

-- each member has the form; a JSON object has its members in byte order of their names, each name once
abbrev pub each_member : {A : Type 0} → (Data → Option A) → Members → Option (List (List ℕ × A))
each_member form no_members = Some []
each_member form (member k d ms) = form d >>= λ a. option_map (λ more. (k, a) ∷ more) (each_member form ms)

-- a list of texts
abbrev pub texts : Data → Option (List (List ℕ))
texts d = as_array d >>= each_item as_str

-- an object whose members have the form
abbrev pub pairs : {A : Type 0} → (Data → Option A) → Data → Option (List (List ℕ × A))
pairs form d = as_object d >>= each_member form
