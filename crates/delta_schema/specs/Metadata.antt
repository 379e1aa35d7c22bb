-- The metadata of a field (PROTOCOL.md, "Schema Serialization Format").
use Rattle.std.specs.Prelude.{ℕ, ℤ, pos, negsuc, int_le, List, [], ◌∷◌, Bool, true, false, ◌==◌, ◌&&◌, ◌||◌, Option, Some, None, is_some, codes, unwrap_or, if◌then◌else◌}
use Rattle.std.specs.List.{list_any}
use Rattle.std.specs.Str.{bytes_eq}
use Rattle.serde_json.specs.Data.{Data, null, boolean, number, string, array, object, Items, no_items, item, Members, no_members, member}
use Rattle.serde_json.specs.Find.{get, as_i64, as_bool, as_object}
use Rattle.serde_json.specs.Written.{compact_text}
use Rattle.dm_types.specs.Then.{◌>>=◌}
use Rattle.delta_actions.specs.Forms.{present, maybe, whole}
use Rattle.delta_schema.specs.declared.schema.IdentityRule.{IdentityRule}

-- ---- the names of the members that say how a column is used

-- PROTOCOL.md, "Generated Columns"
abbrev pub generation_name : List ℕ
generation_name = codes "delta.generationExpression"

-- PROTOCOL.md, "Column Invariants"
abbrev pub invariant_name : List ℕ
invariant_name = codes "delta.invariants"

-- PROTOCOL.md, "Column Mapping"
abbrev pub id_name : List ℕ
id_name = codes "delta.columnMapping.id"

abbrev pub physical_name : List ℕ
physical_name = codes "delta.columnMapping.physicalName"

-- PROTOCOL.md, "Identity Columns"
abbrev pub start_name : List ℕ
start_name = codes "delta.identity.start"

abbrev pub step_name : List ℕ
step_name = codes "delta.identity.step"

abbrev pub mark_name : List ℕ
mark_name = codes "delta.identity.highWaterMark"

abbrev pub explicit_name : List ℕ
explicit_name = codes "delta.identity.allowExplicitInsert"

-- the members that a column keeps by themselves, whatever else is there
abbrev pub rule_names : List (List ℕ)
rule_names = generation_name ∷ invariant_name ∷ id_name ∷ physical_name ∷ []

-- the members that an identity keeps
abbrev pub identity_names : List (List ℕ)
identity_names = start_name ∷ step_name ∷ mark_name ∷ explicit_name ∷ []

-- ---- numbers

-- each number at any depth is kept as an integer, in the range of an i64
abbrev mutual
  pub is_whole : Data → Bool
  is_whole null = true
  is_whole (boolean b) = true
  is_whole (number n) = is_some (as_i64 n)
  is_whole (string s) = true
  is_whole (array ds) = are_whole_items ds
  is_whole (object ms) = are_whole_members ms

  pub are_whole_items : Items → Bool
  are_whole_items no_items = true
  are_whole_items (item d ds) = is_whole d && are_whole_items ds

  pub are_whole_members : Members → Bool
  are_whole_members no_members = true
  are_whole_members (member k d ms) = is_whole d && are_whole_members ms

-- ---- members

-- the metadata of a field, an object whose numbers are whole; an absent one has no member
abbrev pub metadata_of : Data → Option Data
metadata_of field =
    let metadata = unwrap_or (present (codes "metadata") field) (object no_members) in
    if is_some (as_object metadata) && is_whole metadata then Some metadata else None

-- a member of metadata has its form where it is there; null is a value like any other
abbrev pub kept : {A : Type 0} → (Data → Option A) → List ℕ → Data → Option (Option A)
kept form name metadata = maybe form (get name metadata)

-- an id of a column: a whole number of 32 bits
abbrev pub id_of : Data → Option ℤ
id_of d = whole d >>= λ z. if int_le (negsuc 2147483647) z && int_le z (pos 2147483647) then Some z else None

-- ---- identities

abbrev pub is_zero : ℤ → Bool
is_zero (pos n) = n == 0
is_zero (negsuc n) = false

-- an identity has a start, a step that isn't 0, and says whether values may be given; it may have a mark
abbrev pub rule_of : Option ℤ → Option ℤ → Option ℤ → Option Bool → Option IdentityRule
rule_of start step mark explicit = do
  start ← start
  step ← step
  explicit ← explicit
  if is_zero step then None
      else Some (record { start = start; step = step; mark = mark; explicit = explicit })

-- the identity of a column, if it has one; None where a member hasn't its form
abbrev pub identity_of : Data → Option (Option IdentityRule)
identity_of metadata = do
  start ← kept whole start_name metadata
  step ← kept whole step_name metadata
  mark ← kept whole mark_name metadata
  explicit ← kept as_bool explicit_name metadata
  Some (rule_of start step mark explicit)

-- ---- other members

-- a member that a column keeps by itself; those of an identity only where it has one
abbrev pub is_kept : Bool → List ℕ → Bool
is_kept identity name =
    list_any (bytes_eq name) rule_names || (identity && list_any (bytes_eq name) identity_names)

-- the other members, in byte order of their names, each with its value as compact JSON
abbrev pub other_members : Bool → Members → List (List ℕ × List ℕ)
other_members identity no_members = []
other_members identity (member name value more) =
    if is_kept identity name then other_members identity more
    else (name, compact_text value) ∷ other_members identity more

abbrev pub others_of : Bool → Data → List (List ℕ × List ℕ)
others_of identity metadata = other_members identity (unwrap_or (as_object metadata) no_members)
