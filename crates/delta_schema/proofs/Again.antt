-- What was read of a schema can be written.
use Rattle.std.proofs.Common.{◌≡◌, ℕ, ℤ, pos, negsuc, ◌-◌, ◌^◌, List, [], ◌∷◌, ◌++◌, map, length, Bool, true, false, ◌&&◌, not, is_some, cond, Option, Some, None, option_map, option_and_then, Result, Ok, Err, Ordering, Less, Equal, Greater, nat_cmp, true≢false, refl, sym, ap, ◌∙◌, subst, arith, append_assoc, append-nil, bytes_eq}
use Rattle.std.specs.Prelude.{IfSome, codes, unwrap_or, nat_lt, nat_le, int_le}
use Rattle.std.specs.List.{All, AllByRecursion, list_all, list_any}
use Rattle.std.specs.List.Sorted.{IsStrictlySortedBy}
use Rattle.std.specs.Map.{keys_of}
use Rattle.std.specs.Ordering.{match_ordering}
use Rattle.std.specs.Cmp.Lexicographic.{slice_cmp}
use Rattle.std.proofs.lemmas.Bool.{and_parts, leb-true, ltb-true}
use Rattle.std.proofs.lemmas.List.Elements.{All-cons, All-head, All-nil, All-tail}
use Rattle.serde_json.specs.Data.{Data, null, boolean, number, unsigned, negative, float, string, array, object, Items, no_items, item, Members, no_members, member}
use Rattle.serde_json.specs.Find.{as_array, as_bool, as_object, as_str, get, get_member}
use Rattle.serde_json.specs.Read.{read}
use Rattle.serde_json.specs.Written.{compact_text}
use Rattle.json_text.specs.Plain.{IsAbove}
use Rattle.dm_types.specs.declared.value.DataType.{DataType}
use Rattle.dm_types.specs.declared.value.DataType.TheVariants as kind
use Rattle.delta_actions.specs.Forms.{each_item, maybe, needed, present, unless_null, whole}
use Rattle.delta_actions.specs.Writable.{AreOrdered}
use Rattle.delta_actions.specs.Written.{object_of}
use Rattle.delta_schema.specs.declared.schema.ColumnDef.{ColumnDef}
use Rattle.delta_schema.specs.declared.schema.IdentityRule.{IdentityRule}
use Rattle.delta_schema.specs.declared.fault.SchemaFault.TheVariants as fault
use Rattle.delta_schema.specs.Columns.{answer, column_of, column_with, columns_of, described, fields_of, is_misplaced, names_of, of_types, schema_of, struct_columns, typed}
use Rattle.delta_schema.specs.Metadata.{are_whole_members, explicit_name, generation_name, id_name, id_of, identity_of, invariant_name, is_kept, is_whole, is_zero, kept, mark_name, metadata_of, other_members, others_of, physical_name, rule_of, start_name, step_name}
use Rattle.delta_schema.specs.Names.{are_good_names, has_twins, is_among, is_empty}
use Rattle.delta_schema.specs.Types.{type_of}
use Rattle.delta_schema.specs.Writable.{ArePartitions, IsColumnType, IsOfBits, IsOther, IsRule, IsWritable, IsWritableColumn, column_names}
use Rattle.delta_schema.specs.Written.{other_fields}
use Rattle.delta_schema.proofs.Back.{flags_back}
use Rattle.delta_schema.proofs.Fit.{AreFit, AreFitItems, IsFit, fit_plain, fit_read, get_fit, get_fit_member}
use Rattle.delta_schema.proofs.Listed.{listed, others_listed, same_name, value_of}
use Rattle.delta_schema.proofs.WellFormed.{kind_formed}

-- ---- steps that gave something

from_some : {A : Type 0} (P : A → Type 0) (made a : A) → Some made ≡ Some a → P made → P a
from_some P made a is h = let same : made ≡ a = cc in subst P same h

-- what gave this, and what it was given
record Gave {A B : Type 0} (known : Option A) (step : A → Option B) (b : B) : Type 0 where
  given : A
  is : known ≡ Some given
  gives : step given ≡ Some b

gave : {A B : Type 0} (known : Option A) (step : A → Option B) (b : B) → option_and_then step known ≡ Some b → Gave known step b
gave None step b is = absurd cc
gave (Some a) step b is = record { given = a; is = refl; gives = is }

chosen : {A : Type 0} (good : Bool) (known : Option A) (a : A) → cond good known None ≡ Some a → (good ≡ true) × (known ≡ Some a)
chosen true known a is = (refl, is)
chosen false known a is = absurd cc

refused : {A : Type 0} (bad : Bool) (known : Option A) (a : A) → cond bad None known ≡ Some a → (bad ≡ false) × (known ≡ Some a)
refused true known a is = absurd cc
refused false known a is = (refl, is)

-- ---- numbers

whole_bits : (n : ℕ) (d : Data) (z : ℤ) → IsFit n d → whole d ≡ Some z → IsOfBits 64 z
whole_bits n null z h is = absurd cc
whole_bits n (boolean b) z h is = absurd cc
whole_bits n (number (unsigned x)) z h is =
    let parts = chosen (nat_lt x (2 ^ 63)) (Some (pos x)) z is in
    from_some (IsOfBits 64) (pos x) z parts.1 (ltb-true x (2 ^ 63) parts.0)
whole_bits n (number (negative (pos x))) z h is = absurd h
whole_bits n (number (negative (negsuc x))) z h is = from_some (IsOfBits 64) (negsuc x) z is h
whole_bits n (number (float x)) z h is = absurd cc
whole_bits n (string s) z h is = absurd cc
whole_bits n (array ds) z h is = absurd cc
whole_bits n (object ms) z h is = absurd cc

id_within : (z : ℤ) → (int_le (negsuc 2147483647) z && int_le z (pos 2147483647)) ≡ true → IsOfBits 32 z
id_within (pos n) is = omega (arith, leb-true n 2147483647 (and_parts (int_le (negsuc 2147483647) (pos n)) (int_le (pos n) (pos 2147483647)) is).1)
id_within (negsuc n) is = omega (arith, leb-true n 2147483647 (and_parts (int_le (negsuc 2147483647) (negsuc n)) (int_le (negsuc n) (pos 2147483647)) is).0)

id_bits : (d : Data) (z : ℤ) → id_of d ≡ Some z → IsOfBits 32 z
id_bits d z is =
    let by = gave (whole d) (λ z. cond (int_le (negsuc 2147483647) z && int_le z (pos 2147483647)) (Some z) None) z is in
    let parts = chosen (int_le (negsuc 2147483647) by.given && int_le by.given (pos 2147483647)) (Some by.given) z by.gives in
    from_some (IsOfBits 32) by.given z parts.1 (id_within by.given parts.0)

-- what holds of a value of the form holds of a member that is kept
maybe_some : {A : Type 0} (P : A → Type 0) (found : Option A) (r : Option A) → ((a : A) → found ≡ Some a → P a) → option_map Some found ≡ Some r → IfSome r P
maybe_some P None r each is = absurd cc
maybe_some P (Some a) r each is = from_some (λ r. IfSome r P) (Some a) r is (each a refl)

maybe_parts : {A : Type 0} (P : A → Type 0) (form : Data → Option A) (o : Option Data) (r : Option A) → IfSome o (λ d. (a : A) → form d ≡ Some a → P a) → maybe form o ≡ Some r → IfSome r P
maybe_parts P form None r each is = from_some (λ r. IfSome r P) None r is tt
maybe_parts P form (Some d) r each is = maybe_some P (form d) r each is

if_each : {A : Type 0} (P Q : A → Type 0) (o : Option A) → ((a : A) → P a → Q a) → IfSome o P → IfSome o Q
if_each P Q None k h = tt
if_each P Q (Some a) k h = k a h

if_all : {A : Type 0} (P : A → Type 0) (o : Option A) → ((a : A) → P a) → IfSome o P
if_all P None h = tt
if_all P (Some a) h = h a

kept_whole : (n : ℕ) (q : List ℕ) (ms : Members) (r : Option ℤ) → AreFit n ms → kept whole q (object ms) ≡ Some r → IfSome r (IsOfBits 64)
kept_whole n q ms r h is =
    maybe_parts (IsOfBits 64) whole (get_member q ms) r (if_each (IsFit n) (λ d. (z : ℤ) → whole d ≡ Some z → IsOfBits 64 z) (get_member q ms) (λ d x z. whole_bits n d z x) (get_fit_member n q ms h)) is

kept_id : (metadata : Data) (r : Option ℤ) → kept id_of id_name metadata ≡ Some r → IfSome r (IsOfBits 32)
kept_id metadata r is = maybe_parts (IsOfBits 32) id_of (get id_name metadata) r (if_all (λ d. (z : ℤ) → id_of d ≡ Some z → IsOfBits 32 z) (get id_name metadata) id_bits) is

-- ---- the identity

rule_parts : (start step : Option ℤ) (mark : Option ℤ) (explicit : Option Bool) → IfSome start (IsOfBits 64) → IfSome step (IsOfBits 64) → IfSome mark (IsOfBits 64) → IfSome (rule_of start step mark explicit) IsRule
rule_parts (Some start) (Some step) mark (Some explicit) a b c = by (is_zero step) refl
  where
    by : (zero : Bool) → is_zero step ≡ zero → IfSome (cond zero None (Some (record { start = start; step = step; mark = mark; explicit = explicit }))) IsRule
    by true is = tt
    by false is = record { start = a; step = b; moves = is; mark = c }
rule_parts None step mark explicit a b c = tt
rule_parts (Some start) None mark explicit a b c = tt
rule_parts (Some start) (Some step) mark None a b c = tt

identity_rule : (n : ℕ) (ms : Members) (identity : Option IdentityRule) → AreFit n ms → identity_of (object ms) ≡ Some identity → IfSome identity IsRule
identity_rule n ms identity h is =
    let first = gave (kept whole start_name (object ms)) (λ start. option_and_then (λ step. option_and_then (λ mark. option_and_then (λ explicit. Some (rule_of start step mark explicit)) (kept as_bool explicit_name (object ms))) (kept whole mark_name (object ms))) (kept whole step_name (object ms))) identity is in
    let second = gave (kept whole step_name (object ms)) (λ step. option_and_then (λ mark. option_and_then (λ explicit. Some (rule_of first.given step mark explicit)) (kept as_bool explicit_name (object ms))) (kept whole mark_name (object ms))) identity first.gives in
    let third = gave (kept whole mark_name (object ms)) (λ mark. option_and_then (λ explicit. Some (rule_of first.given second.given mark explicit)) (kept as_bool explicit_name (object ms))) identity second.gives in
    let fourth = gave (kept as_bool explicit_name (object ms)) (λ explicit. Some (rule_of first.given second.given third.given explicit)) identity third.gives in
    from_some (λ r. IfSome r IsRule) (rule_of first.given second.given third.given fourth.given) identity fourth.gives
    (rule_parts first.given second.given third.given fourth.given (kept_whole n start_name ms first.given h first.is) (kept_whole n step_name ms second.given h second.is) (kept_whole n mark_name ms third.given h third.is))

identity_same : (a b : Data) → get start_name a ≡ get start_name b → get step_name a ≡ get step_name b → get mark_name a ≡ get mark_name b → get explicit_name a ≡ get explicit_name b → identity_of a ≡ identity_of b
identity_same a b start step mark explicit = rw (start, step, mark, explicit) refl

-- ---- the other members

above_by : (q l : List ℕ) (kept : Bool) (p : List ℕ) (rest : List (List ℕ × List ℕ)) → slice_cmp nat_cmp q l ≡ Less → AllByRecursion (λ y. slice_cmp nat_cmp q y ≡ Less) (keys_of rest)
    → AllByRecursion (λ y. slice_cmp nat_cmp q y ≡ Less) (keys_of (cond kept rest ((l, p) ∷ rest)))
above_by q l true p rest less h = h
above_by q l false p rest less h = (less, h)

above_others : (i : Bool) (q : List ℕ) (ms : Members) → IsAbove q ms → AllByRecursion (λ y. slice_cmp nat_cmp q y ≡ Less) (keys_of (other_members i ms))
above_others i q no_members h = tt
above_others i q (member l d ms) h = above_by q l (is_kept i l) (compact_text d) (other_members i ms) h.0 (above_others i q ms h.1)

ordered_by : (l : List ℕ) (kept : Bool) (p : List ℕ) (rest : List (List ℕ × List ℕ)) → AllByRecursion (λ y. slice_cmp nat_cmp l y ≡ Less) (keys_of rest) → AreOrdered rest → AreOrdered (cond kept rest ((l, p) ∷ rest))
unfolding IsStrictlySortedBy
ordered_by l true p rest above h = h
ordered_by l false p rest above h = (above, h)

ordered_others : (n : ℕ) (i : Bool) (ms : Members) → AreFit n ms → AreOrdered (other_members i ms)
unfolding IsStrictlySortedBy
ordered_others n i no_members h = tt
ordered_others n i (member l d ms) h = ordered_by l (is_kept i l) (compact_text d) (other_members i ms) (above_others i l ms h.1) (ordered_others n i ms h.2)

each_by : (i : Bool) (l : List ℕ) (d : Data) (kept : Bool) (rest : List (List ℕ × List ℕ)) → is_kept i l ≡ kept → IsFit 123 d → is_whole d ≡ true → All (IsOther i) rest → All (IsOther i) (cond kept rest ((l, compact_text d) ∷ rest))
each_by i l d true rest is x whole h = h
each_by i l d false rest is x whole h = All-cons (IsOther i) (l, compact_text d) rest (record { free = is; value = (d, refl, whole, fit_plain 123 d x whole) }) h

each_other : (i : Bool) (ms : Members) → AreFit 123 ms → are_whole_members ms ≡ true → All (IsOther i) (other_members i ms)
each_other i no_members h whole = All-nil (IsOther i)
each_other i (member l d ms) h whole =
    let parts = and_parts (is_whole d) (are_whole_members ms) whole in
    each_by i l d (is_kept i l) (other_members i ms) refl h.0 parts.0 (each_other i ms h.2 parts.1)

-- a look-up of a name that isn't kept
past_kept : (i : Bool) (q l : List ℕ) (d : Data) (o : Ordering) (found : Option Data) → slice_cmp nat_cmp q l ≡ o → is_kept i q ≡ false → is_kept i l ≡ true → found ≡ match_ordering o found (Some d) found
past_kept i q l d Less found is free kept = refl
past_kept i q l d Equal found is free kept = absurd (true≢false (sym kept ∙ subst (λ (x : List ℕ). is_kept i x ≡ false) (same_name q l is) free))
past_kept i q l d Greater found is free kept = refl

get_others_by : (i : Bool) (q l : List ℕ) (d : Data) (ms : Members) (kept : Bool) → is_kept i l ≡ kept → is_kept i q ≡ false → IsFit 123 d → is_whole d ≡ true → get_member q (listed (other_members i ms)) ≡ get_member q ms
    → get_member q (listed (cond kept (other_members i ms) ((l, compact_text d) ∷ other_members i ms))) ≡ get_member q (member l d ms)
get_others_by i q l d ms true is free x whole later = later ∙ past_kept i q l d (slice_cmp nat_cmp q l) (get_member q ms) refl free is
get_others_by i q l d ms false is free x whole later =
    rw (value_of (compact_text d) d refl whole (fit_plain 123 d x whole)) (ap (λ found. match_ordering (slice_cmp nat_cmp q l) found (Some d) found) later)

get_others : (i : Bool) (q : List ℕ) (ms : Members) → is_kept i q ≡ false → AreFit 123 ms → are_whole_members ms ≡ true → get_member q (listed (other_members i ms)) ≡ get_member q ms
get_others i q no_members free h whole = refl
get_others i q (member l d ms) free h whole =
    let parts = and_parts (is_whole d) (are_whole_members ms) whole in
    get_others_by i q l d ms (is_kept i l) refl free h.0 parts.0 (get_others i q ms free h.2 parts.1)

others_identity : (ms : Members) → AreFit 123 ms → are_whole_members ms ≡ true → identity_of (object_of (other_fields (other_members false ms))) ≡ identity_of (object ms)
others_identity ms h whole =
    let all = other_members false ms in
    ap (λ members. identity_of (object members)) (others_listed all (ordered_others 123 false ms h))
    ∙ identity_same (object (listed all)) (object ms) (get_others false start_name ms refl h whole) (get_others false step_name ms refl h whole) (get_others false mark_name ms refl h whole) (get_others false explicit_name ms refl h whole)

-- ---- a column

-- what a column has of its field
record IsDescribed (test : List ℕ → Bool) (field metadata : Data) (k : DataType) (c : ColumnDef) : Type 0 where
  name : needed as_str (codes "name") field ≡ Some c.name
  kind : k ≡ c.kind
  flag : test c.name ≡ c.partition
  id : kept id_of id_name metadata ≡ Some c.id
  identity : identity_of metadata ≡ Some c.identity
  other : others_of (is_some c.identity) metadata ≡ c.other

described_by : (test : List ℕ → Bool) (field metadata : Data) (k : DataType) (c : ColumnDef) (name : Option (List ℕ)) (nullable : Option Bool) (id : Option (Option ℤ)) (physical generation : Option (Option (List ℕ))) (identity : Option (Option IdentityRule))
    → needed as_str (codes "name") field ≡ name → kept id_of id_name metadata ≡ id → identity_of metadata ≡ identity
    → option_and_then (λ name. option_and_then (λ nullable. option_and_then (λ id. option_and_then (λ physical. option_and_then (λ generation. option_and_then (λ identity. Some (record {
      name = name;
      kind = k;
      nullable = nullable;
      partition = test name;
      id = id;
      physical = physical;
      generation = generation;
      identity = identity;
      invariant = is_some (get invariant_name metadata);
      other = others_of (is_some identity) metadata;
    })) identity) generation) physical) id) nullable) name ≡ Some c → IsDescribed test field metadata k c
described_by test field metadata k c (Some name) (Some nullable) (Some id) (Some physical) (Some generation) (Some identity) named numbered ruled is =
    from_some (IsDescribed test field metadata k) _ c is (record { name = named; kind = refl; flag = refl; id = numbered; identity = ruled; other = refl })
described_by test field metadata k c name nullable id physical generation identity named numbered ruled is = absurd cc

described_parts : (test : List ℕ → Bool) (field metadata : Data) (k : DataType) (c : ColumnDef) → described test field metadata k ≡ Some c → IsDescribed test field metadata k c
unfolding described
described_parts test field metadata k c is =
    described_by test field metadata k c (needed as_str (codes "name") field) (needed as_bool (codes "nullable") field) (kept id_of id_name metadata) (kept as_str physical_name metadata) (kept as_str generation_name metadata) (identity_of metadata) refl refl refl is

-- the type of a column that has one
record IsTyped (test : List ℕ → Bool) (field metadata : Data) (type : Option DataType) (c : ColumnDef) : Type 0 where
  k : DataType
  type_is : type ≡ Some k
  described_as : described test field metadata k ≡ Some c
  placed : is_misplaced (Some k) c.partition (is_some c.identity) ≡ false

typed_column : (type : Option DataType) (column c : ColumnDef) → Some (cond (is_some type) (Ok column) (Err column.name)) ≡ Some (Ok c) → (is_some type ≡ true) × (column ≡ c)
typed_column None column c is = absurd cc
typed_column (Some k) column c is = (refl, cc)

typed_by : (test : List ℕ → Bool) (field metadata : Data) (type : Option DataType) (column c : ColumnDef) → described test field metadata (unwrap_or type kind.Void) ≡ Some column → is_some type ≡ true → column ≡ c
    → is_misplaced type column.partition (is_some column.identity) ≡ false → IsTyped test field metadata type c
typed_by test field metadata None column c is some same placed = absurd cc
typed_by test field metadata (Some k) column c is some same placed =
    subst (IsTyped test field metadata (Some k)) same (record { k = k; type_is = refl; described_as = is; placed = placed })

with_type : (test : List ℕ → Bool) (field metadata : Data) (type : Option DataType) (c : ColumnDef)
    → option_and_then (λ column. cond (is_misplaced type column.partition (is_some column.identity)) None (Some (cond (is_some type) (Ok column) (Err column.name)))) (described test field metadata (unwrap_or type kind.Void)) ≡ Some (Ok c)
    → IsTyped test field metadata type c
with_type test field metadata type c is =
    let by = gave (described test field metadata (unwrap_or type kind.Void)) (λ column. cond (is_misplaced type column.partition (is_some column.identity)) None (Some (cond (is_some type) (Ok column) (Err column.name)))) (Ok c) is in
    let good = refused (is_misplaced type by.given.partition (is_some by.given.identity)) (Some (cond (is_some type) (Ok by.given) (Err by.given.name))) (Ok c) by.gives in
    let at = typed_column type by.given c good.1 in
    typed_by test field metadata type by.given c by.is at.0 at.1 good.0

type_parts : (d : Data) (k : DataType) → type_of d ≡ Some (Some k) → IsColumnType k
type_parts null k is = absurd cc
type_parts (boolean b) k is = absurd cc
type_parts (number n) k is = absurd cc
type_parts (string s) k is = kind_formed s k (cc)
type_parts (array ds) k is = absurd cc
type_parts (object ms) k is = absurd cc

needed_type : (field : Data) (k : DataType) → needed type_of (codes "type") field ≡ Some (Some k) → IsColumnType k
needed_type field k is = let by = gave (present (codes "type") field) type_of (Some k) is in type_parts by.given k by.gives

-- what a column that was read from a field has
record IsFieldOf (test : List ℕ → Bool) (field : Data) (c : ColumnDef) : Type 0 where
  name : needed as_str (codes "name") field ≡ Some c.name
  flag : test c.name ≡ c.partition
  writable : c.invariant ≡ false → IsWritableColumn c

no_rule_of : (ms : Members) (c : ColumnDef) → AreFit 123 ms → are_whole_members ms ≡ true → identity_of (object ms) ≡ Some c.identity → others_of (is_some c.identity) (object ms) ≡ c.other → c.identity ≡ None
    → identity_of (object_of (other_fields c.other)) ≡ Some None
no_rule_of ms c h whole identity other none =
    let all : other_members false ms ≡ c.other = ap (λ o. other_members (is_some o) ms) (sym none) ∙ other in
    ap (λ others. identity_of (object_of (other_fields others))) (sym all) ∙ others_identity ms h whole ∙ identity ∙ ap Some none

column_is : (test : List ℕ → Bool) (field : Data) (ms : Members) (c : ColumnDef) → AreFit 123 ms → are_whole_members ms ≡ true → column_with test field (object ms) ≡ Some (Ok c) → IsFieldOf test field c
column_is test field ms c h whole is =
    let i = is_some c.identity in
    let first = gave (needed type_of (codes "type") field) (λ type. option_and_then (λ column. cond (is_misplaced type column.partition (is_some column.identity)) None (Some (cond (is_some type) (Ok column) (Err column.name)))) (described test field (object ms) (unwrap_or type kind.Void))) (Ok c) is in
    let of_type = with_type test field (object ms) first.given c first.gives in
    let parts = described_parts test field (object ms) of_type.k c of_type.described_as in
    let type : IsColumnType c.kind = subst IsColumnType parts.kind (needed_type field of_type.k (first.is ∙ ap Some of_type.type_is)) in
    record {
      name = parts.name;
      flag = parts.flag;
      writable = λ none. record {
        type = type;
        placed = subst (λ k. is_misplaced (Some k) c.partition i ≡ false) parts.kind of_type.placed;
        id = kept_id (object ms) c.id parts.id;
        rule = identity_rule 123 ms c.identity h parts.identity;
        no_rule = no_rule_of ms c h whole parts.identity parts.other;
        no_invariant = none;
        ordered = subst AreOrdered parts.other (ordered_others 123 i ms h);
        others = subst (All (IsOther i)) parts.other (each_other i ms h whole);
      };
    }

of_metadata : (test : List ℕ → Bool) (field metadata : Data) (c : ColumnDef) → IsFit 124 metadata → is_some (as_object metadata) ≡ true → is_whole metadata ≡ true → column_with test field metadata ≡ Some (Ok c) → IsFieldOf test field c
of_metadata test field null c h some whole is = absurd cc
of_metadata test field (boolean b) c h some whole is = absurd cc
of_metadata test field (number n) c h some whole is = absurd cc
of_metadata test field (string s) c h some whole is = absurd cc
of_metadata test field (array ds) c h some whole is = absurd cc
of_metadata test field (object ms) c h some whole is = column_is test field ms c h.1 whole is

fit_unless : (n : ℕ) (d : Data) → IsFit n d → IfSome (unless_null d) (IsFit n)
fit_unless n null h = tt
fit_unless n (boolean b) h = h
fit_unless n (number x) h = h
fit_unless n (string s) h = h
fit_unless n (array ds) h = h
fit_unless n (object ms) h = h

fit_some : (n : ℕ) (o : Option Data) → IfSome o (IsFit n) → IfSome (option_and_then unless_null o) (IsFit n)
fit_some n None h = tt
fit_some n (Some d) h = fit_unless n d h

fit_present : (n : ℕ) (q : List ℕ) (d : Data) → IsFit n d → IfSome (present q d) (IsFit (n - 1))
fit_present n q d h = fit_some (n - 1) (get q d) (get_fit n q d h)

fit_or : (o : Option Data) → IfSome o (IsFit 124) → IsFit 124 (unwrap_or o (object no_members))
fit_or None h = (omega arith, tt)
fit_or (Some d) h = h

field_is : (test : List ℕ → Bool) (field : Data) (c : ColumnDef) → IsFit 125 field → column_of test field ≡ Some (Ok c) → IsFieldOf test field c
unfolding column_of
field_is test field c h is =
    let m = unwrap_or (present (codes "metadata") field) (object no_members) in
    let by = gave (metadata_of field) (column_with test field) (Ok c) is in
    let good = chosen (is_some (as_object m) && is_whole m) (Some m) by.given by.is in
    let parts = and_parts (is_some (as_object m)) (is_whole m) good.0 in
    let same : m ≡ by.given = from_some (λ d. m ≡ d) m by.given good.1 refl in
    of_metadata test field m c (fit_or (present (codes "metadata") field) (fit_present 125 (codes "metadata") field h)) parts.0 parts.1 (ap (column_with test field) same ∙ by.gives)

-- ---- a schema

-- what each column has, whatever its field
record IsSound (test : List ℕ → Bool) (c : ColumnDef) : Type 0 where
  flag : test c.name ≡ c.partition
  writable : c.invariant ≡ false → IsWritableColumn c

record AreFieldsOf (test : List ℕ → Bool) (fields : Items) (columns : List ColumnDef) : Type 0 where
  names : names_of fields ≡ Some (column_names columns)
  each : AllByRecursion (IsSound test) columns

more_names : (field : Data) (fields : Items) (name : List ℕ) (names : List (List ℕ)) → needed as_str (codes "name") field ≡ Some name → names_of fields ≡ Some names → names_of (item field fields) ≡ Some (name ∷ names)
more_names field fields name names one more = rw (one, more) refl

-- the list that an element and this make
record IsJoined {A : Type 0} (a : A) (more : Option (List A)) (b : A) (rest : List A) : Type 0 where
  here : a ≡ b
  later : more ≡ Some rest

joined_parts : {A : Type 0} (a : A) (more : Option (List A)) (b : A) (rest : List A) → option_map (λ all. a ∷ all) more ≡ Some (b ∷ rest) → IsJoined a more b rest
joined_parts a None b rest is = absurd cc
joined_parts a (Some all) b rest is = record { here = cc; later = cc }

no_join : {A : Type 0} (a : A) (more : Option (List A)) → option_map (λ all. a ∷ all) more ≡ Some [] → ⊥
no_join a None is = absurd cc
no_join a (Some all) is = absurd cc

fields_are : (test : List ℕ → Bool) (fields : Items) (columns : List ColumnDef) → AreFitItems 125 fields → each_item (column_of test) fields ≡ Some (map Ok columns) → AreFieldsOf test fields columns
fields_are test no_items [] h is = record { names = refl; each = tt }
fields_are test no_items (c ∷ cs) h is = absurd cc
fields_are test (item d ds) [] h is =
    let by = gave (column_of test d) (λ a. option_map (λ more. a ∷ more) (each_item (column_of test) ds)) [] is in
    absurd (no_join by.given (each_item (column_of test) ds) by.gives)
fields_are test (item d ds) (c ∷ cs) h is =
    let by = gave (column_of test d) (λ a. option_map (λ more. a ∷ more) (each_item (column_of test) ds)) (Ok c ∷ map Ok cs) is in
    let both = joined_parts by.given (each_item (column_of test) ds) (Ok c) (map Ok cs) by.gives in
    let one = field_is test d c h.0 (by.is ∙ ap Some both.here) in
    let more = fields_are test ds cs h.1 both.later in
    record { names = more_names d ds c.name (column_names cs) one.name more.names; each = (record { flag = one.flag; writable = one.writable }, more.each) }

typed_parts : (front : List ColumnDef) (all : List (Result ColumnDef (List ℕ))) (columns : List ColumnDef) → typed front all ≡ Ok columns → (rest : List ColumnDef) × (columns ≡ front ++ rest) × (all ≡ map Ok rest)
unfolding typed
typed_parts front [] columns is = let same : front ≡ columns = cc in ([], sym (append-nil front ∙ same), refl)
typed_parts front (Ok c ∷ all) columns is =
    let later = typed_parts (front ++ c ∷ []) all columns is in
    (c ∷ later.0, later.1 ∙ append_assoc front (c ∷ []) later.0, ap (λ rest. Ok c ∷ rest) later.2)
typed_parts front (Err name ∷ all) columns is = absurd cc

-- what an answer stands on
record IsAnswer (known : Option (List (Result ColumnDef (List ℕ)))) (columns : List ColumnDef) : Type 0 where
  are : known ≡ Some (map Ok columns)
  few : nat_le (length columns) 500 ≡ true

few_by : (all columns : List ColumnDef) (few : Bool) → nat_le (length all) 500 ≡ few → cond few (Ok all) (Err fault.TooMany) ≡ Ok columns → (all ≡ columns) × (nat_le (length columns) 500 ≡ true)
few_by all columns true is e = let same : all ≡ columns = cc in (same, subst (λ (cs : List ColumnDef). nat_le (length cs) 500 ≡ true) same is)
few_by all columns false is e = absurd cc

types_by : (known : Result (List ColumnDef) (List ℕ)) (columns : List ColumnDef) → of_types known ≡ Ok columns → (known ≡ Ok columns) × (nat_le (length columns) 500 ≡ true)
types_by (Ok all) columns is = let parts = few_by all columns (nat_le (length all) 500) refl is in (ap Ok parts.0, parts.1)
types_by (Err name) columns is = absurd cc

answer_parts : (known : Option (List (Result ColumnDef (List ℕ)))) (columns : List ColumnDef) → answer known ≡ Ok columns → IsAnswer known columns
answer_parts None columns is = absurd cc
answer_parts (Some all) columns is =
    let types = types_by (typed [] all) columns is in
    let parts = typed_parts [] all columns types.0 in
    record { are = ap Some (parts.2 ∙ ap (map Ok) (sym parts.1)); few = types.1 }

fit_fields : (n : ℕ) (d : Data) (fields : Items) → IsFit n d → as_array d ≡ Some fields → AreFitItems (n - 1) fields
fit_fields n null fields h is = absurd cc
fit_fields n (boolean b) fields h is = absurd cc
fit_fields n (number x) fields h is = absurd cc
fit_fields n (string s) fields h is = absurd cc
fit_fields n (array ds) fields h is = from_some (AreFitItems (n - 1)) ds fields is h.1
fit_fields n (object ms) fields h is = absurd cc

fit_needed : (o : Option Data) (fields : Items) → IfSome o (IsFit 126) → option_and_then as_array o ≡ Some fields → AreFitItems 125 fields
fit_needed None fields h is = absurd cc
fit_needed (Some d) fields h is = fit_fields 126 d fields h is

struct_fields : (d : Data) (fields : Items) → IsFit 127 d → fields_of d ≡ Some fields → AreFitItems 125 fields
struct_fields d fields h is =
    let first = gave (needed as_str (codes "type") d) (λ type. option_and_then (λ fields. cond (bytes_eq type (codes "struct")) (Some fields) None) (needed as_array (codes "fields") d)) fields is in
    let second = gave (needed as_array (codes "fields") d) (λ fields. cond (bytes_eq first.given (codes "struct")) (Some fields) None) fields first.gives in
    let good = chosen (bytes_eq first.given (codes "struct")) (Some second.given) fields second.gives in
    from_some (AreFitItems 125) second.given fields good.1 (fit_needed (present (codes "fields") d) second.given (fit_present 127 (codes "fields") d h) second.is)

-- what the columns of a schema have
record IsSchema (partitions : List (List ℕ)) (columns : List ColumnDef) : Type 0 where
  few : nat_le (length columns) 500 ≡ true
  good : are_good_names (column_names columns) partitions ≡ true
  each : AllByRecursion (IsSound (is_among partitions)) columns

schema_parts : (text : List ℕ) (partitions : List (List ℕ)) (columns : List ColumnDef) → schema_of text partitions ≡ Ok columns → IsSchema partitions columns
schema_parts text partitions columns is =
    let test = is_among partitions in
    let whole = answer_parts (columns_of text partitions) columns is in
    let value = gave (read text) (struct_columns partitions) (map Ok columns) whole.are in
    let first = gave (fields_of value.given) (λ fields. option_and_then (λ names. cond (are_good_names names partitions) (each_item (column_of test) fields) None) (names_of fields)) (map Ok columns) value.gives in
    let second = gave (names_of first.given) (λ names. cond (are_good_names names partitions) (each_item (column_of test) first.given) None) (map Ok columns) first.gives in
    let last = chosen (are_good_names second.given partitions) (each_item (column_of test) first.given) (map Ok columns) second.gives in
    let fields = struct_fields value.given first.given (fit_read text value.given value.is) first.is in
    let are = fields_are test first.given columns fields last.1 in
    let same : second.given ≡ column_names columns = from_some (λ names. second.given ≡ names) second.given (column_names columns) (sym second.is ∙ are.names) refl in
    record { few = whole.few; good = subst (λ names. are_good_names names partitions ≡ true) same last.0; each = are.each }

sound_flags : (test : List ℕ → Bool) (columns : List ColumnDef) → AllByRecursion (IsSound test) columns → AllByRecursion (λ column. test column.name ≡ column.partition) columns
sound_flags test [] h = tt
sound_flags test (c ∷ cs) h = (h.0.flag, sound_flags test cs h.1)

all_flags : (test : List ℕ → Bool) (columns : List ColumnDef) → AllByRecursion (IsSound test) columns → All (λ column. test column.name ≡ column.partition) columns
all_flags test [] h = All-nil (λ column. test column.name ≡ column.partition)
all_flags test (c ∷ cs) h = All-cons (λ column. test column.name ≡ column.partition) c cs h.0.flag (all_flags test cs h.1)

all_writable : (test : List ℕ → Bool) (columns : List ColumnDef) → AllByRecursion (IsSound test) columns → All (λ column. column.invariant ≡ false) columns → All IsWritableColumn columns
all_writable test [] h none = All-nil IsWritableColumn
all_writable test (c ∷ cs) h none =
    All-cons IsWritableColumn c cs (h.0.writable (All-head (λ column. column.invariant ≡ false) c cs none)) (all_writable test cs h.1 (All-tail (λ column. column.invariant ≡ false) c cs none))

not_false : (b : Bool) → not b ≡ true → b ≡ false
not_false true is = absurd cc
not_false false is = refl

record AreGood (names partitions : List (List ℕ)) : Type 0 where
  named : list_any is_empty names ≡ false
  distinct : has_twins names ≡ false
  there : list_all (is_among names) partitions ≡ true
  kept : list_all (is_among partitions) names ≡ false

good_parts : (names partitions : List (List ℕ)) → are_good_names names partitions ≡ true → AreGood names partitions
good_parts names partitions is =
    let a = not (list_any is_empty names) in
    let b = not (has_twins names) in
    let c = list_all (is_among names) partitions in
    let last = and_parts (a && b && c) (not (list_all (is_among partitions) names)) is in
    let third = and_parts (a && b) c last.0 in
    let first = and_parts a b third.0 in
    record { named = not_false (list_any is_empty names) first.0; distinct = not_false (has_twins names) first.1; there = third.1; kept = not_false (list_all (is_among partitions) names) last.1 }

pub schema_writable : (text : List ℕ) (partitions : List (List ℕ)) (columns : List ColumnDef) → schema_of text partitions ≡ Ok columns → All (λ column. column.invariant ≡ false) columns → IsWritable columns
schema_writable text partitions columns is none =
    let parts = schema_parts text partitions columns is in
    let names = good_parts (column_names columns) partitions parts.good in
    record {
      few = leb-true (length columns) 500 parts.few;
      named = names.named;
      distinct = names.distinct;
      kept = sym (flags_back partitions columns (sound_flags (is_among partitions) columns parts.each)) ∙ names.kept;
      each = all_writable (is_among partitions) columns parts.each none;
    }

pub schema_partitions : (text : List ℕ) (partitions : List (List ℕ)) (columns : List ColumnDef) → schema_of text partitions ≡ Ok columns → ArePartitions partitions columns
schema_partitions text partitions columns is =
    let parts = schema_parts text partitions columns is in
    record {
      flags = all_flags (is_among partitions) columns parts.each;
      there = (good_parts (column_names columns) partitions parts.good).there;
    }
