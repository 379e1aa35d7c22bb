-- What is written for a schema is read as that schema.
use Rattle.std.proofs.Common.{◌≡◌, ℕ, ℤ, pos, negsuc, ◌-◌, ◌<◌, ◌^◌, List, [], ◌∷◌, ◌++◌, map, length, Bool, true, false, is_some, cond, Option, Some, None, option_map, option_and_then, Ok, Err, bytes_eq, refl, sym, ap, ◌∙◌, subst, arith, lt-ltb, le-leb, append-nil, append_assoc, Ordering, Less, Equal, Greater, nat_cmp}
use Rattle.std.specs.Ordering.{match_ordering}
use Rattle.std.specs.Cmp.Lexicographic.{slice_cmp}
use Rattle.std.specs.Prelude.{IfSome, codes, nat_le}
use Rattle.std.specs.List.{All, AllByRecursion, list_all}
use Rattle.std.proofs.lemmas.Bool.{and_parts}
use Rattle.std.proofs.lemmas.List.Elements.{All-head, All-tail}
use Rattle.serde_json.specs.Data.{Data, string, object, Items, item, Members, no_members, member, put}
use Rattle.serde_json.specs.Find.{as_array, as_bool, as_str, get, get_member}
use Rattle.serde_json.specs.Read.{read}
use Rattle.serde_json.specs.View.{items_of}
use Rattle.serde_json.specs.Written.{compact_text}
use Rattle.json_text.specs.Plain.{ArePlain, ArePlainItems, IsPlain}
use Rattle.json_text.proofs.Plain.{ArePlain-put, read-compact_text}
use Rattle.delta_actions.specs.Forms.{each_item, maybe, needed, present, unless_null, whole}
use Rattle.delta_actions.specs.Written.{Fields, integer, members_onto, object_of}
use Rattle.delta_schema.specs.declared.schema.ColumnDef.{ColumnDef}
use Rattle.delta_schema.specs.declared.schema.IdentityRule.{IdentityRule}
use Rattle.delta_schema.specs.declared.fault.SchemaFault.TheVariants as fault
use Rattle.delta_schema.specs.Columns.{answer, of_types, is_misplaced, column_of, column_with, described, fields_of, names_of, schema_of, struct_columns, typed}
use Rattle.delta_schema.specs.Metadata.{explicit_name, generation_name, id_name, id_of, identity_of, invariant_name, is_kept, is_whole, kept, mark_name, metadata_of, are_whole_members, other_members, others_of, physical_name, start_name, step_name}
use Rattle.delta_schema.specs.Names.{are_good_names, is_among}
use Rattle.delta_schema.specs.Types.{type_of}
use Rattle.delta_schema.specs.Writable.{ArePartitions, IsOfBits, IsOther, IsRule, IsWritable, IsWritableColumn, column_names}
use Rattle.delta_schema.specs.Written.{field_data, field_fields, metadata_data, other_fields, own_fields, rule_fields, schema_data, schema_fields}
use Rattle.delta_schema.proofs.Getting.{found, get-object, get-onto, needed-object, pick}
use Rattle.delta_schema.proofs.Listed.{AreKept, value_of, get_none, others-onto, others_back, others_listed}
use Rattle.delta_schema.proofs.Onto.{onto_both}
use Rattle.delta_schema.proofs.Putting.{HaveFields, fields_keep, have_both}
use Rattle.delta_schema.proofs.Spelling.{type_back}

by_recursion : {A : Type 0} (P : A → Type 0) (xs : List A) → All P xs → AllByRecursion P xs
by_recursion P [] h = tt
by_recursion P (x ∷ xs) h = (All-head P x xs h, by_recursion P xs (All-tail P x xs h))

-- ---- the members of metadata

-- a name of none of an identity's members
abbrev IsFree : List ℕ → Type 0
IsFree q = (bytes_eq q start_name ≡ false) × (bytes_eq q step_name ≡ false) × (bytes_eq q mark_name ≡ false) × (bytes_eq q explicit_name ≡ false)

past_rule : (q : List ℕ) (identity : Option IdentityRule) (base : Option Data) → IsFree q → found q (rule_fields identity) base ≡ base
past_rule q None base free = refl
past_rule q (Some rule) base free = rw (free.0, free.1, free.2, free.3) refl

maybe_text : (o : Option (List ℕ)) → maybe as_str (pick true (option_map string o) None) ≡ Some o
maybe_text None = refl
maybe_text (Some t) = refl

whole_back : (z : ℤ) → IsOfBits 64 z → whole (integer z) ≡ Some z
whole_back (pos n) h = rw (lt-ltb n (2 ^ 63) h) refl
whole_back (negsuc n) h = refl

maybe_whole : (o : Option ℤ) → IfSome o (IsOfBits 64) → maybe whole (pick true (option_map integer o) None) ≡ Some o
maybe_whole None h = refl
maybe_whole (Some z) h = ap (option_map Some) (whole_back z h)

id_back : (z : ℤ) → IsOfBits 32 z → id_of (integer z) ≡ Some z
id_back (pos n) h = rw (lt-ltb n (2 ^ 63) (omega (arith, h)), le-leb n 2147483647 (omega (arith, h))) refl
id_back (negsuc n) h = rw (le-leb n 2147483647 (omega (arith, h))) refl

maybe_id : (o : Option ℤ) → IfSome o (IsOfBits 32) → maybe id_of (pick true (option_map integer o) None) ≡ Some o
maybe_id None h = refl
maybe_id (Some z) h = ap (option_map Some) (id_back z h)

-- the members of an identity are read as it
rule_back : (identity : Option IdentityRule) (ms : Members) (metadata : Data)
    → get start_name metadata ≡ found start_name (rule_fields identity) (get_member start_name ms)
    → get step_name metadata ≡ found step_name (rule_fields identity) (get_member step_name ms)
    → get mark_name metadata ≡ found mark_name (rule_fields identity) (get_member mark_name ms)
    → get explicit_name metadata ≡ found explicit_name (rule_fields identity) (get_member explicit_name ms)
    → IfSome identity IsRule → (is_some identity ≡ true → get_member mark_name ms ≡ None) → (identity ≡ None → identity_of (object ms) ≡ Some None) → identity_of metadata ≡ Some identity
rule_back None ms metadata start step mark explicit h none no_rule = rw (start, step, mark, explicit) (no_rule refl)
rule_back (Some rule) ms metadata start step mark explicit h none no_rule =
    let marked : kept whole mark_name metadata ≡ Some rule.mark =
    ap (maybe whole) (mark ∙ ap (pick true (option_map integer rule.mark)) (none refl)) ∙ maybe_whole rule.mark h.mark in
    rw (start, step, explicit, marked, whole_back rule.start h.start, whole_back rule.step h.step, h.moves) refl

rule_kept : (identity : Option IdentityRule) → AreKept (is_some identity) (rule_fields identity)
rule_kept None = tt
rule_kept (Some rule) = (refl, (refl, (refl, (refl, tt))))

own_kept : (c : ColumnDef) → AreKept (is_some c.identity) (own_fields c)
own_kept c = (refl, (refl, (refl, rule_kept c.identity)))

mark_kept : (i : Bool) → i ≡ true → is_kept i mark_name ≡ true
mark_kept true is = refl
mark_kept false is = absurd cc

-- ---- what is read of parts that are known

described_by : (test : List ℕ → Bool) (field metadata : Data) (c : ColumnDef) → needed as_str (codes "name") field ≡ Some c.name → needed as_bool (codes "nullable") field ≡ Some c.nullable
    → kept id_of id_name metadata ≡ Some c.id → kept as_str physical_name metadata ≡ Some c.physical → kept as_str generation_name metadata ≡ Some c.generation → identity_of metadata ≡ Some c.identity
    → test c.name ≡ c.partition → is_some (get invariant_name metadata) ≡ c.invariant → others_of (is_some c.identity) metadata ≡ c.other → described test field metadata c.kind ≡ Some c
unfolding described
described_by test field metadata c name nullable id physical generation identity partition invariant other =
    rw (name, nullable, id, physical, generation, identity, partition, invariant, other) refl

column_by : (test : List ℕ → Bool) (field metadata : Data) (c : ColumnDef) → needed type_of (codes "type") field ≡ Some (Some c.kind) → described test field metadata c.kind ≡ Some c
    → is_misplaced (Some c.kind) c.partition (is_some c.identity) ≡ false → column_with test field metadata ≡ Some (Ok c)
column_by test field metadata c kind is placed = rw (kind, is, placed) refl

joined_item : {A : Type 0} (form : Data → Option A) (d : Data) (ds : Items) (a : A) (all : List A) → form d ≡ Some a → each_item form ds ≡ Some all → each_item form (item d ds) ≡ Some (a ∷ all)
joined_item form d ds a all one more = rw (one, more) refl

fields_by : (d : Data) (fields : Items) → needed as_str (codes "type") d ≡ Some (codes "struct") → needed as_array (codes "fields") d ≡ Some fields → fields_of d ≡ Some fields
fields_by d fields type found_as = rw (type, found_as) refl

schema_by : (text : List ℕ) (partitions : List (List ℕ)) (d : Data) (fields : Items) (names : List (List ℕ)) (columns : List ColumnDef) → read text ≡ Some d → fields_of d ≡ Some fields → names_of fields ≡ Some names
    → are_good_names names partitions ≡ true → each_item (column_of (is_among partitions)) fields ≡ Some (map Ok columns) → typed [] (map Ok columns) ≡ Ok columns → nat_le (length columns) 500 ≡ true
    → schema_of text partitions ≡ Ok columns
schema_by text partitions d fields names columns reads of_fields of_names good each types few =
    let struct : struct_columns partitions d ≡ Some (map Ok columns) =
    ap (λ o. option_and_then (λ fields. option_and_then (λ names. cond (are_good_names names partitions) (each_item (column_of (is_among partitions)) fields) None) (names_of fields)) o) of_fields
    ∙ ap (λ o. option_and_then (λ names. cond (are_good_names names partitions) (each_item (column_of (is_among partitions)) fields) None) o) of_names
    ∙ ap (λ b. cond b (each_item (column_of (is_among partitions)) fields) None) good ∙ each in
    ap answer (ap (option_and_then (struct_columns partitions)) reads ∙ struct) ∙ ap of_types types ∙ ap (λ b. cond b (Ok columns) (Err fault.TooMany)) few

name_read : (c : ColumnDef) → needed as_str (codes "name") (field_data c) ≡ Some c.name
name_read c = needed-object as_str (codes "name") (field_fields c)

module _ (c : ColumnDef) (w : IsWritableColumn c) (others : AllByRecursion (IsOther (is_some c.identity)) c.other) where
  abbrev i : Bool
  i = is_some c.identity

  abbrev ms : Members
  ms = members_onto no_members (other_fields c.other)

  metadata_is : metadata_data c ≡ object (members_onto ms (own_fields c))
  metadata_is = ap object (onto_both no_members (other_fields c.other) (own_fields c))

  get-metadata : (q : List ℕ) → get q (metadata_data c) ≡ found q (own_fields c) (get_member q ms)
  get-metadata q = ap (get q) metadata_is ∙ get-onto q (own_fields c) ms

  none_there : (q : List ℕ) → is_kept i q ≡ true → get_member q ms ≡ None
  none_there q kept = ap (get_member q) (others_listed c.other w.ordered) ∙ get_none i q c.other others kept

  get-kept : (q : List ℕ) → is_kept i q ≡ true → get q (metadata_data c) ≡ found q (own_fields c) None
  get-kept q kept = get-metadata q ∙ ap (found q (own_fields c)) (none_there q kept)

  generation_back : kept as_str generation_name (metadata_data c) ≡ Some c.generation
  generation_back =
      ap (maybe as_str) (get-kept generation_name refl ∙ past_rule generation_name c.identity (pick true (option_map string c.generation) None) (refl, refl, refl, refl)) ∙ maybe_text c.generation

  physical_back : kept as_str physical_name (metadata_data c) ≡ Some c.physical
  physical_back =
      ap (maybe as_str) (get-kept physical_name refl ∙ past_rule physical_name c.identity (pick true (option_map string c.physical) None) (refl, refl, refl, refl)) ∙ maybe_text c.physical

  number_back : kept id_of id_name (metadata_data c) ≡ Some c.id
  number_back =
      ap (maybe id_of) (get-kept id_name refl ∙ past_rule id_name c.identity (pick true (option_map integer c.id) None) (refl, refl, refl, refl)) ∙ maybe_id c.id w.id

  invariant_back : is_some (get invariant_name (metadata_data c)) ≡ c.invariant
  invariant_back = ap is_some (get-kept invariant_name refl ∙ past_rule invariant_name c.identity None (refl, refl, refl, refl)) ∙ sym w.no_invariant

  identity_back : identity_of (metadata_data c) ≡ Some c.identity
  identity_back =
      rule_back c.identity ms (metadata_data c) (get-metadata start_name) (get-metadata step_name) (get-metadata mark_name) (get-metadata explicit_name) w.rule (λ is. none_there mark_name (mark_kept i is)) w.no_rule

  other_back : others_of i (metadata_data c) ≡ c.other
  other_back =
      ap (others_of i) metadata_is ∙ others-onto i (own_fields c) ms (own_kept c) ∙ ap (other_members i) (others_listed c.other w.ordered) ∙ others_back i c.other others

  -- ---- the field

  nullable_back : needed as_bool (codes "nullable") (field_data c) ≡ Some c.nullable
  nullable_back = needed-object as_bool (codes "nullable") (field_fields c)

  kind_back : needed type_of (codes "type") (field_data c) ≡ Some (Some c.kind)
  kind_back = needed-object type_of (codes "type") (field_fields c) ∙ ap Some (type_back c.kind w.type)

  module _ (test : List ℕ → Bool) (flag : test c.name ≡ c.partition) where
    described_back : described test (field_data c) (metadata_data c) c.kind ≡ Some c
    described_back = described_by test (field_data c) (metadata_data c) c (name_read c) nullable_back number_back physical_back generation_back identity_back flag invariant_back other_back

    column_back : column_with test (field_data c) (metadata_data c) ≡ Some (Ok c)
    column_back = column_by test (field_data c) (metadata_data c) c kind_back described_back w.placed

-- ---- whole numbers in metadata

bits_whole : (z : ℤ) → IsOfBits 64 z → is_whole (integer z) ≡ true
bits_whole (pos n) h = rw (lt-ltb n (2 ^ 63) h) refl
bits_whole (negsuc n) h = refl

bits_more : (z : ℤ) → IsOfBits 32 z → IsOfBits 64 z
bits_more (pos n) h = omega (arith, h)
bits_more (negsuc n) h = omega (arith, h)

bits_plain : (z : ℤ) → IsOfBits 64 z → IsPlain 123 (integer z)
bits_plain (pos n) h = omega (arith, h)
bits_plain (negsuc n) h = h

-- a value whose numbers are whole, and plain
abbrev IsGood : Data → Type 0
IsGood d = (is_whole d ≡ true) × IsPlain 123 d

abbrev AreGood : Members → Type 0
AreGood ms = (are_whole_members ms ≡ true) × ArePlain 123 ms

whole_by : (o : Ordering) (a b c : Members) → are_whole_members a ≡ true → are_whole_members b ≡ true → are_whole_members c ≡ true → are_whole_members (match_ordering o a b c) ≡ true
whole_by Less a b c x y z = x
whole_by Equal a b c x y z = y
whole_by Greater a b c x y z = z

whole_put : (k : List ℕ) (d : Data) (ms : Members) → is_whole d ≡ true → are_whole_members ms ≡ true → are_whole_members (put k d ms) ≡ true
whole_put k d no_members x h = rw x refl
whole_put k d (member l e ms) x h =
    let parts = and_parts (is_whole e) (are_whole_members ms) h in
    whole_by (slice_cmp nat_cmp k l) _ _ _ (rw x h) (rw (x, parts.1) refl) (rw (parts.0, whole_put k d ms x parts.1) refl)

good_put : (k : List ℕ) (d : Data) (ms : Members) → IsGood d → AreGood ms → AreGood (put k d ms)
good_put k d ms x h = (whole_put k d ms x.0 h.0, ArePlain-put 123 k d ms x.1 h.1)

good_whole : (z : ℤ) → IsOfBits 64 z → IsGood (integer z)
good_whole z h = (bits_whole z h, bits_plain z h)

good_maybe : (o : Option ℤ) → IfSome o (IsOfBits 64) → IfSome (option_map integer o) IsGood
good_maybe None h = tt
good_maybe (Some z) h = good_whole z h

good_id : (o : Option ℤ) → IfSome o (IsOfBits 32) → IfSome (option_map integer o) IsGood
good_id None h = tt
good_id (Some z) h = good_whole z (bits_more z h)

good_text : (o : Option (List ℕ)) → IfSome (option_map string o) IsGood
good_text None = tt
good_text (Some t) = (refl, tt)

good_rule : (identity : Option IdentityRule) → IfSome identity IsRule → HaveFields IsGood (rule_fields identity)
good_rule None h = tt
good_rule (Some rule) h = (good_whole rule.start h.start, (good_whole rule.step h.step, (good_maybe rule.mark h.mark, ((refl, tt), tt))))

good_others : (i : Bool) (ps : List (List ℕ × List ℕ)) → AllByRecursion (IsOther i) ps → HaveFields IsGood (other_fields ps)
good_others i [] h = tt
good_others i (p ∷ ps) h =
    let v = h.0.value in
    (subst (λ o. IfSome o IsGood) (sym (value_of p.1 v.0 v.1 v.2 v.3)) (v.2, v.3), good_others i ps h.1)

good_metadata : (c : ColumnDef) → IsWritableColumn c → AllByRecursion (IsOther (is_some c.identity)) c.other → AreGood (members_onto no_members (other_fields c.other ++ own_fields c))
good_metadata c w others =
    fields_keep IsGood AreGood good_put (other_fields c.other ++ own_fields c) no_members
    (have_both IsGood (other_fields c.other) (own_fields c) (good_others (is_some c.identity) c.other others)
    (good_text c.generation, (good_id c.id w.id, (good_text c.physical, good_rule c.identity w.rule)))) (refl, tt)

-- ---- a column

metadata_back : (c : ColumnDef) → is_whole (metadata_data c) ≡ true → metadata_of (field_data c) ≡ Some (metadata_data c)
metadata_back c whole =
    let there : present (codes "metadata") (field_data c) ≡ Some (metadata_data c) = ap (option_and_then unless_null) (get-object (codes "metadata") (field_fields c)) in
    rw (there, whole) refl

plain_fields : (n : ℕ) → 0 < n → (fs : Fields) → HaveFields (IsPlain (n - 1)) fs → IsPlain n (object_of fs)
plain_fields n some fs h = (some, fields_keep (IsPlain (n - 1)) (ArePlain (n - 1)) (ArePlain-put (n - 1)) fs no_members h tt)

-- a column is read from its field, which is plain
record IsBack (partitions : List (List ℕ)) (c : ColumnDef) : Type 0 where
  column : column_of (is_among partitions) (field_data c) ≡ Some (Ok c)
  plain : IsPlain 125 (field_data c)

is_back : (partitions : List (List ℕ)) (c : ColumnDef) → IsWritableColumn c → is_among partitions c.name ≡ c.partition → IsBack partitions c
unfolding column_of
is_back partitions c w flag =
    let others = by_recursion (IsOther (is_some c.identity)) c.other w.others in
    let good = good_metadata c w others in
    record {
      column = rw (metadata_back c good.0) (column_back c w others (is_among partitions) flag);
      plain = plain_fields 125 (omega arith) (field_fields c) ((omega arith, good.1), (tt, (tt, (tt, tt))));
    }

-- ---- a schema

module _ (partitions : List (List ℕ)) where
  columns_back : (cs : List ColumnDef) → AllByRecursion (IsBack partitions) cs → each_item (column_of (is_among partitions)) (items_of (map field_data cs)) ≡ Some (map Ok cs)
  columns_back [] h = refl
  columns_back (c ∷ cs) h = joined_item (column_of (is_among partitions)) (field_data c) (items_of (map field_data cs)) (Ok c) (map Ok cs) h.0.column (columns_back cs h.1)

  plain_items : (cs : List ColumnDef) → AllByRecursion (IsBack partitions) cs → ArePlainItems 125 (items_of (map field_data cs))
  plain_items [] h = tt
  plain_items (c ∷ cs) h = (h.0.plain, plain_items cs h.1)

names_back : (cs : List ColumnDef) → names_of (items_of (map field_data cs)) ≡ Some (column_names cs)
names_back [] = refl
names_back (c ∷ cs) = joined_item (needed as_str (codes "name")) (field_data c) (items_of (map field_data cs)) c.name (column_names cs) (name_read c) (names_back cs)

typed_back : (front cs : List ColumnDef) → typed front (map Ok cs) ≡ Ok (front ++ cs)
unfolding typed
typed_back front [] = ap Ok (sym (append-nil front))
typed_back front (c ∷ cs) = typed_back (front ++ c ∷ []) cs ∙ ap Ok (append_assoc front (c ∷ []) cs)

pub flags_back : (partitions : List (List ℕ)) (cs : List ColumnDef) → AllByRecursion (λ c. is_among partitions c.name ≡ c.partition) cs
    → list_all (is_among partitions) (column_names cs) ≡ list_all (λ c. c.partition) cs
flags_back partitions [] h = refl
flags_back partitions (c ∷ cs) h = rw (h.0, flags_back partitions cs h.1) refl

each_back : (partitions : List (List ℕ)) (cs : List ColumnDef) → AllByRecursion IsWritableColumn cs → AllByRecursion (λ c. is_among partitions c.name ≡ c.partition) cs → AllByRecursion (IsBack partitions) cs
each_back partitions [] w h = tt
each_back partitions (c ∷ cs) w h = (is_back partitions c w.0 h.0, each_back partitions cs w.1 h.1)

pub schema_back : (columns : List ColumnDef) (partitions : List (List ℕ)) → IsWritable columns → ArePartitions partitions columns → schema_of (compact_text (schema_data columns)) partitions ≡ Ok columns
schema_back columns partitions w are =
    let flags = by_recursion (λ c. is_among partitions c.name ≡ c.partition) columns are.flags in
    let each = each_back partitions columns (by_recursion IsWritableColumn columns w.each) flags in
    let plain : IsPlain 127 (schema_data columns) = plain_fields 127 (omega arith) (schema_fields columns) ((omega arith, plain_items partitions columns each), (tt, tt)) in
    let fields : fields_of (schema_data columns) ≡ Some (items_of (map field_data columns)) =
    fields_by (schema_data columns) (items_of (map field_data columns)) (needed-object as_str (codes "type") (schema_fields columns)) (needed-object as_array (codes "fields") (schema_fields columns)) in
    let good : are_good_names (column_names columns) partitions ≡ true = rw (w.named, w.distinct, are.there, flags_back partitions columns flags, w.kept) refl in
    schema_by (compact_text (schema_data columns)) partitions (schema_data columns) (items_of (map field_data columns)) (column_names columns) columns (read-compact_text (schema_data columns) plain) fields (names_back columns) good
    (columns_back partitions columns each) (typed_back [] columns) (le-leb (length columns) 500 w.few)
