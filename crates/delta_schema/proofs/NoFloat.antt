-- What is written for a schema has no float.
use Rattle.std.proofs.Common.{◌≡◌, List, [], ◌∷◌, ◌++◌, map, ℕ, ℤ, pos, negsuc, Bool, true, false, cond, Option, Some, None, option_map, option_and_then, refl}
use Rattle.std.specs.Prelude.{IfSome}
use Rattle.serde_json.specs.Data.{Data, string, no_members}
use Rattle.serde_json.specs.Read.{read}
use Rattle.serde_json.specs.View.{items_of}
use Rattle.serde_json.specs.Written.{has_float, items_have_float, members_have_float}
use Rattle.json_text.proofs.Plain.{no_float-put}
use Rattle.delta_actions.specs.Written.{Fields, integer, object_of}
use Rattle.delta_schema.specs.declared.schema.ColumnDef.{ColumnDef}
use Rattle.delta_schema.specs.declared.schema.IdentityRule.{IdentityRule}
use Rattle.delta_schema.specs.Metadata.{is_whole}
use Rattle.delta_schema.specs.Written.{field_data, field_fields, metadata_data, other_fields, own_fields, rule_fields, schema_data, schema_fields}
use Rattle.delta_schema.proofs.Putting.{HaveFields, fields_keep, have_both}
use Rattle.delta_schema.proofs.Whole.{no_float}

abbrev HasNone : Data → Type 0
HasNone d = has_float d ≡ false

fields_none : (fs : Fields) → HaveFields HasNone fs → HasNone (object_of fs)
fields_none fs h = fields_keep HasNone (λ ms. members_have_float ms ≡ false) no_float-put fs no_members h refl

integer_none : (z : ℤ) → HasNone (integer z)
integer_none (pos n) = refl
integer_none (negsuc n) = refl

maybe_integer : (o : Option ℤ) → IfSome (option_map integer o) HasNone
maybe_integer None = tt
maybe_integer (Some z) = integer_none z

maybe_text : (o : Option (List ℕ)) → IfSome (option_map string o) HasNone
maybe_text None = tt
maybe_text (Some t) = refl

rule_none : (identity : Option IdentityRule) → HaveFields HasNone (rule_fields identity)
rule_none None = tt
rule_none (Some rule) = (integer_none rule.start, (integer_none rule.step, (maybe_integer rule.mark, (refl, tt))))

own_none : (c : ColumnDef) → HaveFields HasNone (own_fields c)
own_none c = (maybe_text c.generation, (maybe_integer c.id, (maybe_text c.physical, rule_none c.identity)))

whole_none : (d : Data) (whole : Bool) → is_whole d ≡ whole → IfSome (cond whole (Some d) None) HasNone
whole_none d true is = no_float d is
whole_none d false is = tt

value_none : (o : Option Data) → IfSome (option_and_then (λ d. cond (is_whole d) (Some d) None) o) HasNone
value_none None = tt
value_none (Some d) = whole_none d (is_whole d) refl

others_none : (others : List (List ℕ × List ℕ)) → HaveFields HasNone (other_fields others)
others_none [] = tt
others_none (other ∷ others) = (value_none (read other.1), others_none others)

metadata_none : (c : ColumnDef) → HasNone (metadata_data c)
metadata_none c = fields_none (other_fields c.other ++ own_fields c) (have_both HasNone (other_fields c.other) (own_fields c) (others_none c.other) (own_none c))

field_none : (c : ColumnDef) → HasNone (field_data c)
field_none c = fields_none (field_fields c) (metadata_none c, (refl, (refl, (refl, tt))))

items_none : (columns : List ColumnDef) → items_have_float (items_of (map field_data columns)) ≡ false
items_none [] = refl
items_none (c ∷ columns) = rw (field_none c, items_none columns) refl

pub schema_none : (columns : List ColumnDef) → has_float (schema_data columns) ≡ false
schema_none columns = fields_none (schema_fields columns) (items_none columns, (refl, tt))
