-- What is written for a schema (PROTOCOL.md, "Schema Serialization Format").
use Rattle.std.specs.Prelude.{ℕ, List, [], ◌∷◌, ◌++◌, map, Option, Some, None, option_map, codes, if◌then◌else◌}
use Rattle.serde_json.specs.Data.{Data, boolean, string, array}
use Rattle.serde_json.specs.Read.{read}
use Rattle.serde_json.specs.View.{items_of}
use Rattle.serde_json.specs.Written.{compact_text}
use Rattle.dm_types.specs.Then.{◌>>=◌}
use Rattle.delta_actions.specs.Written.{integer, Fields, object_of}
use Rattle.delta_schema.specs.declared.schema.ColumnDef.{ColumnDef}
use Rattle.delta_schema.specs.declared.schema.IdentityRule.{IdentityRule}
use Rattle.delta_schema.specs.Types.{type_name}
use Rattle.delta_schema.specs.Metadata.{generation_name, id_name, physical_name, start_name, step_name, mark_name, explicit_name, is_whole}

-- ---- metadata

-- the members of an identity (PROTOCOL.md, "Identity Columns"); a mark is left out where there is none
abbrev pub rule_fields : Option IdentityRule → Fields
rule_fields None = []
rule_fields (Some rule) =
    (start_name, Some (integer rule.start))
    ∷ (step_name, Some (integer rule.step))
    ∷ (mark_name, option_map integer rule.mark)
    ∷ (explicit_name, Some (boolean rule.explicit))
    ∷ []

-- the members that say how a column is used
abbrev pub own_fields : ColumnDef → Fields
own_fields c =
    (generation_name, option_map string c.generation)
    ∷ (id_name, option_map integer c.id)
    ∷ (physical_name, option_map string c.physical)
    ∷ rule_fields c.identity

-- the value that a text is, where its numbers are whole
abbrev pub whole_value : List ℕ → Option Data
whole_value text = read text >>= λ d. if is_whole d then Some d else None

-- the other members, each with the value that its text is; a text that is none is left out
abbrev pub other_fields : List (List ℕ × List ℕ) → Fields
other_fields others = map (λ member. (member.0, whole_value member.1)) others

-- ---- a schema; `object_of` has members in byte order of their names, and of equal names the last one's value

abbrev pub metadata_data : ColumnDef → Data
metadata_data c = object_of (other_fields c.other ++ own_fields c)

abbrev pub field_fields : ColumnDef → Fields
field_fields c =
    (codes "metadata", Some (metadata_data c))
    ∷ (codes "name", Some (string c.name))
    ∷ (codes "nullable", Some (boolean c.nullable))
    ∷ (codes "type", Some (string (type_name c.kind)))
    ∷ []

abbrev pub field_data : ColumnDef → Data
field_data c = object_of (field_fields c)

abbrev pub schema_fields : List ColumnDef → Fields
schema_fields columns =
    (codes "fields", Some (array (items_of (map field_data columns))))
    ∷ (codes "type", Some (string (codes "struct")))
    ∷ []

abbrev pub schema_data : List ColumnDef → Data
schema_data columns = object_of (schema_fields columns)

-- the text of a schema, compact JSON
unfoldable pub written : List ColumnDef → List ℕ
written columns = compact_text (schema_data columns)
