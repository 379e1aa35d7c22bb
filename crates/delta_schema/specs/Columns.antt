-- What a schema text means (PROTOCOL.md, "Schema Serialization Format").
use Rattle.std.specs.Prelude.{ℕ, List, [], ◌∷◌, ◌++◌, length, Bool, true, false, not, ◌&&◌, ◌||◌, Option, Some, None, unwrap_or, is_some, codes, nat_le, Result, Ok, Err, if◌then◌else◌}
use Rattle.std.specs.Str.{bytes_eq}
use Rattle.serde_json.specs.Data.{Data, Items}
use Rattle.serde_json.specs.Find.{get, as_array, as_bool, as_str}
use Rattle.serde_json.specs.Read.{read}
use Rattle.dm_types.specs.Then.{go, ◌>>=◌}
use Rattle.dm_types.specs.declared.value.DataType.{DataType}
use Rattle.dm_types.specs.declared.value.DataType.TheVariants as kind
use Rattle.delta_actions.specs.Forms.{needed, each_item}
use Rattle.delta_schema.specs.declared.schema.ColumnDef.{ColumnDef}
use Rattle.delta_schema.specs.declared.fault.SchemaFault.{SchemaFault}
use Rattle.delta_schema.specs.declared.fault.SchemaFault.TheVariants as fault
use Rattle.delta_schema.specs.declared.columns.TheConstants.{MAX_COLUMNS}
use Rattle.delta_schema.specs.Types.{type_of}
use Rattle.delta_schema.specs.Names.{is_among, are_good_names}
use Rattle.delta_schema.specs.Metadata.{generation_name, invariant_name, id_name, physical_name, metadata_of, kept, id_of, identity_of, others_of}

-- ---- a field

abbrev pub is_long : Option DataType → Bool
is_long None = false
is_long (Some kind.Long) = true
is_long (Some k) = false

abbrev pub is_binary : Option DataType → Bool
is_binary None = false
is_binary (Some kind.Binary) = true
is_binary (Some k) = false

-- no table is partitioned by bytes, and an identity is of type long
abbrev pub is_misplaced : Option DataType → Bool → Bool → Bool
is_misplaced type partition identity = (partition && is_binary type) || (identity && not (is_long type))

-- the column that a field says, of this type; None is no field. The test says whether the table is partitioned by a
-- column of this name.
unfoldable pub described : (List ℕ → Bool) → Data → Data → DataType → Option ColumnDef
described is_partition field metadata kind = do
  name ← needed as_str (codes "name") field
  nullable ← needed as_bool (codes "nullable") field
  id ← kept id_of id_name metadata
  physical ← kept as_str physical_name metadata
  generation ← kept as_str generation_name metadata
  identity ← identity_of metadata
  Some (record {
    name = name;
    kind = kind;
    nullable = nullable;
    partition = is_partition name;
    id = id;
    physical = physical;
    generation = generation;
    identity = identity;
    invariant = is_some (get invariant_name metadata);
    other = others_of (is_some identity) metadata;
  })

-- the column of a field with this metadata, or its name alone where its type is none that a column may have; None is
-- no field. A field of another type must be well formed too, whatever stands for its type meanwhile.
abbrev pub column_with : (List ℕ → Bool) → Data → Data → Option (Result ColumnDef (List ℕ))
column_with is_partition field metadata = do
  type ← needed type_of (codes "type") field
  column ← described is_partition field metadata (unwrap_or type kind.Void)
  if is_misplaced type column.partition (is_some column.identity) then None
      else Some (if is_some type then Ok column else Err column.name)

unfoldable pub column_of : (List ℕ → Bool) → Data → Option (Result ColumnDef (List ℕ))
column_of is_partition field = metadata_of field >>= column_with is_partition field

-- ---- a schema

-- the fields of a schema, which is a struct
abbrev pub fields_of : Data → Option Items
fields_of d = do
  type ← needed as_str (codes "type") d
  fields ← needed as_array (codes "fields") d
  if bytes_eq type (codes "struct") then Some fields else None

abbrev pub names_of : Items → Option (List (List ℕ))
names_of fields = each_item (needed as_str (codes "name")) fields

-- the columns of a schema, each by its name alone where its type is none that a column may have; None is no schema
abbrev pub struct_columns : List (List ℕ) → Data → Option (List (Result ColumnDef (List ℕ)))
struct_columns partitions d = do
  fields ← fields_of d
  names ← names_of fields
  if are_good_names names partitions then each_item (column_of (is_among partitions)) fields else None

abbrev pub columns_of : List ℕ → List (List ℕ) → Option (List (Result ColumnDef (List ℕ)))
columns_of text partitions = read text >>= struct_columns partitions

-- columns behind these, where each has a type that a column may have; else the name of the first that hasn't
unfoldable pub typed : List ColumnDef → List (Result ColumnDef (List ℕ)) → Result (List ColumnDef) (List ℕ)
typed before [] = Ok before
typed before (column ∷ more) = go column (λ found. typed (before ++ found ∷ []) more)

abbrev pub of_types : Result (List ColumnDef) (List ℕ) → Result (List ColumnDef) SchemaFault
of_types (Ok columns) = if nat_le (length columns) MAX_COLUMNS then Ok columns else Err fault.TooMany
of_types (Err name) = Err (fault.UnsupportedType name)

-- the first column of a type that no column may have is refused, and then too many columns
abbrev pub answer : Option (List (Result ColumnDef (List ℕ))) → Result (List ColumnDef) SchemaFault
answer None = Err fault.BadSchema
answer (Some columns) = of_types (typed [] columns)

-- what a schema text says of a table that is partitioned by the columns of these names
abbrev pub schema_of : List ℕ → List (List ℕ) → Result (List ColumnDef) SchemaFault
schema_of text partitions = answer (columns_of text partitions)
