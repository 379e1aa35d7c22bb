-- The schemas that are read back from what is written for them, and the partition columns that they are read with.
use Rattle.std.specs.Prelude.{◌≡◌, ◌≤◌, ◌<◌, ◌-◌, ◌^◌, ℕ, ℤ, pos, negsuc, List, map, length, Bool, false, true, is_some, IfSome, Some, None}
use Rattle.std.specs.List.{All, list_all, list_any}
use Rattle.serde_json.specs.Data.{Data}
use Rattle.serde_json.specs.Written.{compact_text}
use Rattle.json_text.specs.Plain.{IsPlain}
use Rattle.dm_types.specs.Ranges.{IsWellFormed}
use Rattle.dm_types.specs.declared.value.DataType.{DataType}
use Rattle.dm_types.specs.declared.value.DataType.TheVariants as kind
use Rattle.delta_actions.specs.Writable.{AreOrdered}
use Rattle.delta_actions.specs.Written.{object_of}
use Rattle.delta_schema.specs.declared.schema.ColumnDef.{ColumnDef}
use Rattle.delta_schema.specs.declared.schema.IdentityRule.{IdentityRule}
use Rattle.delta_schema.specs.declared.columns.TheConstants.{MAX_COLUMNS}
use Rattle.delta_schema.specs.Columns.{is_misplaced}
use Rattle.delta_schema.specs.Metadata.{identity_of, is_kept, is_whole, is_zero}
use Rattle.delta_schema.specs.Names.{has_twins, is_among, is_empty}
use Rattle.delta_schema.specs.Written.{other_fields}

-- a whole number of so many bits, its sign among them
abbrev pub IsOfBits : ℕ → ℤ → Type 0
IsOfBits bits (pos n) = n < 2 ^ (bits - 1)
IsOfBits bits (negsuc n) = n < 2 ^ (bits - 1)

-- a type that a column may have
abbrev pub IsColumnType : DataType → Type 0
IsColumnType kind.Void = ⊥
IsColumnType k = IsWellFormed k

-- an identity's numbers are of 64 bits, and its step isn't 0
pub record IsRule (rule : IdentityRule) : Type 0 where
  pub start : IsOfBits 64 rule.start
  pub step : IsOfBits 64 rule.step
  pub moves : is_zero rule.step ≡ false
  pub mark : IfSome rule.mark (IsOfBits 64)

-- The compact text of a value whose numbers are whole and of 64 bits. JSON is read 127 deep, and a value of metadata
-- stands 4 deep in a schema: in its list of fields, in one of these, and in its metadata.
abbrev pub IsValueText : List ℕ → Type 0
IsValueText text = (d : Data) × (text ≡ compact_text d) × (is_whole d ≡ true) × IsPlain 123 d

-- a member of metadata that the column doesn't keep by itself
pub record IsOther (identity : Bool) (member : List ℕ × List ℕ) : Type 0 where
  pub free : is_kept identity member.0 ≡ false
  pub value : IsValueText member.1

-- Members of an identity that stand among the others, where the column has none, have their types and make no rule.
pub record IsWritableColumn (c : ColumnDef) : Type 0 where
  pub type : IsColumnType c.kind
  pub placed : is_misplaced (Some c.kind) c.partition (is_some c.identity) ≡ false
  pub id : IfSome c.id (IsOfBits 32)
  pub rule : IfSome c.identity IsRule
  pub no_rule : c.identity ≡ None → identity_of (object_of (other_fields c.other)) ≡ Some None
  pub no_invariant : c.invariant ≡ false
  pub ordered : AreOrdered c.other
  pub others : All (IsOther (is_some c.identity)) c.other

abbrev pub column_names : List ColumnDef → List (List ℕ)
column_names columns = map (λ column. column.name) columns

-- no name is empty, no two are equal up to the case of ASCII letters, and some column isn't a partition column
pub record IsWritable (columns : List ColumnDef) : Type 0 where
  pub few : length columns ≤ MAX_COLUMNS
  pub named : list_any is_empty (column_names columns) ≡ false
  pub distinct : has_twins (column_names columns) ≡ false
  pub kept : list_all (λ column. column.partition) columns ≡ false
  pub each : All IsWritableColumn columns

-- these are the names of the partition columns, in any order and each any number of times
pub record ArePartitions (partitions : List (List ℕ)) (columns : List ColumnDef) : Type 0 where
  pub flags : All (λ column. is_among partitions column.name ≡ column.partition) columns
  pub there : list_all (is_among (column_names columns)) partitions ≡ true
