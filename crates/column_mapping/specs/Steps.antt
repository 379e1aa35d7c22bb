-- What the search for the leaves of columns keeps: under each name, or each field id, where a column is that it
-- carries.
use Rattle.std.specs.Prelude.{◌≡◌, ℕ, ℤ, Bool, List, [], ◌∷◌, Option, Some, None, if◌then◌else◌}
use Rattle.std.specs.Borrow.{Bor}
use Rattle.std.specs.BTreeMap.{BTreeMap, get, get_by}
use Rattle.std.specs.Cmp.Lexicographic.{slice_cmp}
use Rattle.std.specs.Ordering.{nat_cmp, int_cmp, int_eq}
use Rattle.delta_schema.specs.declared.schema.ColumnDef.{ColumnDef}
use Rattle.parquet_meta.specs.declared.metadata.LeafSchema.{LeafSchema}
use Rattle.column_mapping.specs.declared.mode.Mode.{Mode}
use Rattle.column_mapping.specs.declared.mode.Mode.TheVariants as mode
use Rattle.column_mapping.specs.declared.places.PlaceChoice.{PlaceChoice}
use Rattle.column_mapping.specs.declared.places.PlaceChoice.TheVariants as choice
use Rattle.column_mapping.specs.Mapping.{shares}
use Rattle.column_mapping.specs.Places.{is_named, carriers}

-- what one leaf carries
abbrev pub single : Bool → ℕ → PlaceChoice
single top at = if top then choice.At at else choice.Wrong

-- one more leaf carries it
abbrev pub joined : Option PlaceChoice → PlaceChoice → PlaceChoice
joined None own = own
joined (Some earlier) own = choice.Wrong

-- what some leaves carry
abbrev pub carried : List (ℕ × LeafSchema) → Option PlaceChoice
carried [] = None
carried (carrier ∷ []) = Some (single carrier.1.top carrier.0)
carried (first ∷ second ∷ more) = Some choice.Wrong

-- what the map has under this name
abbrev pub named_in : BTreeMap (Bor (List ℕ)) PlaceChoice → List ℕ → Option PlaceChoice
named_in places name = get_by (λ key. slice_cmp nat_cmp name key.now) places

-- under each name the map has what the leaves carry by it
pub record KeepsByName (places : BTreeMap (Bor (List ℕ)) PlaceChoice) (leaves : List LeafSchema) : Type 0 where
  pub under : (name : List ℕ) → named_in places name ≡ carried (carriers (is_named (Some name)) leaves)

-- under each field id the map has what the leaves carry by it
pub record KeepsById (places : BTreeMap ℤ PlaceChoice) (leaves : List LeafSchema) : Type 0 where
  pub under : (id : ℤ)
      → get int_cmp places id ≡ carried (carriers (λ leaf. shares int_eq leaf.field_id (Some id)) leaves)

-- where a column is that the leaves carry so
abbrev pub settled : Bool → Option PlaceChoice → PlaceChoice
settled nullable None = if nullable then choice.Missing else choice.Wrong
settled nullable (Some found) = found

-- the same of a column of the schema
abbrev pub column_choice : ColumnDef → Option PlaceChoice → PlaceChoice
column_choice column found = if column.partition then choice.Partition else settled column.nullable found

-- the name by which a mode finds a column
abbrev pub name_in : Mode → ColumnDef → Option (List ℕ)
name_in mode.Plain column = Some column.name
name_in mode.ByName column = column.physical
name_in mode.ById column = None
