-- Which leaf of a data file holds which column (PROTOCOL.md, "Column Mapping": what readers do).
use Rattle.std.specs.Prelude.{ℕ, ◌<◌, ⊤, length, Bool, List, [], ◌∷◌, filter, Option, Some, if◌then◌else◌}
use Rattle.std.specs.List.{enumerate_from}
use Rattle.std.specs.Ordering.{int_eq}
use Rattle.std.specs.Str.{bytes_eq}
use Rattle.delta_schema.specs.declared.schema.ColumnDef.{ColumnDef}
use Rattle.parquet_meta.specs.declared.metadata.LeafSchema.{LeafSchema}
use Rattle.column_mapping.specs.declared.mode.Mode.{Mode}
use Rattle.column_mapping.specs.declared.mode.Mode.TheVariants as mode
use Rattle.column_mapping.specs.declared.places.PlaceChoice.{PlaceChoice}
use Rattle.column_mapping.specs.declared.places.PlaceChoice.TheVariants as choice
use Rattle.column_mapping.specs.Mapping.{shares}

-- the leaf's top-level element has this name, byte for byte; without a name it has none
abbrev pub is_named : Option (List ℕ) → LeafSchema → Bool
is_named name leaf = shares bytes_eq (Some leaf.name) name

-- the leaf's top-level element carries the column: in mode none by the column's name, in mode name by its physical
-- name, in mode id by its id
abbrev pub carries : Mode → ColumnDef → LeafSchema → Bool
carries mode.Plain column leaf = is_named (Some column.name) leaf
carries mode.ByName column leaf = is_named column.physical leaf
carries mode.ById column leaf = shares int_eq leaf.field_id column.id

-- the leaves that pass the test, each with its place
unfoldable pub carriers : (LeafSchema → Bool) → List LeafSchema → List (ℕ × LeafSchema)
carriers test leaves = filter (λ carrier. test carrier.1) (enumerate_from 0 leaves)

-- where a column is, from the leaves whose elements carry it: one element holds it if it is a leaf itself, and not a
-- group; where none carries it, it reads as null if it may. Leaves of one group are several
abbrev pub choice_of : Bool → List (ℕ × LeafSchema) → PlaceChoice
choice_of nullable [] = if nullable then choice.Missing else choice.Wrong
choice_of nullable (carrier ∷ []) = if carrier.1.top then choice.At carrier.0 else choice.Wrong
choice_of nullable (first ∷ second ∷ more) = choice.Wrong

-- where the column is among these leaves, if the test says which elements carry it; a partition column isn't in data
-- files
abbrev pub place_by : (ColumnDef → LeafSchema → Bool) → List LeafSchema → ColumnDef → PlaceChoice
place_by test leaves column =
    if column.partition then choice.Partition else choice_of column.nullable (carriers (test column) leaves)

-- the same in a mode
abbrev pub place_of : Mode → List LeafSchema → ColumnDef → PlaceChoice
place_of mode leaves column = place_by (carries mode) leaves column

-- the leaf that is named, if one is, is one of these
abbrev pub IsWithin : List LeafSchema → PlaceChoice → Type 0
IsWithin leaves choice.Partition = ⊤
IsWithin leaves choice.Missing = ⊤
IsWithin leaves (choice.At at) = at < length leaves
IsWithin leaves choice.Wrong = ⊤
