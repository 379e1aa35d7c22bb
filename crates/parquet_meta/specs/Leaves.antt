-- The leaves of a schema, whose elements are those of a tree in preorder by num_children
-- (parquet.thrift, FileMetaData.schema).
use Rattle.std.specs.Prelude.{ℕ, zero, suc, ℤ, pos, negsuc, ◌+◌, ◌==◌, nat_lt, nat_le, Bool, true, false}
use Rattle.std.specs.Prelude.{if◌then◌else◌, List, [], ◌∷◌, ◌++◌, Option, Some, None, option_map, unwrap_or}
use Rattle.dm_types.specs.Then.{◌>>=◌}
use Rattle.parquet_meta.specs.declared.elements.Element.{Element}
use Rattle.parquet_meta.specs.declared.metadata.LeafSchema.{LeafSchema}
use Rattle.parquet_meta.specs.declared.numbers.TheConstants.{FIXED_LEN_BYTE_ARRAY, OPTIONAL, REPEATED}

-- a number from 0 to `most`
abbrev pub up_to : ℕ → ℤ → Option ℕ
up_to most (pos n) = if nat_le n most then Some n else None
up_to most (negsuc n) = None

-- a number of children, none where none is told
abbrev pub count_of : Option ℤ → Option ℕ
count_of None = Some 0
count_of (Some (pos n)) = Some n
count_of (Some (negsuc n)) = None

-- a value of FIXED_LEN_BYTE_ARRAY has a length above 0
abbrev pub is_long_enough : ℕ → ℤ → Bool
is_long_enough physical (pos n) = if physical == FIXED_LEN_BYTE_ARRAY then nat_lt 0 n else true
is_long_enough physical (negsuc n) = if physical == FIXED_LEN_BYTE_ARRAY then false else true

-- A leaf: an element without children. `owner` is the top-level element that it is or is below.
abbrev pub leaf_of : Bool → Element → Element → Option LeafSchema
leaf_of top owner e = do
  repetition ← e.repetition >>= up_to REPEATED
  physical ← e.physical >>= up_to FIXED_LEN_BYTE_ARRAY
  if is_long_enough physical (unwrap_or e.length (pos 0)) then Some (record {
    name = owner.name;
    top = top;
    physical = physical;
    length = unwrap_or e.length (pos 0);
    optional = repetition == OPTIONAL;
    repeated = repetition == REPEATED;
    annotation = e.annotation;
    field_id = owner.field_id;
  }) else None

-- the leaf that an element of so many children is, or none, where it is a group
abbrev pub own_leaves : Bool → Element → Element → ℕ → Option (List LeafSchema)
own_leaves top owner e zero = option_map (λ leaf. leaf ∷ []) (leaf_of top owner e)
own_leaves top owner e (suc more) = option_map (λ r. []) (e.repetition >>= up_to REPEATED)

abbrev pub joined : List LeafSchema → Option (List LeafSchema) → Option (List LeafSchema)
joined own more = option_map (λ leaves. own ++ leaves) more

-- The leaves of `inside` trees below the top-level element `owner` and then of `outside` trees at the top, which take
-- up the elements. Each tree is an element and as many trees as it has children.
abbrev pub leaves_of : Element → ℕ → ℕ → List Element → Option (List LeafSchema)
leaves_of owner zero zero [] = Some []
leaves_of owner (suc inside) outside [] = None
leaves_of owner zero (suc outside) [] = None
leaves_of owner (suc inside) outside (e ∷ es) = do
  children ← count_of e.children
  own ← own_leaves false owner e children
  joined own (leaves_of owner (children + inside) outside es)
leaves_of owner zero (suc outside) (e ∷ es) = do
  children ← count_of e.children
  own ← own_leaves true e e children
  joined own (leaves_of e children outside es)
leaves_of owner zero zero (e ∷ es) = None

-- the leaves of a schema: the first element is its root, and no leaf, whatever else it says
abbrev pub schema_leaves : List Element → Option (List LeafSchema)
schema_leaves [] = None
schema_leaves (root ∷ es) = do
  children ← count_of root.children
  leaves_of root 0 children es
