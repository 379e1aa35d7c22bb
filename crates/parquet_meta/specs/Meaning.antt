-- What a footer says (parquet.thrift, FileMetaData), and which bytes are one.
use Rattle.std.specs.Prelude.{ℕ, ℤ, pos, ◌+ℤ◌, ◌==◌, ◌&&◌, not, Bool, if◌then◌else◌, List, [], ◌∷◌, length, zip, ◌≤ℤ◌, ◌≡◌, true}
use Rattle.std.specs.Prelude.{Option, Some, None, Result, Ok, Err}
use Rattle.std.specs.List.{list_all}
use Rattle.std.specs.Ordering.{int_eq}
use Rattle.std.specs.Int.Signed.{le_z}
use Rattle.dm_types.specs.Then.{◌>>=◌}
use Rattle.thrift_compact.specs.Reading.{read}
use Rattle.thrift_compact.specs.declared.tree.Field.{Field}
use Rattle.parquet_meta.specs.declared.forms.Shape.TheVariants as shape
use Rattle.parquet_meta.specs.declared.metadata.LeafSchema.{LeafSchema}
use Rattle.parquet_meta.specs.declared.metadata.ChunkMeta.{ChunkMeta}
use Rattle.parquet_meta.specs.declared.metadata.RowGroup.{RowGroup}
use Rattle.parquet_meta.specs.declared.metadata.Footer.{Footer}
use Rattle.parquet_meta.specs.declared.headers.PageHeader.{PageHeader}
use Rattle.parquet_meta.specs.Forms.{needed, checked, i32, i64, list, struct}
use Rattle.parquet_meta.specs.Headers.{header_of}
use Rattle.parquet_meta.specs.Elements.{element_of}
use Rattle.parquet_meta.specs.Leaves.{schema_leaves}
use Rattle.parquet_meta.specs.Chunks.{group_of}

-- a chunk of the leaf's type, in this file
abbrev pub is_chunk : ChunkMeta × LeafSchema → Bool
is_chunk p = int_eq p.0.physical (pos p.1.physical) && not p.0.external

-- one chunk for each leaf, in order
abbrev pub has_chunks : List LeafSchema → RowGroup → Bool
has_chunks leaves group = length group.chunks == length leaves && list_all is_chunk (zip group.chunks leaves)

-- the rows of all row groups
abbrev pub total_rows : List RowGroup → ℤ
total_rows [] = pos 0
total_rows (group ∷ groups) = group.rows +ℤ total_rows groups

-- the groups' rows aren't negative and add up to the file's
abbrev pub rows_add_up : ℤ → List RowGroup → Bool
rows_add_up rows groups = list_all (λ group. le_z (pos 0) group.rows) groups && int_eq (total_rows groups) rows

abbrev pub groups_fit : ℤ → List LeafSchema → List RowGroup → Bool
groups_fit rows leaves groups = list_all (has_chunks leaves) groups && rows_add_up rows groups

-- what every footer that is read has: no count of rows is negative, and each row group has one chunk for each leaf
pub record IsSound (f : Footer) : Type 0 where
  pub rows : pos 0 ≤ℤ f.rows
  pub groups : groups_fit f.rows f.leaves f.groups ≡ true

-- FileMetaData
abbrev pub footer_of : List Field → Option Footer
footer_of t = do
  version ← needed i32 (pos 1) t  -- 1 version
  elements ← needed (list (struct element_of)) (pos 2) t  -- 2 schema
  rows ← needed i64 (pos 3) t  -- 3 num_rows
  groups ← needed (list (struct group_of)) (pos 4) t  -- 4 row_groups
  pairs ← checked shape.Structs (pos 5) t  -- 5 key_value_metadata
  writer ← checked shape.Binary (pos 6) t  -- 6 created_by
  orders ← checked shape.Structs (pos 7) t  -- 7 column_orders
  leaves ← schema_leaves elements
  if groups_fit rows leaves groups then Some (record { rows = rows; leaves = leaves; groups = groups }) else None

-- ---- bytes

abbrev pub whole_footer : ℕ → Result (List Field × ℕ) ℕ → Option Footer
whole_footer total (Ok found) = if found.1 == total then footer_of found.0 else None
whole_footer total (Err at) = None

-- the footer that the bytes are, none left over
unfoldable pub footer_in : List ℕ → Option Footer
footer_in bytes = whole_footer (length bytes) (read bytes)

abbrev pub front_header : Result (List Field × ℕ) ℕ → Option (PageHeader × ℕ)
front_header (Ok found) = header_of found.0 >>= λ header. Some (header, found.1)
front_header (Err at) = None

-- the page header at the front of the bytes, and how many of them it takes
unfoldable pub page_header_in : List ℕ → Option (PageHeader × ℕ)
page_header_in bytes = front_header (read bytes)
