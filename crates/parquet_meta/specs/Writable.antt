-- Which footers are written.
use Rattle.std.specs.Prelude.{◌≡◌, ⊤, ◌<◌, ◌≤◌, ◌^◌, true, false, ◌&&◌, length, FitsSigned}
use Rattle.std.specs.Int.{w32}
use Rattle.std.specs.List.{AllByRecursion}
use Rattle.parquet_meta.specs.declared.metadata.Logical.{Logical}
use Rattle.parquet_meta.specs.declared.metadata.Logical.TheVariants as logical
use Rattle.parquet_meta.specs.declared.metadata.LeafSchema.{LeafSchema}
use Rattle.parquet_meta.specs.declared.metadata.ChunkMeta.{ChunkMeta}
use Rattle.parquet_meta.specs.declared.metadata.Footer.{Footer}
use Rattle.parquet_meta.specs.declared.numbers.TheConstants.{FIXED_LEN_BYTE_ARRAY, NANOS}
use Rattle.parquet_meta.specs.Leaves.{is_long_enough}
use Rattle.parquet_meta.specs.Meaning.{groups_fit}

-- a logical type that this project knows, with a unit from NO_UNIT to NANOS
abbrev pub IsWritableLogical : Logical → Type 0
IsWritableLogical logical.Absent = ⊤
IsWritableLogical logical.Str = ⊤
IsWritableLogical (logical.Decimal scale) = ⊤
IsWritableLogical logical.Date = ⊤
IsWritableLogical (logical.Timestamp unit) = unit ≤ NANOS
IsWritableLogical logical.Other = ⊥

-- a leaf at the top, of a known physical type, with a length above 0 where values need one, and not both optional and
-- repeated
pub record IsWritableLeaf (leaf : LeafSchema) : Type 0 where
  pub top : leaf.top ≡ true
  pub physical : leaf.physical ≤ FIXED_LEN_BYTE_ARRAY
  pub length : is_long_enough leaf.physical leaf.length ≡ true
  pub single : (leaf.optional && leaf.repeated) ≡ false
  pub logical : IsWritableLogical leaf.annotation.logical

-- a chunk in this file, with encodings of 32 bits
pub record IsWritableChunk (c : ChunkMeta) : Type 0 where
  pub inside : c.external ≡ false
  pub encodings : AllByRecursion (FitsSigned w32) c.encodings

-- Fewer than 2 to the 31 leaves at the top, one chunk for each leaf and row group, of the leaf's type and in this
-- file, and row counts that aren't negative and add up.
pub record IsWritableFooter (f : Footer) : Type 0 where
  pub few : length f.leaves < 2 ^ 31
  pub leaves : AllByRecursion IsWritableLeaf f.leaves
  pub chunks : AllByRecursion (λ g. AllByRecursion IsWritableChunk g.chunks) f.groups
  pub groups : groups_fit f.rows f.leaves f.groups ≡ true
