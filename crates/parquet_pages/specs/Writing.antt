-- What was written of a column: one data page, behind what was there (parquet.thrift, PageHeader, ColumnMetaData).
use Rattle.std.specs.Prelude.{◌≡◌, ◌≢◌, ℕ, ◌+◌, ◌≤◌, ℤ, pos, Bool, true, false, List, [], ◌∷◌, ◌++◌, length, All, Option, Some, None, Ok}
use Rattle.byteorder.specs.Endian.{little_bytes}
use Rattle.column_vectors.specs.Cells.{Cells}
use Rattle.dm_types.specs.Ranges.{IsNullOrInRange, IsWellFormed}
use Rattle.dm_types.specs.declared.value.DataType.TheVariants as kind
use Rattle.dm_types.specs.declared.value.Value.{Value}
use Rattle.dm_types.specs.declared.value.Value.TheVariants as value
use Rattle.level_runs.specs.Runs.{MeansRuns}
use Rattle.parquet_meta.specs.Written.{header_fields}
use Rattle.parquet_meta.specs.declared.headers.PageHeader.{PageHeader}
use Rattle.parquet_meta.specs.declared.metadata.ChunkMeta.{ChunkMeta}
use Rattle.parquet_pages.specs.Chunk.{chunk_values}
use Rattle.parquet_pages.specs.Kept.{text_size}
use Rattle.parquet_pages.specs.Physical.{plain, plain_bytes}
use Rattle.parquet_meta.specs.declared.numbers.TheConstants.{PLAIN, RLE, DATA_PAGE, UNCOMPRESSED}
use Rattle.parquet_pages.specs.Stored.{leaf_of, length_of, levels_of, stored_values, type_of}
use Rattle.thrift_compact.specs.Written.{struct as struct_bytes}

-- a column that is written: of a type of tables, its values in their range, and not too many of them
pub record IsWritableColumn (column : Cells) : Type 0 where
  pub formed : IsWellFormed column.kind
  pub real : column.kind ≢ kind.Void
  pub values : All (IsNullOrInRange column.kind) column.values
  pub rows : length column.values ≤ 20_000_000
  pub text : text_size column.values ≤ 536_870_912

-- the header of a data page V1 of so many entries, in PLAIN with levels in RLE
abbrev pub page_header : ℕ → ℕ → PageHeader
page_header rows size = record {
  kind = DATA_PAGE;
  unpacked = pos size;
  packed = pos size;
  page = Some (record { values = pos rows; encoding = PLAIN; definition = RLE; repetition = RLE });
  dictionary = None;
  page_v2 = None;
}

-- what stands before the values of a page: its header, and the levels behind their length in four bytes
abbrev pub page_front : ℕ → List ℕ → ℕ → List ℕ
page_front rows levels size =
    struct_bytes (header_fields (page_header rows (4 + length levels + size)))
    ++ little_bytes 4 (length levels) ++ levels

-- a page, with its values
abbrev pub page_bytes : ℕ → List ℕ → List ℕ → List ℕ
page_bytes rows levels values = page_front rows levels (length values) ++ values

-- the chunk of a page: one for the whole column, uncompressed, in the encodings PLAIN and RLE
abbrev pub chunk_meta : Cells → ℕ → ℕ → ChunkMeta
chunk_meta column start size = record {
  external = false;
  physical = pos (type_of column.kind);
  encodings = PLAIN ∷ RLE ∷ [];
  path = [];
  codec = UNCOMPRESSED;
  values = pos (length column.values);
  unpacked = pos size;
  packed = pos size;
  page_at = pos start;
  dictionary_at = None;
}

-- the values of a column are read of these bytes, as values of the leaf's physical type
abbrev pub ArePlain : Cells → List ℕ → Type 0
ArePlain column bytes =
    let values = stored_values column.kind column.values in
    plain (type_of column.kind) (length_of column.kind) (length values) bytes ≡ Some values

-- a page went to the end: its levels are runs of width 1, and its values are PLAIN, each in the bytes of its physical
-- type
pub record WritesChunk (column : Cells) (old new : List ℕ) (meta : ChunkMeta) : Type 0 where
  pub levels : List ℕ
  pub values : List ℕ
  pub runs : MeansRuns 1 (length column.values) levels (levels_of column.values)
  pub spelled : values ≡ plain_bytes (type_of column.kind) (stored_values column.kind column.values)
  pub plain : ArePlain column values
  pub joined : new ≡ old ++ page_bytes (length column.values) levels values
  pub told : meta ≡ chunk_meta column (length old) (length (page_bytes (length column.values) levels values))

-- a column takes nulls, or has none
abbrev pub TakesNulls : Bool → List Value → Type 0
TakesNulls nullable values = All (λ v. v ≡ value.Null → nullable ≡ true) values

-- the chunk is read as the column, whatever stands behind it in the file
abbrev pub IsReadBack : Cells → List ℕ → ChunkMeta → Type 0
IsReadBack column file meta =
    (more name : List ℕ) (field_id : Option ℤ) (nullable : Bool) → TakesNulls nullable column.values
    → let leaf = leaf_of name field_id column.kind in
    chunk_values (file ++ more) meta (record { kind = column.kind; nullable = nullable; leaf = leaf })
    (length column.values)
    ≡ Ok column.values
