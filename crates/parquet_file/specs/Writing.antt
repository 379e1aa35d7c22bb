-- What a file that is written has (the Parquet format, "File format"; parquet.thrift, FileMetaData, RowGroup).
use Rattle.std.specs.Prelude.{◌≡◌, ℕ, ◌≤◌, ℤ, pos, ◌+ℤ◌, Bool, List, [], ◌∷◌, ◌++◌, length, map, All, slice_get, Some}
use Rattle.byteorder.specs.Endian.{little_bytes}
use Rattle.parquet_meta.specs.Written.{footer_fields}
use Rattle.parquet_meta.specs.declared.metadata.ChunkMeta.{ChunkMeta}
use Rattle.parquet_meta.specs.declared.metadata.Footer.{Footer}
use Rattle.parquet_meta.specs.declared.metadata.LeafSchema.{LeafSchema}
use Rattle.parquet_pages.specs.Chunk.{within}
use Rattle.parquet_pages.specs.Stored.{leaf_of}
use Rattle.parquet_pages.specs.Writing.{IsWritableColumn, TakesNulls, WritesChunk}
use Rattle.thrift_compact.specs.Written.{struct as struct_bytes}
use Rattle.parquet_file.specs.File.{Opened, column_of, magic, opened}
use Rattle.parquet_file.specs.declared.columns.FileColumn.{FileColumn}

-- how many rows columns have, which is the same for each
abbrev pub rows_of : List FileColumn → ℕ
rows_of [] = 0
rows_of (first ∷ more) = length first.column.values

-- one column of a file: of its kind, and with a name of at most 1 MiB
pub record IsWritableFileColumn (count : ℕ) (c : FileColumn) : Type 0 where
  pub kind : c.column.kind ≡ c.kind
  pub column : IsWritableColumn c.column
  pub rows : length c.column.values ≡ count
  pub name : length c.name ≤ 1_048_576

pub record IsWritableFile (columns : List FileColumn) : Type 0 where
  pub few : length columns ≤ 502
  pub each : All (IsWritableFileColumn (rows_of columns)) columns

-- ---- the bytes

abbrev pub file_leaf : FileColumn → LeafSchema
file_leaf c = leaf_of c.name c.field_id c.kind

-- a chunk under the name of its column
abbrev pub named : FileColumn → ChunkMeta → ChunkMeta
named c chunk = record {
  external = chunk.external;
  physical = chunk.physical;
  encodings = chunk.encodings;
  path = c.name ∷ [];
  codec = chunk.codec;
  values = chunk.values;
  unpacked = chunk.unpacked;
  packed = chunk.packed;
  page_at = chunk.page_at;
  dictionary_at = chunk.dictionary_at;
}

-- a chunk for each column went to the end, in order
pub data WritesChunks : List FileColumn → List ℕ → List ℕ → List ChunkMeta → Type 0 where
  nothing : (bytes : List ℕ) → WritesChunks [] bytes bytes []
  one : (c : FileColumn) (columns : List FileColumn) (old middle new : List ℕ) (chunk : ChunkMeta)
      (chunks : List ChunkMeta) → WritesChunk c.column old middle chunk
      → WritesChunks columns middle new chunks → WritesChunks (c ∷ columns) old new (named c chunk ∷ chunks)

-- the bytes of chunks, headers counted
abbrev pub total_size : List ChunkMeta → ℤ
total_size [] = pos 0
total_size (chunk ∷ chunks) = chunk.packed +ℤ total_size chunks

-- one row group
abbrev pub footer_of : List FileColumn → List ChunkMeta → Footer
footer_of columns chunks = record {
  rows = pos (rows_of columns);
  leaves = map file_leaf columns;
  groups = (record { bytes = total_size chunks; rows = pos (rows_of columns); chunks = chunks }) ∷ [];
}

-- `PAR1`, the chunks, the footer, its length, `PAR1`
pub record WritesFile (columns : List FileColumn) (bytes : List ℕ) : Type 0 where
  pub pages : List ℕ
  pub chunks : List ChunkMeta
  pub are : WritesChunks columns magic pages chunks
  pub is : bytes ≡ pages ++ struct_bytes (footer_fields (footer_of columns chunks))
      ++ little_bytes 4 (length (struct_bytes (footer_fields (footer_of columns chunks)))) ++ magic

-- ---- what is read of it

-- a file with these columns: rows, names, field ids, kinds, values and nulls
pub record IsFileOf (columns : List FileColumn) (bytes : List ℕ) : Type 0 where
  pub file : Opened
  pub is : opened bytes ≡ Some file
  pub rows : file.footer.rows ≡ pos (rows_of columns)
  pub leaves : file.footer.leaves ≡ map file_leaf columns
  pub column : (i : ℕ) (c : FileColumn) (nullable : Bool) (text_left : ℕ) → slice_get columns i ≡ Some c
      → TakesNulls nullable c.column.values
      → column_of file i (record { kind = c.kind; nullable = nullable; leaf = file_leaf c }) text_left
      ≡ within text_left c.column.values
