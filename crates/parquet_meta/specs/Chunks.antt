-- What a row group and its column chunks say (parquet.thrift, RowGroup, ColumnChunk, ColumnMetaData).
use Rattle.std.specs.Prelude.{pos, Bool, is_some, List, Option, Some}
use Rattle.dm_types.specs.Then.{◌>>=◌}
use Rattle.thrift_compact.specs.declared.tree.Field.{Field}
use Rattle.parquet_meta.specs.declared.forms.Shape.TheVariants as shape
use Rattle.parquet_meta.specs.declared.metadata.ChunkMeta.{ChunkMeta}
use Rattle.parquet_meta.specs.declared.metadata.RowGroup.{RowGroup}
use Rattle.parquet_meta.specs.Forms.{last_field, needed, optional, checked, i32, i64, binary, list, struct}

-- ColumnMetaData, of a chunk with or without a file_path
abbrev pub column_of : Bool → List Field → Option ChunkMeta
column_of external t = do
  physical ← needed i32 (pos 1) t  -- 1 type
  encodings ← needed (list i32) (pos 2) t  -- 2 encodings
  path ← needed (list binary) (pos 3) t  -- 3 path_in_schema
  codec ← needed i32 (pos 4) t  -- 4 codec
  values ← needed i64 (pos 5) t  -- 5 num_values
  unpacked ← needed i64 (pos 6) t  -- 6 total_uncompressed_size
  packed ← needed i64 (pos 7) t  -- 7 total_compressed_size
  pairs ← checked shape.Structs (pos 8) t  -- 8 key_value_metadata
  page_at ← needed i64 (pos 9) t  -- 9 data_page_offset
  index ← checked shape.I64 (pos 10) t  -- 10 index_page_offset
  dictionary_at ← optional i64 (pos 11) t  -- 11 dictionary_page_offset
  statistics ← checked shape.Struct (pos 12) t  -- 12 statistics
  Some (record {
    external = external;
    physical = physical;
    encodings = encodings;
    path = path;
    codec = codec;
    values = values;
    unpacked = unpacked;
    packed = packed;
    page_at = page_at;
    dictionary_at = dictionary_at;
  })

-- ColumnChunk; that meta_data must be there is this project's own rule
abbrev pub chunk_of : List Field → Option ChunkMeta
chunk_of t = do
  file_path ← checked shape.Binary (pos 1) t  -- 1 file_path
  file_offset ← needed i64 (pos 2) t  -- 2 file_offset
  needed (struct (column_of (is_some (last_field (pos 1) t)))) (pos 3) t  -- 3 meta_data

-- RowGroup
abbrev pub group_of : List Field → Option RowGroup
group_of t = do
  chunks ← needed (list (struct chunk_of)) (pos 1) t  -- 1 columns
  bytes ← needed i64 (pos 2) t  -- 2 total_byte_size
  rows ← needed i64 (pos 3) t  -- 3 num_rows
  Some (record { bytes = bytes; rows = rows; chunks = chunks })
