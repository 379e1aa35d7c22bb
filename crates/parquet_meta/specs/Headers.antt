-- What a page header says (parquet.thrift). Each line is a field, with its name in parquet.thrift behind it.
use Rattle.std.specs.Prelude.{pos, List, Option, Some}
use Rattle.dm_types.specs.Then.{◌>>=◌}
use Rattle.thrift_compact.specs.declared.tree.Field.{Field}
use Rattle.parquet_meta.specs.declared.forms.Shape.TheVariants as shape
use Rattle.parquet_meta.specs.declared.headers.PageHeader.{PageHeader}
use Rattle.parquet_meta.specs.declared.headers.PageV1.{PageV1}
use Rattle.parquet_meta.specs.declared.headers.DictionaryPage.{DictionaryPage}
use Rattle.parquet_meta.specs.declared.headers.PageV2.{PageV2}
use Rattle.parquet_meta.specs.Forms.{needed, optional, checked, i32, struct}

-- DataPageHeader
abbrev pub page_of : List Field → Option PageV1
page_of t = do
  values ← needed i32 (pos 1) t  -- 1 num_values
  encoding ← needed i32 (pos 2) t  -- 2 encoding
  definition ← needed i32 (pos 3) t  -- 3 definition_level_encoding
  repetition ← needed i32 (pos 4) t  -- 4 repetition_level_encoding
  statistics ← checked shape.Struct (pos 5) t  -- 5 statistics
  Some (record { values = values; encoding = encoding; definition = definition; repetition = repetition })

-- DictionaryPageHeader
abbrev pub dictionary_of : List Field → Option DictionaryPage
dictionary_of t = do
  values ← needed i32 (pos 1) t  -- 1 num_values
  encoding ← needed i32 (pos 2) t  -- 2 encoding
  is_sorted ← checked shape.Bool (pos 3) t  -- 3 is_sorted
  Some (record { values = values; encoding = encoding })

-- DataPageHeaderV2
abbrev pub page_v2_of : List Field → Option PageV2
page_v2_of t = do
  values ← needed i32 (pos 1) t  -- 1 num_values
  nulls ← needed i32 (pos 2) t  -- 2 num_nulls
  rows ← needed i32 (pos 3) t  -- 3 num_rows
  encoding ← needed i32 (pos 4) t  -- 4 encoding
  definition ← needed i32 (pos 5) t  -- 5 definition_levels_byte_length
  repetition ← needed i32 (pos 6) t  -- 6 repetition_levels_byte_length
  is_compressed ← checked shape.Bool (pos 7) t  -- 7 is_compressed
  statistics ← checked shape.Struct (pos 8) t  -- 8 statistics
  Some (record {
    values = values;
    nulls = nulls;
    rows = rows;
    encoding = encoding;
    definition_bytes = definition;
    repetition_bytes = repetition;
  })

-- PageHeader
abbrev pub header_of : List Field → Option PageHeader
header_of t = do
  kind ← needed i32 (pos 1) t  -- 1 type
  unpacked ← needed i32 (pos 2) t  -- 2 uncompressed_page_size
  packed ← needed i32 (pos 3) t  -- 3 compressed_page_size
  crc ← checked shape.I32 (pos 4) t  -- 4 crc
  page ← optional (struct page_of) (pos 5) t  -- 5 data_page_header
  index ← checked shape.Struct (pos 6) t  -- 6 index_page_header
  dictionary ← optional (struct dictionary_of) (pos 7) t  -- 7 dictionary_page_header
  page_v2 ← optional (struct page_v2_of) (pos 8) t  -- 8 data_page_header_v2
  Some (record {
    kind = kind;
    unpacked = unpacked;
    packed = packed;
    page = page;
    dictionary = dictionary;
    page_v2 = page_v2;
  })
