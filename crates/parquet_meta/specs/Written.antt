-- The trees that are written. Each line of a table is a field, with its id, and its name in parquet.thrift behind it.
use Rattle.std.specs.Prelude.{ℕ, ℤ, pos, ◌==◌, Bool, if◌then◌else◌, List, [], ◌∷◌, ◌++◌, length, map, codes, Option}
use Rattle.std.specs.Prelude.{Some, None, option_map}
use Rattle.std.specs.Ordering.{int_eq}
use Rattle.thrift_compact.specs.declared.tree.Node.{Node}
use Rattle.thrift_compact.specs.declared.tree.Node.TheVariants as n
use Rattle.thrift_compact.specs.declared.tree.Field.{Field}
use Rattle.parquet_meta.specs.declared.headers.PageHeader.{PageHeader}
use Rattle.parquet_meta.specs.declared.headers.PageV1.{PageV1}
use Rattle.parquet_meta.specs.declared.headers.DictionaryPage.{DictionaryPage}
use Rattle.parquet_meta.specs.declared.headers.PageV2.{PageV2}
use Rattle.parquet_meta.specs.declared.metadata.Logical.{Logical}
use Rattle.parquet_meta.specs.declared.metadata.Logical.TheVariants as logical
use Rattle.parquet_meta.specs.declared.metadata.LeafSchema.{LeafSchema}
use Rattle.parquet_meta.specs.declared.metadata.ChunkMeta.{ChunkMeta}
use Rattle.parquet_meta.specs.declared.metadata.RowGroup.{RowGroup}
use Rattle.parquet_meta.specs.declared.metadata.Footer.{Footer}
use Rattle.parquet_meta.specs.declared.numbers.TheConstants.{NO_UNIT, REQUIRED, OPTIONAL, REPEATED}

-- ---- tables of fields

-- fields by their ids, in order; None is one that is left out
abbrev pub Table : Type 0
Table = List (ℤ × Option (ℕ × Node))

abbrev pub entry : ℤ → Option (ℕ × Node) → List Field
entry id None = []
entry id (Some v) = (record { id = id; width = v.0; node = v.1 }) ∷ []

abbrev pub onto : List Field → Table → List Field
onto fields [] = fields
onto fields (e ∷ es) = onto (fields ++ entry e.0 e.1) es

-- the struct with these fields
abbrev pub fields_of : Table → List Field
fields_of table = onto [] table

abbrev pub whole_32 : ℤ → ℕ × Node
whole_32 z = (32, n.Whole z)

abbrev pub whole_64 : ℤ → ℕ × Node
whole_64 z = (64, n.Whole z)

abbrev pub bytes : List ℕ → ℕ × Node
bytes b = (0, n.Binary b)

abbrev pub inner : Table → Node
inner table = n.Struct (fields_of table)

abbrev pub struct : Table → ℕ × Node
struct table = (0, inner table)

abbrev pub nodes : List Node → ℕ × Node
nodes ns = (0, n.List ns)

-- ---- page headers

-- DataPageHeader
abbrev pub page_table : PageV1 → Table
page_table p =
    (pos 1, Some (whole_32 p.values))  -- 1 num_values
    ∷ (pos 2, Some (whole_32 p.encoding))  -- 2 encoding
    ∷ (pos 3, Some (whole_32 p.definition))  -- 3 definition_level_encoding
    ∷ (pos 4, Some (whole_32 p.repetition))  -- 4 repetition_level_encoding
    ∷ []

-- DictionaryPageHeader
abbrev pub dictionary_table : DictionaryPage → Table
dictionary_table p =
    (pos 1, Some (whole_32 p.values))  -- 1 num_values
    ∷ (pos 2, Some (whole_32 p.encoding))  -- 2 encoding
    ∷ []

-- DataPageHeaderV2
abbrev pub page_v2_table : PageV2 → Table
page_v2_table p =
    (pos 1, Some (whole_32 p.values))  -- 1 num_values
    ∷ (pos 2, Some (whole_32 p.nulls))  -- 2 num_nulls
    ∷ (pos 3, Some (whole_32 p.rows))  -- 3 num_rows
    ∷ (pos 4, Some (whole_32 p.encoding))  -- 4 encoding
    ∷ (pos 5, Some (whole_32 p.definition_bytes))  -- 5 definition_levels_byte_length
    ∷ (pos 6, Some (whole_32 p.repetition_bytes))  -- 6 repetition_levels_byte_length
    ∷ []

-- PageHeader
abbrev pub header_table : PageHeader → Table
header_table h =
    (pos 1, Some (whole_32 h.kind))  -- 1 type
    ∷ (pos 2, Some (whole_32 h.unpacked))  -- 2 uncompressed_page_size
    ∷ (pos 3, Some (whole_32 h.packed))  -- 3 compressed_page_size
    ∷ (pos 5, option_map (λ p. struct (page_table p)) h.page)  -- 5 data_page_header
    ∷ (pos 7, option_map (λ p. struct (dictionary_table p)) h.dictionary)  -- 7 dictionary_page_header
    ∷ (pos 8, option_map (λ p. struct (page_v2_table p)) h.page_v2)  -- 8 data_page_header_v2
    ∷ []

-- the fields of a page header that is written
unfoldable pub header_fields : PageHeader → List Field
header_fields h = fields_of (header_table h)

-- ---- schemas

-- TimeUnit, whose member has the number of the unit as its id
abbrev pub unit_content : ℕ → Option (ℕ × Node)
unit_content unit = if unit == NO_UNIT then None else Some (struct ((pos unit, Some (struct [])) ∷ []))

-- LogicalType: 1 STRING, 5 DECIMAL (1 scale), 6 DATE, 8 TIMESTAMP (2 unit)
abbrev pub logical_content : Logical → Option (ℕ × Node)
logical_content logical.Absent = None
logical_content logical.Str = Some (struct ((pos 1, Some (struct [])) ∷ []))
logical_content (logical.Decimal scale) =
    Some (struct ((pos 5, Some (struct ((pos 1, Some (whole_32 scale)) ∷ []))) ∷ []))
logical_content logical.Date = Some (struct ((pos 6, Some (struct [])) ∷ []))
logical_content (logical.Timestamp unit) =
    Some (struct ((pos 8, Some (struct ((pos 2, unit_content unit) ∷ []))) ∷ []))
logical_content logical.Other = Some (struct [])

-- a length, which is left out where it is 0
abbrev pub told_length : ℤ → Option ℤ
told_length z = if int_eq z (pos 0) then None else Some z

-- FieldRepetitionType
abbrev pub repetition_by : Bool → Bool → ℕ
repetition_by optional repeated = if repeated then REPEATED else if optional then OPTIONAL else REQUIRED

-- SchemaElement of a leaf
abbrev pub leaf_table : LeafSchema → Table
leaf_table leaf =
    (pos 1, Some (whole_32 (pos leaf.physical)))  -- 1 type
    ∷ (pos 2, option_map whole_32 (told_length leaf.length))  -- 2 type_length
    ∷ (pos 3, Some (whole_32 (pos (repetition_by leaf.optional leaf.repeated))))  -- 3 repetition_type
    ∷ (pos 4, Some (bytes leaf.name))  -- 4 name
    ∷ (pos 6, option_map whole_32 leaf.annotation.converted)  -- 6 converted_type
    ∷ (pos 7, option_map whole_32 leaf.annotation.scale)  -- 7 scale
    ∷ (pos 8, option_map whole_32 leaf.annotation.precision)  -- 8 precision
    ∷ (pos 9, option_map whole_32 leaf.field_id)  -- 9 field_id
    ∷ (pos 10, logical_content leaf.annotation.logical)  -- 10 logicalType
    ∷ []

-- SchemaElement of the root
abbrev pub root_table : ℕ → Table
root_table count =
    (pos 4, Some (bytes (codes "schema")))  -- 4 name
    ∷ (pos 5, Some (whole_32 (pos count)))  -- 5 num_children
    ∷ []

-- ---- chunks and footers

abbrev pub whole_width : List ℤ → ℕ
whole_width [] = 0
whole_width (z ∷ zs) = 32

abbrev pub whole_list : List ℤ → ℕ × Node
whole_list zs = (whole_width zs, n.List (map n.Whole zs))

-- ColumnMetaData
abbrev pub column_table : ChunkMeta → Table
column_table c =
    (pos 1, Some (whole_32 c.physical))  -- 1 type
    ∷ (pos 2, Some (whole_list c.encodings))  -- 2 encodings
    ∷ (pos 3, Some (nodes (map n.Binary c.path)))  -- 3 path_in_schema
    ∷ (pos 4, Some (whole_32 c.codec))  -- 4 codec
    ∷ (pos 5, Some (whole_64 c.values))  -- 5 num_values
    ∷ (pos 6, Some (whole_64 c.unpacked))  -- 6 total_uncompressed_size
    ∷ (pos 7, Some (whole_64 c.packed))  -- 7 total_compressed_size
    ∷ (pos 9, Some (whole_64 c.page_at))  -- 9 data_page_offset
    ∷ (pos 11, option_map whole_64 c.dictionary_at)  -- 11 dictionary_page_offset
    ∷ []

-- ColumnChunk
abbrev pub chunk_table : ChunkMeta → Table
chunk_table c =
    (pos 2, Some (whole_64 (pos 0)))  -- 2 file_offset
    ∷ (pos 3, Some (struct (column_table c)))  -- 3 meta_data
    ∷ []

-- RowGroup
abbrev pub group_table : RowGroup → Table
group_table g =
    (pos 1, Some (nodes (map (λ c. inner (chunk_table c)) g.chunks)))  -- 1 columns
    ∷ (pos 2, Some (whole_64 g.bytes))  -- 2 total_byte_size
    ∷ (pos 3, Some (whole_64 g.rows))  -- 3 num_rows
    ∷ []

-- FileMetaData
abbrev pub footer_table : Footer → Table
footer_table f =
    (pos 1, Some (whole_32 (pos 1)))  -- 1 version
    ∷ (
      pos 2,
      Some (nodes (inner (root_table (length f.leaves)) ∷ map (λ leaf. inner (leaf_table leaf)) f.leaves)),
    )  -- 2 schema
    ∷ (pos 3, Some (whole_64 f.rows))  -- 3 num_rows
    ∷ (pos 4, Some (nodes (map (λ g. inner (group_table g)) f.groups)))  -- 4 row_groups
    ∷ (pos 6, Some (bytes (codes "deltamerge")))  -- 6 created_by
    ∷ []

-- the fields of a footer that is written
unfoldable pub footer_fields : Footer → List Field
footer_fields f = fields_of (footer_table f)
