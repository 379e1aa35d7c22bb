-- How the values of a column go into the lists that are written.
use Rattle.std.specs.Prelude.{◌≡◌, ⊤, ℕ, ◌+◌, ◌^◌, ◌<◌, if◌then◌else◌, List, [], ◌∷◌, ◌++◌, length, map, slice_get, All, FitsSigned, ◌⊎◌, Option, Some, None, option_map, IfSome}
use Rattle.std.specs.Int.{w32, w64}
use Rattle.column_vectors.specs.Cells.{Cells}
use Rattle.dm_types.specs.Ranges.{IsText}
use Rattle.dm_types.specs.declared.value.DataType.{DataType}
use Rattle.dm_types.specs.declared.value.Value.{Value}
use Rattle.level_runs.specs.Runs.{MeansRuns}
use Rattle.parquet_meta.specs.Meaning.{page_header_in}
use Rattle.parquet_meta.specs.Written.{header_fields}
use Rattle.parquet_meta.specs.declared.headers.PageHeader.{PageHeader}
use Rattle.parquet_meta.specs.declared.metadata.ChunkMeta.{ChunkMeta}
use Rattle.plain_values.specs.Answers.{lent_values}
use Rattle.parquet_pages.specs.Physical.{Physical, flag, whole_number, raw, plain, plain_bytes}
use Rattle.parquet_meta.specs.declared.numbers.TheConstants.{BOOLEAN, INT32, INT64, BYTE_ARRAY, FIXED_LEN_BYTE_ARRAY}
use Rattle.parquet_pages.specs.Stored.{is_full, levels_of, stored, stored_values, type_of}
use Rattle.parquet_pages.specs.Writing.{ArePlain, chunk_meta, page_bytes, page_header}
use Rattle.parquet_pages.specs.declared.stored.StoredColumn.{StoredColumn}
use Rattle.parquet_pages.specs.declared.stored.StoredValues.{StoredValues}
use Rattle.parquet_pages.specs.declared.stored.StoredValues.TheVariants as list
use Rattle.parquet_pages.specs.declared.stored.StoredValue.{StoredValue}
use Rattle.parquet_pages.specs.declared.stored.StoredValue.TheVariants as one
use Rattle.thrift_compact.specs.Written.{struct as struct_bytes}

abbrev pub physical_of : StoredValue → Physical
physical_of (one.Flag b) = flag b
physical_of (one.Whole n) = whole_number n
physical_of (one.Fixed bytes) = raw bytes
physical_of (one.Lent bytes) = raw bytes.now

-- how a value stands in a page, which a null does not
abbrev pub told : DataType → Value → Option Physical
told k v = if is_full v then Some (stored k v) else None

-- ---- lists by their physical type

abbrev pub values_in : StoredValues → List Physical
values_in (list.Flags flags) = map flag flags
values_in (list.Whole32 numbers) = map whole_number numbers
values_in (list.Whole64 numbers) = map whole_number numbers
values_in (list.Fixed arrays) = map raw arrays
values_in (list.Lent arrays) = map raw (lent_values arrays)

abbrev pub type_in : StoredValues → ℕ
type_in (list.Flags flags) = BOOLEAN
type_in (list.Whole32 numbers) = INT32
type_in (list.Whole64 numbers) = INT64
type_in (list.Fixed arrays) = FIXED_LEN_BYTE_ARRAY
type_in (list.Lent arrays) = BYTE_ARRAY

-- a value that goes into the list of a physical type
abbrev pub IsOfType : ℕ → StoredValue → Type 0
IsOfType type (one.Flag b) = type ≡ BOOLEAN
IsOfType type (one.Whole n) = ((type ≡ INT32) × FitsSigned w32 n) ⊎ ((type ≡ INT64) × FitsSigned w64 n)
IsOfType type (one.Fixed bytes) = type ≡ FIXED_LEN_BYTE_ARRAY
IsOfType type (one.Lent bytes) = type ≡ BYTE_ARRAY

-- the value of a row, as it stands in a page
pub record IsStoredAt (column : Cells) (row : ℕ) (found : Option StoredValue) : Type 0 where
  pub v : Value
  pub at : slice_get column.values row ≡ Some v
  pub is : option_map physical_of found ≡ told column.kind v
  pub goes : IfSome found (IsOfType (type_of column.kind))
  pub text : IsText v

abbrev pub level : Option Physical → ℕ
level None = 0
level (Some v) = 1

abbrev pub listed : Option Physical → List Physical
listed None = []
listed (Some v) = v ∷ []

-- the values of a column, as they are written; its texts are UTF-8
pub record IsStored (kind : DataType) (rows : List Value) (it : StoredColumn) : Type 0 where
  pub levels : it.levels ≡ levels_of rows
  pub values : values_in it.values ≡ stored_values kind rows
  pub kept : type_in it.values ≡ type_of kind
  pub texts : All IsText rows

-- ---- lists that are written

-- the bytes of a value whose length they tell
abbrev pub raw_size : Physical → ℕ
raw_size (raw bytes) = length bytes
raw_size v = 0

-- an array of bytes has a length that fits; a fixed array has the length of its leaf
abbrev pub CanStand : ℕ → ℕ → Physical → Type 0
CanStand type size (raw bytes) =
    (type ≡ BYTE_ARRAY → length bytes < 2 ^ 32) × (type ≡ FIXED_LEN_BYTE_ARRAY → length bytes ≡ size)
CanStand type size v = ⊤

-- values went to the end, each in the bytes of its physical type, and are read as these
pub record AppendsPlain (type size : ℕ) (values : List Physical) (old new : List ℕ) : Type 0 where
  pub written : List ℕ
  pub joined : new ≡ old ++ written
  pub spelled : written ≡ plain_bytes type values
  pub again : plain type size (length values) written ≡ Some values

-- ---- pages that are written

-- a header is read of its bytes, whatever follows
abbrev pub IsHeaderRead : PageHeader → Type 0
IsHeaderRead header =
    (more : List ℕ) → page_header_in (struct_bytes (header_fields header) ++ more)
    ≡ Some (header, length (struct_bytes (header_fields header)))

-- the header of a page with these levels and values
abbrev pub header_of : ℕ → List ℕ → List ℕ → PageHeader
header_of rows levels values = page_header rows (4 + length levels + length values)

-- the page of a column: its levels as runs, its values PLAIN, and its header, which is read of it
pub record IsPage (column : Cells) (page : List ℕ) : Type 0 where
  pub levels : List ℕ
  pub values : List ℕ
  pub runs : MeansRuns 1 (length column.values) levels (levels_of column.values)
  pub spelled : values ≡ plain_bytes (type_of column.kind) (stored_values column.kind column.values)
  pub plain : ArePlain column values
  pub joined : page ≡ page_bytes (length column.values) levels values
  pub header : IsHeaderRead (header_of (length column.values) levels values)
  pub size : 4 + length levels + length values < 2 ^ 31
  pub texts : All IsText column.values

-- a page went to the end
pub record AddsPage (column : Cells) (old new : List ℕ) : Type 0 where
  pub page : List ℕ
  pub joined : new ≡ old ++ page
  pub is : IsPage column page

-- a page went to the end, with what a footer tells of its chunk
pub record AddsChunk (column : Cells) (old new : List ℕ) (meta : ChunkMeta) : Type 0 where
  pub page : List ℕ
  pub joined : new ≡ old ++ page
  pub is : IsPage column page
  pub told : meta ≡ chunk_meta column (length old) (length page)
