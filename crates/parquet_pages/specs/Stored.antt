-- How columns are written: the leaf of a type, and how each value stands in a page (LogicalTypes.md; parquet.thrift,
-- SchemaElement).
use Rattle.std.specs.Prelude.{ℕ, ◌-◌, ◌*◌, ◌^◌, ◌==◌, nat_le, Bool, true, false, if◌then◌else◌, ℤ, pos, List, [], ◌∷◌, map, Option, Some, None}
use Rattle.std.specs.List.{filter, range_with_len}
use Rattle.std.specs.Int.{w128}
use Rattle.byteorder.specs.Endian.{big_bytes, low_bytes}
use Rattle.dm_types.specs.declared.value.DataType.{DataType}
use Rattle.dm_types.specs.declared.value.DataType.TheVariants as kind
use Rattle.dm_types.specs.declared.value.Value.{Value}
use Rattle.dm_types.specs.declared.value.Value.TheVariants as value
use Rattle.parquet_meta.specs.declared.metadata.Annotation.{Annotation}
use Rattle.parquet_meta.specs.declared.metadata.LeafSchema.{LeafSchema}
use Rattle.parquet_meta.specs.declared.metadata.Logical.TheVariants as logical
use Rattle.parquet_pages.specs.Physical.{Physical, flag, whole_number, raw}
use Rattle.parquet_meta.specs.declared.numbers.TheConstants.{DATE, DECIMAL, INT_8, INT_16, TIMESTAMP_MICROS, UTF8, BOOLEAN, INT32, INT64, BYTE_ARRAY, FIXED_LEN_BYTE_ARRAY}

-- ---- the leaf of a type

-- in so many bytes each decimal of so many digits has its place, in two's complement
abbrev pub has_room : ℕ → ℕ → Bool
has_room precision bytes = nat_le (10 ^ precision) (2 ^ (8 * bytes - 1))

-- the first of numbers that meets a test, or 0
unfoldable pub first_that : (ℕ → Bool) → List ℕ → ℕ
first_that test [] = 0
first_that test (n ∷ more) = if test n then n else first_that test more

-- the least number of bytes with room for so many digits
abbrev pub decimal_size : ℕ → ℕ
decimal_size precision = first_that (has_room precision) (range_with_len 1 16)

abbrev pub decimal_type : ℕ → ℕ
decimal_type precision =
    if nat_le precision 9 then INT32 else if nat_le precision 18 then INT64 else FIXED_LEN_BYTE_ARRAY

abbrev pub type_of : DataType → ℕ
type_of kind.Void = BOOLEAN
type_of kind.Boolean = BOOLEAN
type_of kind.Byte = INT32
type_of kind.Short = INT32
type_of kind.Integer = INT32
type_of kind.Long = INT64
type_of kind.Date = INT32
type_of kind.Timestamp = INT64
type_of kind.Str = BYTE_ARRAY
type_of kind.Binary = BYTE_ARRAY
type_of (kind.Decimal precision scale) = decimal_type precision

-- of a fixed array; 0 for the other types
abbrev pub length_of : DataType → ℕ
length_of (kind.Decimal precision scale) =
    if decimal_type precision == FIXED_LEN_BYTE_ARRAY then decimal_size precision else 0
length_of k = 0

-- ConvertedType
abbrev pub converted_of : DataType → Option ℤ
converted_of kind.Byte = Some INT_8
converted_of kind.Short = Some INT_16
converted_of kind.Date = Some DATE
converted_of kind.Timestamp = Some TIMESTAMP_MICROS
converted_of kind.Str = Some UTF8
converted_of (kind.Decimal precision scale) = Some DECIMAL
converted_of k = None

abbrev pub scale_told : DataType → Option ℤ
scale_told (kind.Decimal precision scale) = Some (pos scale)
scale_told k = None

abbrev pub precision_told : DataType → Option ℤ
precision_told (kind.Decimal precision scale) = Some (pos precision)
precision_told k = None

abbrev pub annotation_of : DataType → Annotation
annotation_of k = record {
  converted = converted_of k;
  scale = scale_told k;
  precision = precision_told k;
  logical = logical.Absent;
}

-- an OPTIONAL leaf directly below the root
abbrev pub leaf_of : List ℕ → Option ℤ → DataType → LeafSchema
leaf_of name field_id k = record {
  name = name;
  top = true;
  physical = type_of k;
  length = pos (length_of k);
  optional = true;
  repeated = false;
  annotation = annotation_of k;
  field_id = field_id;
}

-- ---- the values of a page

abbrev pub is_full : Value → Bool
is_full value.Null = false
is_full v = true

-- 0 for a null and 1 for a value
abbrev pub level_of : Value → ℕ
level_of v = if is_full v then 1 else 0

abbrev pub levels_of : List Value → List ℕ
levels_of values = map level_of values

abbrev pub decimal_stored : ℕ → ℤ → Physical
decimal_stored precision n =
    if decimal_type precision == FIXED_LEN_BYTE_ARRAY
    then raw (big_bytes (decimal_size precision) (low_bytes w128 (decimal_size precision) n))
    else whole_number n

-- how a value of a type stands in a page
abbrev pub stored : DataType → Value → Physical
stored (kind.Decimal precision scale) (value.Dec d) = decimal_stored precision d.unscaled
stored k (value.Bool b) = flag b
stored k (value.Int n) = whole_number n
stored k (value.Day n) = whole_number n
stored k (value.Micros n) = whole_number n
stored k (value.Text t) = raw t
stored k (value.Bytes b) = raw b
stored k v = raw []

-- the values that are no nulls, as they stand in a page
abbrev pub stored_values : DataType → List Value → List Physical
stored_values k values = map (stored k) (filter is_full values)
