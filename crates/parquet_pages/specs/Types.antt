-- What physical values mean in a column of a type: which leaves a type is read of, and which value each is
-- (LogicalTypes.md; parquet.thrift, SchemaElement).
use Rattle.std.specs.Prelude.{ℕ, ℤ, pos, ◌-ℤ◌, ◌*ℤ◌, ◌+ℤ◌, ◌/◌, ◌^◌, ◌==◌, ◌&&◌, ◌||◌, not, nat_lt, unsigned_abs, Bool, true, false, if◌then◌else◌, List, length, drop, Option, Some, None}
use Rattle.std.specs.Ordering.{int_eq}
use Rattle.std.specs.Str.{is_utf8}
use Rattle.byteorder.specs.Endian.{big_number, little_number, twos_complement}
use Rattle.dm_types.specs.Lanes.{is_within}
use Rattle.dm_types.specs.Ranges.{is_day, day_part}
use Rattle.dm_types.specs.declared.value.TheConstants.{DAY_MICROS}
use Rattle.dm_types.specs.declared.value.DataType.{DataType}
use Rattle.dm_types.specs.declared.value.DataType.TheVariants as kind
use Rattle.dm_types.specs.declared.value.Value.{Value}
use Rattle.dm_types.specs.declared.value.Value.TheVariants as value
use Rattle.parquet_meta.specs.declared.numbers.TheConstants.{DECIMAL, TIMESTAMP_MILLIS, TIMESTAMP_MICROS, MILLIS, MICROS}
use Rattle.parquet_meta.specs.declared.metadata.Annotation.{Annotation}
use Rattle.parquet_meta.specs.declared.metadata.LeafSchema.{LeafSchema}
use Rattle.parquet_meta.specs.declared.metadata.Logical.{Logical}
use Rattle.parquet_meta.specs.declared.metadata.Logical.TheVariants as logical
use Rattle.parquet_pages.specs.Physical.{Physical, flag, whole_number, raw}
use Rattle.parquet_meta.specs.declared.numbers.TheConstants.{BOOLEAN, INT32, INT64, INT96, BYTE_ARRAY, FIXED_LEN_BYTE_ARRAY}

-- ---- annotations

-- a converted type, where it is told
abbrev pub converts : ℤ → Option ℤ → Bool
converts wanted None = false
converts wanted (Some told) = int_eq told wanted

-- the scale of a leaf that is annotated DECIMAL
abbrev pub annotated_scale : Logical → Option ℤ → Option ℤ
annotated_scale (logical.Decimal scale) converted = Some scale
annotated_scale _ converted = if converts DECIMAL converted then Some (pos 0) else None

abbrev pub told_scale : Option ℤ → Option ℤ → Option ℤ
told_scale (Some scale) annotated = Some scale
told_scale None annotated = annotated

-- a decimal's scale: the one of the element, else the annotation's
abbrev pub scale_of : Annotation → Option ℤ
scale_of a = told_scale a.scale (annotated_scale a.logical a.converted)

abbrev pub has_scale : ℕ → Option ℤ → Bool
has_scale wanted None = false
has_scale wanted (Some scale) = int_eq scale (pos wanted)

-- how many microseconds a unit of time has
abbrev pub unit_micros : ℕ → Option ℕ
unit_micros unit = if unit == MILLIS then Some 1000 else if unit == MICROS then Some 1 else None

abbrev pub converted_micros : Option ℤ → Option ℕ
converted_micros converted =
    if converts TIMESTAMP_MILLIS converted then Some 1000
    else if converts TIMESTAMP_MICROS converted then Some 1
    else None

-- of a moment in INT64: the unit of the logical type where one is told, else of the converted type
abbrev pub micros_of : Logical → Option ℤ → Option ℕ
micros_of logical.Absent converted = converted_micros converted
micros_of (logical.Timestamp unit) converted = unit_micros unit
micros_of _ converted = None

abbrev pub is_told : Option ℕ → Bool
is_told None = false
is_told (Some unit) = true

-- ---- the leaves that a type is read of

abbrev pub holds_decimal : ℕ → LeafSchema → Bool
holds_decimal scale leaf =
    (leaf.physical == INT32 || leaf.physical == INT64 || leaf.physical == BYTE_ARRAY
    || leaf.physical == FIXED_LEN_BYTE_ARRAY)
    && has_scale scale (scale_of leaf.annotation)

abbrev pub holds_moment : LeafSchema → Bool
holds_moment leaf =
    leaf.physical == INT96
    || leaf.physical == INT64 && is_told (micros_of leaf.annotation.logical leaf.annotation.converted)

abbrev pub holds : DataType → LeafSchema → Bool
holds kind.Void leaf = false
holds kind.Boolean leaf = leaf.physical == BOOLEAN
holds kind.Byte leaf = leaf.physical == INT32
holds kind.Short leaf = leaf.physical == INT32
holds kind.Integer leaf = leaf.physical == INT32
holds kind.Long leaf = leaf.physical == INT64
holds kind.Date leaf = leaf.physical == INT32
holds kind.Timestamp leaf = holds_moment leaf
holds kind.Str leaf = leaf.physical == BYTE_ARRAY
holds kind.Binary leaf = leaf.physical == BYTE_ARRAY
holds (kind.Decimal precision scale) leaf = holds_decimal scale leaf

-- a leaf directly below the root, not repeated, of which the type is read
abbrev pub fits : DataType → LeafSchema → Bool
fits k leaf = leaf.top && not leaf.repeated && holds k leaf

-- ---- the value that a physical one is; None where it is out of the type's range

abbrev pub where_it : Bool → Value → Option Value
where_it good v = if good then Some v else None

-- a whole number of so many bits beside its sign
abbrev pub whole_of : ℕ → ℤ → Option Value
whole_of bits n = where_it (is_within bits n) (value.Int n)

abbrev pub day_of : ℤ → Option Value
day_of n = where_it (is_day n) (value.Day n)

abbrev pub moment : ℤ → Option Value
moment micros = where_it (is_day (day_part micros)) (value.Micros micros)

abbrev pub decimal : ℕ → ℕ → ℤ → Option Value
decimal precision scale n =
    where_it (nat_lt (unsigned_abs n) (10 ^ precision)) (value.Dec (record { unscaled = n; scale = scale }))

-- the nanoseconds of a day and a Julian day; what is below a microsecond is dropped
abbrev pub julian_moment : ℕ → ℕ → Option Value
julian_moment nanos day =
    if nat_lt nanos 86_400_000_000_000
    then moment ((pos day -ℤ pos 2_440_588) *ℤ DAY_MICROS +ℤ pos (nanos / 1000))
    else None

-- INT96: eight bytes and four, little endian
abbrev pub int96_moment : List ℕ → Option Value
int96_moment bytes =
    if length bytes == 12 then julian_moment (little_number 8 bytes) (little_number 4 (drop 8 bytes)) else None

-- big endian, two's complement
abbrev pub signed_number : List ℕ → ℤ
signed_number bytes = twos_complement (length bytes) (big_number (length bytes) bytes)

abbrev pub scaled_moment : Option ℕ → ℤ → Option Value
scaled_moment None n = None
scaled_moment (Some micros) n = moment (n *ℤ pos micros)

-- the values of the types but string and binary
abbrev pub plain_value : DataType → Annotation → Physical → Option Value
plain_value kind.Boolean a (flag b) = Some (value.Bool b)
plain_value kind.Byte a (whole_number n) = whole_of 7 n
plain_value kind.Short a (whole_number n) = whole_of 15 n
plain_value kind.Integer a (whole_number n) = whole_of 31 n
plain_value kind.Long a (whole_number n) = whole_of 63 n
plain_value kind.Date a (whole_number n) = day_of n
plain_value kind.Timestamp a (whole_number n) = scaled_moment (micros_of a.logical a.converted) n
plain_value kind.Timestamp a (raw bytes) = int96_moment bytes
plain_value (kind.Decimal precision scale) a (whole_number n) = decimal precision scale n
plain_value (kind.Decimal precision scale) a (raw bytes) = decimal precision scale (signed_number bytes)
plain_value k a v = None

abbrev pub text_of : List ℕ → Option Value
text_of bytes = where_it (is_utf8 bytes) (value.Text bytes)

abbrev pub value_of : DataType → Annotation → Physical → Option Value
value_of kind.Str a (raw bytes) = text_of bytes
value_of kind.Binary a (raw bytes) = Some (value.Bytes bytes)
value_of k a v = plain_value k a v
