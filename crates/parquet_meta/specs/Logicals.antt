-- What a logical type says (parquet.thrift, LogicalType). A union should have one member; of those that are known the
-- last in the bytes counts.
use Rattle.std.specs.Prelude.{ℕ, ℤ, pos, if◌then◌else◌, List, [], ◌∷◌, Option, Some, None, unwrap_or}
use Rattle.std.specs.Ordering.{int_eq}
use Rattle.dm_types.specs.Then.{◌>>=◌}
use Rattle.thrift_compact.specs.declared.tree.Field.{Field}
use Rattle.parquet_meta.specs.declared.forms.Shape.TheVariants as shape
use Rattle.parquet_meta.specs.declared.metadata.Logical.{Logical}
use Rattle.parquet_meta.specs.declared.metadata.Logical.TheVariants as logical
use Rattle.parquet_meta.specs.declared.numbers.TheConstants.{NO_UNIT, MILLIS, MICROS, NANOS}
use Rattle.parquet_meta.specs.declared.logical_types.DecimalType.{DecimalType}
use Rattle.parquet_meta.specs.declared.logical_types.TimeUnit.{TimeUnit}
use Rattle.parquet_meta.specs.declared.logical_types.TimestampType.{TimestampType}
use Rattle.parquet_meta.specs.Forms.{optional, checked, last_among, i32, struct}

-- DecimalType
abbrev pub decimal_of : List Field → Option DecimalType
decimal_of t = do
  scale ← optional i32 (pos 1) t  -- 1 scale
  precision ← checked shape.I32 (pos 2) t  -- 2 precision
  Some (record { scale = unwrap_or scale (pos 0) })

-- the number of a TimeUnit by the id of its member
abbrev pub unit_by : Option ℤ → ℕ
unit_by None = NO_UNIT
unit_by (Some id) = if int_eq id (pos 1) then MILLIS else if int_eq id (pos 2) then MICROS else NANOS

-- TimeUnit
abbrev pub unit_of : List Field → Option TimeUnit
unit_of t = do
  millis ← checked shape.Struct (pos 1) t  -- 1 MILLIS
  micros ← checked shape.Struct (pos 2) t  -- 2 MICROS
  nanos ← checked shape.Struct (pos 3) t  -- 3 NANOS
  Some (record { number = unit_by (last_among (pos 1 ∷ pos 2 ∷ pos 3 ∷ []) t) })

abbrev pub number_of : Option TimeUnit → ℕ
number_of None = NO_UNIT
number_of (Some unit) = unit.number

-- TimestampType
abbrev pub timestamp_of : List Field → Option TimestampType
timestamp_of t = do
  adjusted ← checked shape.Bool (pos 1) t  -- 1 isAdjustedToUTC
  unit ← optional (struct unit_of) (pos 2) t  -- 2 unit
  Some (record { unit = number_of unit })

abbrev pub scale_of : Option DecimalType → ℤ
scale_of None = pos 0
scale_of (Some decimal) = decimal.scale

abbrev pub unit_number : Option TimestampType → ℕ
unit_number None = NO_UNIT
unit_number (Some timestamp) = timestamp.unit

-- the logical type by the id of its last known member
abbrev pub logical_by : Option ℤ → Option DecimalType → Option TimestampType → Logical
logical_by None decimal timestamp = logical.Other
logical_by (Some id) decimal timestamp =
    if int_eq id (pos 1) then logical.Str
    else if int_eq id (pos 5) then logical.Decimal (scale_of decimal)
    else if int_eq id (pos 6) then logical.Date
    else logical.Timestamp (unit_number timestamp)

-- LogicalType
abbrev pub logical_of : List Field → Option Logical
logical_of t = do
  str ← checked shape.Struct (pos 1) t  -- 1 STRING
  decimal ← optional (struct decimal_of) (pos 5) t  -- 5 DECIMAL
  date ← checked shape.Struct (pos 6) t  -- 6 DATE
  timestamp ← optional (struct timestamp_of) (pos 8) t  -- 8 TIMESTAMP
  Some (logical_by (last_among (pos 1 ∷ pos 5 ∷ pos 6 ∷ pos 8 ∷ []) t) decimal timestamp)
