-- Values as they stand in a page, by their physical type (parquet.thrift, Type; Encodings.md, "Plain: (PLAIN = 0)").
use Rattle.std.specs.Prelude.{ℕ, ℤ, Bool, false, ◌==◌, if◌then◌else◌, List, [], map, Option, Some, None, Result, Ok, Err}
use Rattle.std.specs.List.{flat_map}
use Rattle.parquet_meta.specs.declared.numbers.TheConstants.{BOOLEAN, INT32, INT64, INT96, BYTE_ARRAY, FIXED_LEN_BYTE_ARRAY}
use Rattle.plain_values.specs.Meaning.{Wrong, values_at, bytes_at, whole}
use Rattle.plain_values.specs.Forms.{int32_at, int32_bytes, int64_at, int64_bytes, array_at, array_bytes, own_bytes}
use Rattle.plain_values.specs.Flags.{flags_at, flags_spelling}

-- a value before its column's type says what it means
pub data Physical : Type 0 where
  -- BOOLEAN
  flag : Bool → Physical
  -- INT32 and INT64
  whole_number : ℤ → Physical
  -- the others: their bytes
  raw : List ℕ → Physical

-- ---- what is read

-- values that are read without a fault
abbrev pub each : {A : Type 0} → (A → Physical) → Result (List A) Wrong → Option (List Physical)
each physical (Ok values) = Some (map physical values)
each physical (Err wrong) = None

-- the values that bytes are, which are to be so many; fixed arrays have `size` bytes. No column is read of FLOAT and
-- DOUBLE, so their bytes mean no values
abbrev pub plain : (type size count : ℕ) → List ℕ → Option (List Physical)
plain type size count bytes =
    if type == BOOLEAN then each flag (whole (flags_at count bytes))
    else if type == INT32 then each whole_number (whole (values_at int32_at count bytes))
    else if type == INT64 then each whole_number (whole (values_at int64_at count bytes))
    else if type == INT96 then each raw (whole (values_at (bytes_at 12) count bytes))
    else if type == BYTE_ARRAY then each raw (whole (values_at array_at count bytes))
    else if type == FIXED_LEN_BYTE_ARRAY then each raw (whole (values_at (bytes_at size) count bytes))
    else None

-- ---- what is written

abbrev pub flag_of : Physical → Bool
flag_of (flag b) = b
flag_of v = false

-- the bytes of a value that has bytes of its own, as each but a truth value has
abbrev pub value_bytes : (type : ℕ) → Physical → List ℕ
value_bytes type (flag b) = []
value_bytes type (whole_number n) = if type == INT32 then int32_bytes n else int64_bytes n
value_bytes type (raw bytes) = if type == BYTE_ARRAY then array_bytes bytes else own_bytes bytes

-- the bytes that values are written as; of truth values the bits behind the last one are 0
abbrev pub plain_bytes : (type : ℕ) → List Physical → List ℕ
plain_bytes type values =
    if type == BOOLEAN then flags_spelling (map flag_of values) else flat_map (value_bytes type) values
