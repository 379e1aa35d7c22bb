-- What the bytes of a column chunk mean: its column, or the first fault (parquet.thrift, ColumnMetaData).
use Rattle.std.specs.Prelude.{ℕ, ℤ, pos, ◌+ℤ◌, ◌&&◌, not, nat_le, int_le, int_lt, unsigned_abs, if◌then◌else◌, List, length, take, drop, Option, Some, None, Ok, Err}
use Rattle.std.specs.Ordering.{int_eq}
use Rattle.dm_types.specs.Then.{go}
use Rattle.dm_types.specs.declared.value.Value.{Value}
use Rattle.parquet_meta.specs.declared.metadata.ChunkMeta.{ChunkMeta}
use Rattle.parquet_meta.specs.declared.numbers.TheConstants.{UNCOMPRESSED}
use Rattle.parquet_pages.specs.Kept.{text_size}
use Rattle.parquet_pages.specs.Pages.{Answer, or_else, Wanted, begun, pages_at}
use Rattle.parquet_pages.specs.Types.{fits}
use Rattle.parquet_pages.specs.declared.fault.FileFault.TheVariants as fault

-- where it begins: at its dictionary page, where that stands before its data pages
abbrev pub start_of : Option ℤ → ℤ → ℤ
start_of None page_at = page_at
start_of (Some at) page_at = if int_lt (pos 0) at && int_lt at page_at then at else page_at

-- so many bytes from a place, behind the first four of the file
abbrev pub bytes_between : List ℕ → ℤ → ℤ → Option (List ℕ)
bytes_between file start size =
    if int_le (pos 4) start && int_le (pos 0) size && int_le (start +ℤ size) (pos (length file))
    then Some (take (unsigned_abs size) (drop (unsigned_abs start) file))
    else None

abbrev pub chunk_bytes : List ℕ → ChunkMeta → Option (List ℕ)
chunk_bytes file chunk = bytes_between file (start_of chunk.dictionary_at chunk.page_at) chunk.packed

-- the bytes of a chunk that has a value for each row
abbrev pub chunk_of : List ℕ → ChunkMeta → ℕ → Option (List ℕ)
chunk_of file chunk rows = if int_eq chunk.values (pos rows) then chunk_bytes file chunk else None

-- the values of a chunk whose leaf fits, or the first fault
unfoldable pub chunk_values : List ℕ → ChunkMeta → Wanted → ℕ → Answer (List Value)
chunk_values file chunk wanted rows =
    if not (int_eq chunk.codec UNCOMPRESSED) then Err fault.Compressed
    else go (or_else fault.BadParquet (chunk_of file chunk rows)) (λ bytes.
    pages_at (length bytes) wanted (begun rows) bytes)

-- the values, unless their text passes the limit
abbrev pub within : ℕ → List Value → Answer (List Value)
within text_left values = if nat_le (text_size values) text_left then Ok values else Err fault.TextLimit

-- the column of a chunk, or the first fault
unfoldable pub chunk_column : List ℕ → ChunkMeta → Wanted → ℕ → ℕ → Answer (List Value)
chunk_column file chunk wanted rows text_left =
    if not (fits wanted.kind wanted.leaf) then Err fault.Mismatch
    else go (chunk_values file chunk wanted rows) (within text_left)
