-- What the bytes of a Parquet file mean: a footer, and a column for each leaf, or the first fault (the Parquet format,
-- "File format"; parquet.thrift, FileMetaData).
use Rattle.std.specs.Prelude.{ℕ, ◌+◌, ◌-◌, ◌||◌, not, nat_lt, ℤ, pos, negsuc, codes, if◌then◌else◌, List, [], ◌∷◌, ◌++◌, length, take, drop, slice_get, filter_map, Option, Some, None, Ok, Err}
use Rattle.std.specs.Str.{bytes_eq}
use Rattle.byteorder.specs.Endian.{little_number}
use Rattle.dm_types.specs.Then.{go, ◌>>=◌}
use Rattle.dm_types.specs.declared.value.Value.{Value}
use Rattle.parquet_meta.specs.Meaning.{footer_in}
use Rattle.parquet_meta.specs.declared.metadata.ChunkMeta.{ChunkMeta}
use Rattle.parquet_meta.specs.declared.metadata.Footer.{Footer}
use Rattle.parquet_meta.specs.declared.metadata.RowGroup.{RowGroup}
use Rattle.parquet_pages.specs.Chunk.{chunk_values, within}
use Rattle.parquet_pages.specs.Pages.{Answer, Wanted}
use Rattle.parquet_pages.specs.Types.{fits}
use Rattle.parquet_pages.specs.declared.fault.FileFault.TheVariants as fault

abbrev pub magic : List ℕ
magic = codes "PAR1"

-- what stands before a footer of so many bytes, and the footer; the first four bytes are no footer's
abbrev pub cut_footer : ℕ → List ℕ → Option (List ℕ × List ℕ)
cut_footer size front =
    if nat_lt (length front) (4 + size) then None
    else Some (take (length front - size) front, drop (length front - size) front)

-- `PAR1`, pages, the footer, its length in four bytes (little endian), `PAR1`
abbrev pub file_parts : List ℕ → Option (List ℕ × List ℕ)
file_parts bytes =
    if nat_lt (length bytes) 12 || not (bytes_eq (take 4 bytes) magic)
    || not (bytes_eq (drop (length bytes - 4) bytes) magic) then None
    else cut_footer (little_number 4 (drop (length bytes - 8) bytes)) (take (length bytes - 8) bytes)

-- a file: its bytes before the footer, and the footer
pub record Opened : Type 0 where
  pub pages : List ℕ
  pub footer : Footer

unfoldable pub opened : List ℕ → Option Opened
opened bytes = do
  parts ← file_parts bytes
  footer ← footer_in parts.1
  Some (record { pages = parts.0; footer = footer })

-- a count that isn't negative
abbrev pub counted : ℤ → Option ℕ
counted (pos n) = Some n
counted (negsuc n) = None

-- a column chunk, and how many rows its row group has
pub record GroupChunk : Type 0 where
  pub chunk : ChunkMeta
  pub rows : ℕ

-- the chunk of the i-th leaf in a row group
abbrev pub chunk_in : ℕ → RowGroup → Option GroupChunk
chunk_in i group = do
  chunk ← slice_get group.chunks i
  rows ← counted group.rows
  Some (record { chunk = chunk; rows = rows })

-- the chunks of the i-th leaf, row group after row group. Each row group of a footer that is read has one, and no
-- negative count of rows, so that none is left out
abbrev pub chunks_of : ℕ → List RowGroup → List GroupChunk
chunks_of i groups = filter_map (chunk_in i) groups

-- the values of chunks, one after the other, or the first fault
unfoldable pub chunks_values : List ℕ → Wanted → List GroupChunk → Answer (List Value)
chunks_values pages wanted [] = Ok []
chunks_values pages wanted (first ∷ more) =
    go (chunk_values pages first.chunk wanted first.rows) (λ values.
    go (chunks_values pages wanted more) (λ later. Ok (values ++ later)))

-- the values of the i-th leaf, which is the one that is wanted
abbrev pub leaf_values : Opened → ℕ → Wanted → Answer (List Value)
leaf_values file i wanted =
    if not (fits wanted.kind wanted.leaf) then Err fault.Mismatch
    else chunks_values file.pages wanted (chunks_of i file.footer.groups)

-- the column of the i-th leaf, or the first fault
unfoldable pub column_of : Opened → ℕ → Wanted → ℕ → Answer (List Value)
column_of file i wanted text_left = go (leaf_values file i wanted) (within text_left)
