-- The parts of a file that is written: its chunks, one after the other, each read back as its column, and what stands
-- behind them.
use Rattle.std.specs.Prelude.{◌≡◌, ℕ, List, [], ◌∷◌, ◌++◌, length}
use Rattle.byteorder.specs.Endian.{little_bytes}
use Rattle.parquet_meta.specs.Written.{footer_fields}
use Rattle.parquet_meta.specs.declared.metadata.ChunkMeta.{ChunkMeta}
use Rattle.parquet_meta.specs.declared.metadata.Footer.{Footer}
use Rattle.parquet_pages.specs.Writing.{IsReadBack, WritesChunk}
use Rattle.thrift_compact.specs.Written.{struct as struct_bytes}
use Rattle.parquet_file.specs.File.{magic}
use Rattle.parquet_file.specs.Writing.{named}
use Rattle.parquet_file.specs.declared.columns.FileColumn.{FileColumn}

-- a chunk went to the end, under the column's name
pub record IsChunkOf (c : FileColumn) (old new : List ℕ) (chunk : ChunkMeta) : Type 0 where
  pub bare : ChunkMeta
  pub is : chunk ≡ named c bare
  pub written : WritesChunk c.column old new bare
  pub again : IsReadBack c.column new bare

-- the same for each column, in order
abbrev pub GoesOn : List FileColumn → List ℕ → List ℕ → List ChunkMeta → Type 0
GoesOn [] old new [] = old ≡ new
GoesOn (c ∷ columns) old new (chunk ∷ chunks) =
    (middle : List ℕ) × IsChunkOf c old middle chunk × GoesOn columns middle new chunks
GoesOn columns old new chunks = ⊥

-- a footer as it is written
abbrev pub footer_bytes : Footer → List ℕ
footer_bytes footer = struct_bytes (footer_fields footer)

-- pages, a footer, its length and the magic bytes
abbrev pub file_bytes : List ℕ → Footer → List ℕ
file_bytes pages footer = pages ++ footer_bytes footer ++ little_bytes 4 (length (footer_bytes footer)) ++ magic
