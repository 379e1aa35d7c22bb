-- What a whole file that is written has.
use Rattle.std.proofs.Common.{◌≡◌, ℕ, ◌<◌, ◌^◌, List, ◌++◌, length, ℤ, pos, to_z, Some, refl, sym, ap, ◌∙◌, subst}
use Rattle.std.proofs.lemmas.Int.{to_z_pos}
use Rattle.std.specs.Int.{w64}
use Rattle.parquet_meta.specs.Meaning.{footer_in}
use Rattle.parquet_meta.specs.declared.metadata.ChunkMeta.{ChunkMeta}
use Rattle.parquet_file.specs.Chunks.{GoesOn, file_bytes, footer_bytes}
use Rattle.parquet_file.specs.File.{Opened, magic, opened}
use Rattle.parquet_file.specs.Writing.{IsFileOf, IsWritableFile, WritesChunks, WritesFile, footer_of}
use Rattle.parquet_file.specs.declared.columns.FileColumn.{FileColumn}
use Rattle.parquet_file.proofs.ChunksWritten.{grows, writes_chunks}
use Rattle.parquet_file.proofs.FilesBack.{column-back, opened-back}

-- a size that was taken of lengths
pub sized : (total : ℤ) (size told : ℕ) → total ≡ pos size → size ≡ told → told < 2 ^ 63 → total ≡ to_z w64 told
sized total size told e s few = e ∙ ap pos s ∙ sym (to_z_pos w64 told few)

pub file_written : (columns : List FileColumn) (old pages : List ℕ) (chunks : List ChunkMeta) (bytes : List ℕ) → old ≡ magic → GoesOn columns old pages chunks
    → bytes ≡ file_bytes pages (footer_of columns chunks) → WritesFile columns bytes
file_written columns old pages chunks bytes start w is = record {
  pages = pages;
  chunks = chunks;
  are = subst (λ (x : List ℕ). WritesChunks columns x pages chunks) start (writes_chunks columns old pages chunks w);
  is = is;
}

pub file_back : (columns : List FileColumn) (old pages : List ℕ) (chunks : List ChunkMeta) (bytes : List ℕ) → IsWritableFile columns → old ≡ magic → GoesOn columns old pages chunks
    → bytes ≡ file_bytes pages (footer_of columns chunks) → length (footer_bytes (footer_of columns chunks)) < 2 ^ 32 → footer_in (footer_bytes (footer_of columns chunks)) ≡ Some (footer_of columns chunks) → IsFileOf columns bytes
file_back columns old pages chunks bytes writable start w is few reads =
    let more = grows columns old pages chunks w in
    let begins : pages ≡ magic ++ more.0 = more.1 ∙ ap (λ (x : List ℕ). x ++ more.0) start in
    let file : Opened = record { pages = pages; footer = footer_of columns chunks } in
    record {
      file = file;
      is = ap opened is ∙ opened-back pages more.0 (footer_bytes (footer_of columns chunks)) (footer_of columns chunks) begins few reads;
      rows = refl;
      leaves = refl;
      column = column-back columns old pages chunks writable w;
    }
