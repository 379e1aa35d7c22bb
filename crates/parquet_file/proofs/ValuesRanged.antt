-- What holds of the values of each chunk holds of those of a column.
use Rattle.std.proofs.Common.{◌≡◌, ℕ, List, [], ◌∷◌, ◌++◌, Ok, subst, arith}
use Rattle.std.specs.Prelude.{All, nat_le, not}
use Rattle.std.proofs.lemmas.List.Elements.{All-append}
use Rattle.dm_types.specs.Then.{go}
use Rattle.dm_types.specs.declared.value.Value.{Value}
use Rattle.parquet_meta.specs.declared.metadata.ChunkMeta.{ChunkMeta}
use Rattle.parquet_pages.specs.Chunk.{chunk_values, within}
use Rattle.parquet_pages.specs.Kept.{text_size}
use Rattle.parquet_pages.specs.Pages.{Wanted}
use Rattle.parquet_pages.specs.Types.{fits}
use Rattle.parquet_pages.specs.declared.fault.FileFault.TheVariants as fault
use Rattle.parquet_file.proofs.RowsHeld.{limited, unless, went}
use Rattle.parquet_file.specs.File.{GroupChunk, Opened, chunks_of, chunks_values, column_of, leaf_values}

-- it holds of the values of each chunk
abbrev pub ChunksHold : Wanted → (Value → Type 0) → Type 0
ChunksHold w P = (file : List ℕ) (chunk : ChunkMeta) (rows : ℕ) (values : List Value) → chunk_values file chunk w rows ≡ Ok values → All P values

chunks_hold : (P : Value → Type 0) (w : Wanted) → ChunksHold w P → (pages : List ℕ) (chunks : List GroupChunk) (values : List Value) → chunks_values pages w chunks ≡ Ok values → All P values
unfolding chunks_values
chunks_hold P w hold pages [] values e =
    let same : [] ≡ values = cc in
    let Q : List Value → Type 0 = λ vs. All P vs in
    subst Q same (λ k d low. absurd (omega arith))
chunks_hold P w hold pages (first ∷ more) values e =
    let here = went (chunk_values pages first.chunk w first.rows) (λ values. go (chunks_values pages w more) (λ later. Ok (values ++ later))) values e in
    let later = went (chunks_values pages w more) (λ later. Ok (here.from ++ later)) values here.gives in
    let same : here.from ++ later.from ≡ values = let e = later.gives in cc in
    let front : All P here.from = hold pages first.chunk first.rows here.from here.is in
    let back : All P later.from = chunks_hold P w hold pages more later.from later.is in
    let Q : List Value → Type 0 = λ vs. All P vs in
    subst Q same (All-append P here.from later.from front back)

pub column_holds : (P : Value → Type 0) (w : Wanted) → ChunksHold w P → (file : Opened) (i left : ℕ) (values : List Value) → column_of file i w left ≡ Ok values → All P values
unfolding column_of
column_holds P w hold file i left values e =
    let found = went (leaf_values file i w) (within left) values e in
    let good = unless (not (fits w.kind w.leaf)) fault.Mismatch (chunks_values file.pages w (chunks_of i file.footer.groups)) found.from found.is in
    let same : found.from ≡ values = limited (nat_le (text_size found.from) left) found.from values found.gives in
    let Q : List Value → Type 0 = λ vs. All P vs in
    subst Q same (chunks_hold P w hold file.pages (chunks_of i file.footer.groups) found.from good)
