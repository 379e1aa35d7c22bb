-- Chunks that are written, one after the other.
use Rattle.std.proofs.Common.{◌≡◌, ℕ, zero, suc, Bool, Ok, ◌+◌, ◌<◌, ◌≤◌, List, [], ◌∷◌, ◌++◌, length, take, get_or, ℤ, pos, ◌+ℤ◌, Option, Some, slice_get, refl, sym, ap, ◌∙◌, subst, arith, append_assoc, length-append}
use Rattle.std.proofs.lemmas.List.{append-nil, take_more}
use Rattle.parquet_meta.specs.declared.metadata.ChunkMeta.{ChunkMeta}
use Rattle.parquet_pages.specs.Chunk.{chunk_values}
use Rattle.parquet_pages.specs.Stored.{leaf_of}
use Rattle.parquet_pages.specs.Writing.{IsReadBack, page_bytes}
use Rattle.parquet_file.specs.Chunks.{GoesOn, IsChunkOf}
use Rattle.parquet_file.specs.Writing.{WritesChunks, named, total_size}
use Rattle.parquet_file.specs.declared.columns.FileColumn.{FileColumn}

-- the bytes of a chunk
abbrev pub chunk_bytes : (c : FileColumn) (old new : List ℕ) (chunk : ChunkMeta) → IsChunkOf c old new chunk → List ℕ
chunk_bytes c old new chunk w = page_bytes (length c.column.values) w.written.levels w.written.values

-- what is written goes behind what was there
pub grows : (columns : List FileColumn) (old new : List ℕ) (chunks : List ChunkMeta) → GoesOn columns old new chunks → (more : List ℕ) × (new ≡ old ++ more)
grows [] old new [] w = ([], sym w ∙ sym (append-nil old))
grows [] old new (chunk ∷ chunks) w = absurd w
grows (c ∷ columns) old new [] w = absurd w
grows (c ∷ columns) old new (chunk ∷ chunks) w =
    let here = chunk_bytes c old w.0 chunk w.1 in
    let later = grows columns w.0 new chunks w.2 in
    (here ++ later.0, later.1 ∙ ap (λ (x : List ℕ). x ++ later.0) w.1.written.joined ∙ append_assoc old here later.0)

pub stays_long : (columns : List FileColumn) (old new : List ℕ) (chunks : List ChunkMeta) → GoesOn columns old new chunks → length old ≤ length new
stays_long columns old new chunks w =
    let more = grows columns old new chunks w in
    let size : length new ≡ length old + length more.0 = ap length more.1 ∙ length-append old more.0 in
    omega arith

-- one column more
pub goes_on-push : (columns : List FileColumn) (old middle new : List ℕ) (chunks : List ChunkMeta) (c : FileColumn) (chunk : ChunkMeta)
    → GoesOn columns old middle chunks → IsChunkOf c middle new chunk → GoesOn (columns ++ c ∷ []) old new (chunks ++ chunk ∷ [])
goes_on-push [] old middle new [] c chunk w now = (new, subst (λ (x : List ℕ). IsChunkOf c x new chunk) (sym w) now, refl)
goes_on-push [] old middle new (first ∷ chunks) c chunk w now = absurd w
goes_on-push (head ∷ columns) old middle new [] c chunk w now = absurd w
goes_on-push (head ∷ columns) old middle new (first ∷ chunks) c chunk w now = (w.0, w.1, goes_on-push columns w.0 middle new chunks c chunk w.2 now)

-- the next column of a list
pub goes_on-next : (columns : List FileColumn) (k : ℕ) (old middle new : List ℕ) (chunks : List ChunkMeta) (c : FileColumn) (chunk : ChunkMeta)
    → k < length columns → c ≡ get_or columns k c → GoesOn (take k columns) old middle chunks → IsChunkOf c middle new chunk
    → GoesOn (take (k + 1) columns) old new (chunks ++ chunk ∷ [])
goes_on-next columns k old middle new chunks c chunk h e w now =
    let cut : take (k + 1) columns ≡ take k columns ++ c ∷ [] = take_more columns k c h ∙ ap (λ (x : FileColumn). take k columns ++ x ∷ []) (sym e) in
    subst (λ (x : List FileColumn). GoesOn x old new (chunks ++ chunk ∷ [])) (sym cut) (goes_on-push (take k columns) old middle new chunks c chunk w now)

pub writes_chunks : (columns : List FileColumn) (old new : List ℕ) (chunks : List ChunkMeta) → GoesOn columns old new chunks → WritesChunks columns old new chunks
writes_chunks [] old new [] w = subst (λ (x : List ℕ). WritesChunks [] old x []) w (WritesChunks.nothing old)
writes_chunks [] old new (chunk ∷ chunks) w = absurd w
writes_chunks (c ∷ columns) old new [] w = absurd w
writes_chunks (c ∷ columns) old new (chunk ∷ chunks) w =
    subst (λ (x : ChunkMeta). WritesChunks (c ∷ columns) old new (x ∷ chunks)) (sym w.1.is)
    (WritesChunks.one c columns old w.0 new w.1.bare chunks w.1.written (writes_chunks columns w.0 new chunks w.2))

sizes : (a b c size total : ℕ) → b ≡ a + size → c ≡ b + total → c ≡ a + (size + total)
sizes a b c size total e f = omega arith

-- the chunks' sizes make up what was written
pub total_size-is : (columns : List FileColumn) (old new : List ℕ) (chunks : List ChunkMeta) → GoesOn columns old new chunks
    → (size : ℕ) × (total_size chunks ≡ pos size) × (length new ≡ length old + size)
total_size-is [] old new [] w = (0, refl, let same : length new ≡ length old = ap length (sym w) in omega arith)
total_size-is [] old new (chunk ∷ chunks) w = absurd w
total_size-is (c ∷ columns) old new [] w = absurd w
total_size-is (c ∷ columns) old new (chunk ∷ chunks) w =
    let here = chunk_bytes c old w.0 chunk w.1 in
    let later = total_size-is columns w.0 new chunks w.2 in
    let told : chunk.packed ≡ pos (length here) = ap (λ (x : ChunkMeta). x.packed) w.1.is ∙ ap (λ (x : ChunkMeta). x.packed) w.1.written.told in
    let sum : chunk.packed +ℤ total_size chunks ≡ pos (length here) +ℤ pos later.0 = ap (λ (z : ℤ). z +ℤ total_size chunks) told ∙ ap (λ (z : ℤ). pos (length here) +ℤ z) later.1 in
    let grown : length w.0 ≡ length old + length here = ap length w.1.written.joined ∙ length-append old here in
    (length here + later.0, sum, sizes (length old) (length w.0) (length new) (length here) later.0 grown later.2)

-- what is read back stays so when more is written
back-stays : (c : FileColumn) (middle new more : List ℕ) (bare : ChunkMeta) → new ≡ middle ++ more → IsReadBack c.column middle bare → IsReadBack c.column new bare
back-stays c middle new more bare e back =
    subst (λ (x : List ℕ). IsReadBack c.column x bare) (sym e)
    (λ (rest name : List ℕ) (field_id : Option ℤ) (nullable : Bool) takes. subst (λ (x : List ℕ). chunk_values x bare (record { kind = c.column.kind; nullable = nullable; leaf = leaf_of name field_id c.column.kind }) (length c.column.values) ≡ Ok c.column.values) (sym (append_assoc middle more rest)) (back (more ++ rest) name field_id nullable takes))

-- a chunk in its place, which is read back
pub record IsBack (c : FileColumn) (new : List ℕ) (place : Option ChunkMeta) : Type 0 where
  pub bare : ChunkMeta
  pub stands : place ≡ Some (named c bare)
  pub back : IsReadBack c.column new bare

-- each chunk is read back
pub chunk-back : (columns : List FileColumn) (old new : List ℕ) (chunks : List ChunkMeta) → GoesOn columns old new chunks
    → (i : ℕ) (c : FileColumn) → slice_get columns i ≡ Some c → IsBack c new (slice_get chunks i)
chunk-back [] old new chunks w i c at = absurd (cc)
chunk-back (first ∷ columns) old new [] w i c at = absurd w
chunk-back (first ∷ columns) old new (chunk ∷ chunks) w zero c at =
    let same : first ≡ c = cc in
    let later = grows columns w.0 new chunks w.2 in
    subst (λ (x : FileColumn). IsBack x new (Some chunk)) same
    (record { bare = w.1.bare; stands = ap Some w.1.is; back = back-stays first w.0 new later.0 w.1.bare later.1 w.1.again })
chunk-back (first ∷ columns) old new (chunk ∷ chunks) w (suc i) c at = chunk-back columns w.0 new chunks w.2 i c at
