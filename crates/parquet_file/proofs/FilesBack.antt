-- A file that is written is opened, and its columns are read.
use Rattle.std.proofs.Common.{◌≡◌, ℕ, suc, ◌+◌, ◌-◌, ◌/◌, ◌%◌, ◌<◌, ◌≤◌, ◌^◌, Bool, true, false, List, [], ◌∷◌, ◌++◌, length, map, take, drop, slice_get, ℤ, pos, ◌+ℤ◌, Some, Ok, refl, sym, ap, ◌∙◌, subst, arith, append_assoc, length-append, eq-eqb, lit<}
use Rattle.std.proofs.lemmas.Bool.{le-leb, le-ltb}
use Rattle.std.proofs.lemmas.Bool.Decides.{nat_tests, Decides-int_eq}
use Rattle.std.proofs.lemmas.List.{append-nil, length-map}
use Rattle.std.proofs.lemmas.List.Elements.{recursion_from_All}
use Rattle.std.proofs.lemmas.Int.{fits_signed_from_abs, to_z_pos}
use Rattle.std.specs.Int.{w32, w64}
use Rattle.std.proofs.Common.{to_z}
use Rattle.std.proofs.lemmas.Option.{get_or_from_slice_get, slice_get_within}
use Rattle.std.proofs.lemmas.Slice.Eq.{bytes_eq-Decides}
use Rattle.std.proofs.Math.Seq.{drop-append_seam, take-append_seam}
use Rattle.std.specs.Int.Signed.{le_z}
use Rattle.std.specs.List.{AllByRecursion, list_all, zip}
use Rattle.std.specs.Ordering.{int_eq}
use Rattle.std.specs.Prelude.{◌&&◌, not, nat_lt, ◌==◌}
use Rattle.std.specs.Str.{bytes_eq}
use Rattle.byteorder.specs.Endian.{little_bytes, little_number}
use Rattle.byteorder.specs.Numbers.{little_from-bytes}
use Rattle.dm_types.specs.declared.value.DataType.{DataType}
use Rattle.dm_types.specs.declared.value.Value.{Value}
use Rattle.parquet_meta.specs.Meaning.{footer_in, is_chunk}
use Rattle.parquet_meta.specs.Writable.{IsWritableChunk, IsWritableFooter}
use Rattle.parquet_meta.specs.declared.metadata.ChunkMeta.{ChunkMeta}
use Rattle.parquet_meta.specs.declared.metadata.Footer.{Footer}
use Rattle.parquet_meta.specs.declared.metadata.LeafSchema.{LeafSchema}
use Rattle.parquet_meta.specs.declared.metadata.RowGroup.{RowGroup}
use Rattle.parquet_pages.specs.Chunk.{chunk_values, within}
use Rattle.parquet_pages.specs.Pages.{Wanted}
use Rattle.parquet_pages.specs.Stored.{leaf_of, type_of}
use Rattle.parquet_pages.specs.Types.{fits}
use Rattle.parquet_pages.specs.Writing.{TakesNulls}
use Rattle.parquet_file.specs.Chunks.{GoesOn}
use Rattle.parquet_file.specs.File.{Opened, chunks_values, column_of, cut_footer, file_parts, magic, opened}
use Rattle.parquet_file.specs.Writing.{IsWritableFile, IsWritableFileColumn, file_leaf, footer_of, named, rows_of, total_size}
use Rattle.parquet_file.specs.declared.columns.FileColumn.{FileColumn}
use Rattle.parquet_file.proofs.ChunksWritten.{chunk-back}
use Rattle.parquet_file.proofs.LeavesWritten.{int_eq-same, leaf-fits, leaves-writable}

-- ---- the footer is one that is written

same_count : (columns : List FileColumn) (old new : List ℕ) (chunks : List ChunkMeta) → GoesOn columns old new chunks → length chunks ≡ length columns
same_count [] old new [] w = refl
same_count [] old new (chunk ∷ chunks) w = absurd w
same_count (c ∷ columns) old new [] w = absurd w
same_count (c ∷ columns) old new (chunk ∷ chunks) w = ap suc (same_count columns w.0 new chunks w.2)

chunks-writable : (columns : List FileColumn) (old new : List ℕ) (chunks : List ChunkMeta) → GoesOn columns old new chunks → AllByRecursion IsWritableChunk chunks
chunks-writable [] old new [] w = tt
chunks-writable [] old new (chunk ∷ chunks) w = absurd w
chunks-writable (c ∷ columns) old new [] w = absurd w
chunks-writable (c ∷ columns) old new (chunk ∷ chunks) w =
    (subst IsWritableChunk (sym (w.1.is ∙ ap (named c) w.1.written.told)) (record { inside = refl; encodings = (fits_signed_from_abs w32 (pos 0) (lit< tt), (fits_signed_from_abs w32 (pos 3) (lit< tt), tt)) }), chunks-writable columns w.0 new chunks w.2)

same_type : (k l : DataType) → k ≡ l → (int_eq (pos (type_of k)) (pos (type_of l)) && not false) ≡ true
same_type k l e = rw (e, int_eq-same (pos (type_of l))) refl

-- each chunk is of its leaf's type
chunks-fit : (count : ℕ) (columns : List FileColumn) (old new : List ℕ) (chunks : List ChunkMeta) → AllByRecursion (IsWritableFileColumn count) columns → GoesOn columns old new chunks
    → list_all is_chunk (zip chunks (map file_leaf columns)) ≡ true
chunks-fit count [] old new [] all w = refl
chunks-fit count [] old new (chunk ∷ chunks) all w = absurd w
chunks-fit count (c ∷ columns) old new [] all w = absurd w
chunks-fit count (c ∷ columns) old new (chunk ∷ chunks) all w =
    let later = chunks-fit count columns w.0 new chunks all.1 w.2 in
    let here : is_chunk (chunk, file_leaf c) ≡ true = ap (λ (x : ChunkMeta). is_chunk (x, file_leaf c)) (w.1.is ∙ ap (named c) w.1.written.told) ∙ same_type c.column.kind c.kind all.0.kind in
    rw (here, later) refl

le-zero : (n : ℕ) → le_z (pos 0) (pos n) ≡ true
le-zero n = le-leb 0 n (omega arith)

rows-sum : (n : ℕ) → int_eq (pos n +ℤ pos 0) (pos n) ≡ true
rows-sum n = let e : n + 0 ≡ n = omega arith in (Decides-int_eq (pos n +ℤ pos 0) (pos n)).1 (ap pos e)

pub footer-writable : (columns : List FileColumn) (old new : List ℕ) (chunks : List ChunkMeta) → IsWritableFile columns → GoesOn columns old new chunks → IsWritableFooter (footer_of columns chunks)
footer-writable columns old new chunks writable w =
    let all = recursion_from_All (IsWritableFileColumn (rows_of columns)) columns writable.each in
    let count : (length chunks == length (map file_leaf columns)) ≡ true = eq-eqb (length chunks) (length (map file_leaf columns)) (same_count columns old new chunks w ∙ sym (length-map columns file_leaf)) in
    record {
      few = let n = length-map columns file_leaf in omega (arith, writable.few);
      leaves = leaves-writable (rows_of columns) columns all;
      chunks = (chunks-writable columns old new chunks w, tt);
      groups = rw (count, chunks-fit (rows_of columns) columns old new chunks all w, le-zero (rows_of columns)) (rows-sum (rows_of columns));
    }

rows_by : (count : ℕ) (columns : List FileColumn) → AllByRecursion (IsWritableFileColumn count) columns → rows_of columns ≤ 20_000_000
rows_by count [] all = omega arith
rows_by count (c ∷ columns) all = all.0.column.rows

-- there are not too many rows
pub rows-few : (columns : List FileColumn) → IsWritableFile columns → rows_of columns ≤ 20_000_000
rows-few columns writable = rows_by (rows_of columns) columns (recursion_from_All (IsWritableFileColumn (rows_of columns)) columns writable.each)

footer_by : (columns : List FileColumn) (chunks : List ChunkMeta) (bytes rows : ℤ) (leaves : List LeafSchema) (groups : List RowGroup)
    → total_size chunks ≡ bytes → rows ≡ pos (rows_of columns) → leaves ≡ map file_leaf columns → groups ≡ (record { bytes = bytes; rows = rows; chunks = chunks }) ∷ []
    → (let footer : Footer = record { rows = rows; leaves = leaves; groups = groups } in footer) ≡ footer_of columns chunks
footer_by columns chunks bytes rows leaves groups b r l g = rw (g, l, ← b, r) refl

-- the footer, by its parts
pub footer-made : (columns : List FileColumn) (chunks : List ChunkMeta) (bytes : ℤ) (count : ℕ) (leaves : List LeafSchema) (groups : List RowGroup) → IsWritableFile columns
    → total_size chunks ≡ bytes → count ≡ rows_of columns → leaves ≡ map file_leaf columns → groups ≡ (record { bytes = bytes; rows = to_z w64 count; chunks = chunks }) ∷ []
    → (let footer : Footer = record { rows = to_z w64 count; leaves = leaves; groups = groups } in footer) ≡ footer_of columns chunks
footer-made columns chunks bytes count leaves groups writable b n l g =
    let few = rows-few columns writable in
    footer_by columns chunks bytes (to_z w64 count) leaves groups b (to_z_pos w64 count (omega arith) ∙ ap pos n) l g

-- ---- the file is opened

-- what stands behind so many bytes, and before them
cut-behind : (front behind : List ℕ) (n : ℕ) → n ≡ length front → drop n (front ++ behind) ≡ behind
cut-behind front behind n e = rw e (drop-append_seam front behind)

cut-front : (front behind : List ℕ) (n : ℕ) → n ≡ length front → take n (front ++ behind) ≡ front
cut-front front behind n e = rw e (take-append_seam front behind)

same_bytes : (xs ys : List ℕ) → xs ≡ ys → bytes_eq xs ys ≡ true
same_bytes xs ys e = (bytes_eq-Decides xs ys).1 e

-- the parts of a file by what is tested
parts-of : (bytes front pages footer_bytes : List ℕ) (size : ℕ) → nat_lt (length bytes) 12 ≡ false → bytes_eq (take 4 bytes) magic ≡ true → bytes_eq (drop (length bytes - 4) bytes) magic ≡ true
    → little_number 4 (drop (length bytes - 8) bytes) ≡ size → take (length bytes - 8) bytes ≡ front → cut_footer size front ≡ Some (pages, footer_bytes)
    → file_parts bytes ≡ Some (pages, footer_bytes)
parts-of bytes front pages footer_bytes size long begins ends told stands cut = rw (long, begins, ends, told, stands) cut

opened-parts : (bytes pages footer_bytes : List ℕ) (footer : Footer) → file_parts bytes ≡ Some (pages, footer_bytes) → footer_in footer_bytes ≡ Some footer → opened bytes ≡ Some (record { pages = pages; footer = footer })
unfolding opened
opened-parts bytes pages footer_bytes footer parts reads = rw (parts, reads) refl

cut-at : (pages footer_bytes : List ℕ) → 4 ≤ length pages → cut_footer (length footer_bytes) (pages ++ footer_bytes) ≡ Some (pages, footer_bytes)
cut-at pages footer_bytes long =
    let joined : length (pages ++ footer_bytes) ≡ length pages + length footer_bytes = length-append pages footer_bytes in
    let room : nat_lt (length (pages ++ footer_bytes)) (4 + length footer_bytes) ≡ false = grind (arith, nat_tests) in
    let place : length (pages ++ footer_bytes) - length footer_bytes ≡ length pages = omega arith in
    rw (room, cut-front pages footer_bytes _ place, cut-behind pages footer_bytes _ place) refl

told-number : (size : ℕ) (behind : List ℕ) → size < 2 ^ 32 → little_number 4 (little_bytes 4 size ++ behind) ≡ size
told-number size behind few = little_from-bytes 4 0 size behind ∙ (let e : size / 256 ^ 0 % 256 ^ 4 ≡ size = omega arith in e)

-- a file that ends in a footer, with its length told in four bytes
pub opened-back : (pages more footer_bytes : List ℕ) (footer : Footer) → pages ≡ magic ++ more → length footer_bytes < 2 ^ 32 → footer_in footer_bytes ≡ Some footer
    → opened (pages ++ footer_bytes ++ little_bytes 4 (length footer_bytes) ++ magic) ≡ Some (record { pages = pages; footer = footer })
opened-back pages more footer_bytes footer begins few reads =
    let front : List ℕ = pages ++ footer_bytes in
    let told : List ℕ = little_bytes 4 (length footer_bytes) in
    let bytes : List ℕ = front ++ told ++ magic in
    let whole : bytes ≡ front ++ (told ++ magic) = append_assoc front told magic in
    let long : 4 ≤ length pages = (let e : length pages ≡ 4 + length more = ap length begins ∙ length-append magic more in omega arith) in
    let joined : length front ≡ length pages + length footer_bytes = length-append pages footer_bytes in
    let total : length bytes ≡ length front + 8 = ap length whole ∙ length-append front (told ++ magic) in
    let before : length (front ++ told) ≡ length front + 4 = length-append front told in
    let starts : take 4 bytes ≡ magic = ap (λ (p : List ℕ). take 4 (p ++ footer_bytes ++ told ++ magic)) begins in
    let ends : drop (length bytes - 4) bytes ≡ magic = cut-behind (front ++ told) magic (length bytes - 4) (omega arith) in
    let tail : drop (length bytes - 8) bytes ≡ told ++ magic = ap (drop (length bytes - 8)) whole ∙ cut-behind front (told ++ magic) (length bytes - 8) (omega arith) in
    let head : take (length bytes - 8) bytes ≡ front = ap (take (length bytes - 8)) whole ∙ cut-front front (told ++ magic) (length bytes - 8) (omega arith) in
    let size : little_number 4 (drop (length bytes - 8) bytes) ≡ length footer_bytes = ap (little_number 4) tail ∙ told-number (length footer_bytes) magic few in
    let room : nat_lt (length bytes) 12 ≡ false = le-ltb (length bytes) 12 (omega arith) in
    opened-parts bytes pages footer_bytes footer
    (parts-of bytes front pages footer_bytes (length footer_bytes) room (same_bytes (take 4 bytes) magic starts) (same_bytes (drop (length bytes - 4) bytes) magic ends) size head (cut-at pages footer_bytes long))
    reads

-- ---- its columns are read

-- a column of one row group by what is found
read_by : (file : Opened) (i : ℕ) (wanted : Wanted) (text_left : ℕ) (group : RowGroup) (chunk : ChunkMeta) (rows : ℕ) (values : List Value)
    → fits wanted.kind wanted.leaf ≡ true → file.footer.groups ≡ group ∷ [] → slice_get group.chunks i ≡ Some chunk → group.rows ≡ pos rows
    → chunk_values file.pages chunk wanted rows ≡ Ok values
    → column_of file i wanted text_left ≡ within text_left values
unfolding column_of chunks_values
read_by file i wanted text_left group chunk rows values good only stands told read =
    rw (good, only, stands, told, read) (ap (within text_left) (append-nil values))

-- the path of a chunk isn't looked at
path-free : (file : List ℕ) (c : FileColumn) (chunk : ChunkMeta) (wanted : Wanted) (rows : ℕ) → chunk_values file (named c chunk) wanted rows ≡ chunk_values file chunk wanted rows
unfolding chunk_values
path-free file c chunk wanted rows = refl

pub column-back : (columns : List FileColumn) (old new : List ℕ) (chunks : List ChunkMeta) → IsWritableFile columns → GoesOn columns old new chunks
    → (i : ℕ) (c : FileColumn) (nullable : Bool) (text_left : ℕ) → slice_get columns i ≡ Some c → TakesNulls nullable c.column.values
    → column_of (record { pages = new; footer = footer_of columns chunks }) i (record { kind = c.kind; nullable = nullable; leaf = file_leaf c }) text_left ≡ within text_left c.column.values
column-back columns old new chunks writable w i c nullable text_left at takes =
    let formed : IsWritableFileColumn (rows_of columns) c = subst (IsWritableFileColumn (rows_of columns)) (get_or_from_slice_get columns i c c at) (writable.each i c (slice_get_within columns i c at)) in
    let place = chunk-back columns old new chunks w i c at in
    let good : fits c.kind (file_leaf c) ≡ true = leaf-fits c.name c.field_id c.kind (λ e. formed.column.real (formed.kind ∙ e)) in
    let read : chunk_values (new ++ []) place.bare (record { kind = c.column.kind; nullable = nullable; leaf = leaf_of c.name c.field_id c.column.kind }) (length c.column.values) ≡ Ok c.column.values = place.back [] c.name c.field_id nullable takes in
    let P : List ℕ → DataType → ℕ → Type 0 = λ file kind rows. chunk_values file place.bare (record { kind = kind; nullable = nullable; leaf = leaf_of c.name c.field_id kind }) rows ≡ Ok c.column.values in
    let here : P new c.column.kind (length c.column.values) = subst (λ (file : List ℕ). P file c.column.kind (length c.column.values)) (append-nil new) read in
    let typed : P new c.kind (length c.column.values) = subst (λ (kind : DataType). P new kind (length c.column.values)) formed.kind here in
    let counted : P new c.kind (rows_of columns) = subst (λ (rows : ℕ). P new c.kind rows) formed.rows typed in
    let file : Opened = record { pages = new; footer = footer_of columns chunks } in
    let group : RowGroup = record { bytes = total_size chunks; rows = pos (rows_of columns); chunks = chunks } in
    read_by file i (record { kind = c.kind; nullable = nullable; leaf = file_leaf c }) text_left group (named c place.bare) (rows_of columns) c.column.values good refl place.stands refl
    (path-free new c place.bare (record { kind = c.kind; nullable = nullable; leaf = file_leaf c }) (rows_of columns) ∙ counted)
