-- A column that is read has a value for each row of the file.
use Rattle.std.proofs.Common.{◌≡◌, ℕ, ◌+◌, ◌<◌, ◌≤◌, ◌⊎◌, inl, inr, Bool, true, false, cond, List, [], ◌∷◌, ◌++◌, Some, None, Result, Ok, Err, length, ℤ, pos, negsuc, slice_get, get_or, refl, sym, ap, ◌∙◌, length-append, arith}
use Rattle.std.specs.Prelude.{IfOk, nat_le, not}
use Rattle.std.specs.List.{list_all}
use Rattle.std.specs.Int.Signed.{le_z}
use Rattle.std.specs.Cmp.{signed_Decides}
use Rattle.std.proofs.lemmas.Bool.{and_parts, eqb-true}
use Rattle.std.proofs.lemmas.Int.{ints}
use Rattle.std.proofs.lemmas.Option.{slice_get_cases}
use Rattle.column_vectors.specs.Cells.{Cells}
use Rattle.dm_types.specs.Then.{go}
use Rattle.dm_types.specs.declared.value.DataType.{DataType}
use Rattle.dm_types.specs.declared.value.Value.{Value}
use Rattle.parquet_meta.specs.Meaning.{IsSound, has_chunks, total_rows}
use Rattle.parquet_meta.specs.declared.metadata.ChunkMeta.{ChunkMeta}
use Rattle.parquet_meta.specs.declared.metadata.Footer.{Footer}
use Rattle.parquet_meta.specs.declared.metadata.LeafSchema.{LeafSchema}
use Rattle.parquet_meta.specs.declared.metadata.RowGroup.{RowGroup}
use Rattle.parquet_pages.specs.Chunk.{chunk_values, within}
use Rattle.parquet_pages.specs.Kept.{text_size}
use Rattle.parquet_pages.specs.Pages.{Answer, Wanted}
use Rattle.parquet_pages.specs.Types.{fits}
use Rattle.parquet_pages.specs.declared.fault.FileFault.{FileFault}
use Rattle.parquet_pages.specs.declared.fault.FileFault.TheVariants as fault
use Rattle.parquet_file.proofs.GroupsRead.{cells, column_says}
use Rattle.parquet_file.specs.File.{GroupChunk, Opened, chunks_of, chunks_values, column_of, leaf_values}

-- a chunk whose values are read has one for each of its rows
abbrev pub ChunksWhole : Type 0
ChunksWhole = (file : List ℕ) (chunk : ChunkMeta) (wanted : Wanted) (rows : ℕ) (values : List Value) → chunk_values file chunk wanted rows ≡ Ok values → length values ≡ rows

pub record Went {A B : Type 0} (known : Answer A) (step : A → Answer B) (b : B) : Type 0 where
  pub from : A
  pub is : known ≡ Ok from
  pub gives : step from ≡ Ok b

pub went : {A B : Type 0} (known : Answer A) (step : A → Answer B) (b : B) → go known step ≡ Ok b → Went known step b
went (Ok a) step b e = record { from = a; is = refl; gives = e }
went (Err f) step b e = absurd cc

pub unless : {A : Type 0} (b : Bool) (f : FileFault) (known : Answer A) (a : A) → cond b (Err f) known ≡ Ok a → known ≡ Ok a
unless true f known a e = absurd cc
unless false f known a e = e

-- ---- the rows of chunks

abbrev rows_in : List GroupChunk → ℕ
rows_in [] = 0
rows_in (first ∷ more) = first.rows + rows_in more

chunks_count : ChunksWhole → (pages : List ℕ) (w : Wanted) (chunks : List GroupChunk) (values : List Value) → chunks_values pages w chunks ≡ Ok values → length values ≡ rows_in chunks
unfolding chunks_values
chunks_count whole pages w [] values e = let same : [] ≡ values = cc in ap length (sym same)
chunks_count whole pages w (first ∷ more) values e =
    let here = went (chunk_values pages first.chunk w first.rows) (λ values. go (chunks_values pages w more) (λ later. Ok (values ++ later))) values e in
    let later = went (chunks_values pages w more) (λ later. Ok (here.from ++ later)) values here.gives in
    let same : here.from ++ later.from ≡ values = let e = later.gives in cc in
    let front : length here.from ≡ first.rows = whole pages first.chunk w first.rows here.from here.is in
    let back : length later.from ≡ rows_in more = chunks_count whole pages w more later.from later.is in
    ap length (sym same) ∙ length-append here.from later.from ∙ omega (arith, front, back)

record IsCount (z : ℤ) : Type 0 where
  count : ℕ
  is : z ≡ pos count

not_negative : (z : ℤ) → le_z (pos 0) z ≡ true → IsCount z
not_negative (pos n) e = record { count = n; is = refl }
not_negative (negsuc n) e = absurd (grind (arith, ints))

record HasAt {X : Type 0} (xs : List X) (i : ℕ) : Type 0 where
  here : X
  is : slice_get xs i ≡ Some here

has_by : {X : Type 0} (xs : List X) (i : ℕ) → i < length xs → ((x : X) × (i < length xs) × (slice_get xs i ≡ Some x) × (get_or xs i x ≡ x)) ⊎ ((length xs ≤ i) × (slice_get xs i ≡ None)) → HasAt xs i
has_by xs i inside (inl w) = record { here = w.0; is = w.2 }
has_by xs i inside (inr w) = absurd (omega (arith, inside, w.0))

has_at : {X : Type 0} (xs : List X) (i : ℕ) → i < length xs → HasAt xs i
has_at xs i inside = has_by xs i inside (slice_get_cases xs i).1

rows_more : (i : ℕ) (group : RowGroup) (groups : List RowGroup) → HasAt group.chunks i → IsCount group.rows → pos (rows_in (chunks_of i groups)) ≡ total_rows groups → pos (rows_in (chunks_of i (group ∷ groups))) ≡ total_rows (group ∷ groups)
rows_more i group groups here rows later = rw (here.is, rows.is) (let e = later in omega (arith, ints))

rows_total : (leaves : List LeafSchema) (i : ℕ) (groups : List RowGroup) → i < length leaves → list_all (has_chunks leaves) groups ≡ true → list_all (λ group. le_z (pos 0) group.rows) groups ≡ true → pos (rows_in (chunks_of i groups)) ≡ total_rows groups
rows_total leaves i [] within chunks rows = refl
rows_total leaves i (group ∷ groups) within chunks rows =
    let both = and_parts _ _ chunks in
    let counts = and_parts _ _ rows in
    let same : length group.chunks ≡ length leaves = eqb-true (length group.chunks) (length leaves) (and_parts _ _ both.0).0 in
    rows_more i group groups (has_at group.chunks i (omega (arith, same, within))) (not_negative group.rows counts.0) (rows_total leaves i groups within both.1 counts.1)

sound_rows : (f : Footer) (i : ℕ) → IsSound f → i < length f.leaves → pos (rows_in (chunks_of i f.groups)) ≡ f.rows
sound_rows f i sound within =
    let parts = and_parts _ _ sound.groups in
    let counts = and_parts _ _ parts.1 in
    rows_total f.leaves i f.groups within parts.0 counts.0 ∙ (signed_Decides (total_rows f.groups) f.rows).0 counts.1

-- ---- the column

pub limited : (b : Bool) (found values : List Value) → cond b (Ok found) (Err fault.TextLimit) ≡ Ok values → found ≡ values
limited true found values e = cc
limited false found values e = absurd cc

leaf_rows : ChunksWhole → (file : Opened) (i : ℕ) (w : Wanted) (left : ℕ) (values : List Value) → IsSound file.footer → i < length file.footer.leaves → column_of file i w left ≡ Ok values → pos (length values) ≡ file.footer.rows
unfolding column_of
leaf_rows whole file i w left values sound inside e =
    let found = went (leaf_values file i w) (within left) values e in
    let good = unless (not (fits w.kind w.leaf)) fault.Mismatch (chunks_values file.pages w (chunks_of i file.footer.groups)) found.from found.is in
    let same : found.from ≡ values = limited (nat_le (text_size found.from) left) found.from values found.gives in
    ap (λ (xs : List Value). pos (length xs)) (sym same) ∙ ap pos (chunks_count whole file.pages w (chunks_of i file.footer.groups) found.from good) ∙ sound_rows file.footer i sound inside

says_rows : ChunksWhole → (file : Opened) (i : ℕ) (kind : DataType) (nullable : Bool) (left : ℕ) (leaf : LeafSchema) (result : Result Cells FileFault) → IsSound file.footer → i < length file.footer.leaves → column_says file i kind nullable left result leaf
    → IfOk result (λ column. pos (length column.values) ≡ file.footer.rows)
says_rows whole file i kind nullable left leaf (Err f) sound inside is = tt
says_rows whole file i kind nullable left leaf (Ok column) sound inside is =
    let found = went (column_of file i (record { kind = kind; nullable = nullable; leaf = leaf }) left) (cells kind) column is in
    let same : ◌≡◌ {A = Cells} (record { kind = kind; values = found.from }) column = let e = found.gives in cc in
    ap (λ (it : Cells). pos (length it.values)) (sym same) ∙ leaf_rows whole file i (record { kind = kind; nullable = nullable; leaf = leaf }) left found.from sound inside found.is

pub column_rows : ChunksWhole → (file : Opened) (i : ℕ) (kind : DataType) (nullable : Bool) (left : ℕ) (result : Result Cells FileFault) → IsSound file.footer → i < length file.footer.leaves
    → ((leaf : LeafSchema) → slice_get file.footer.leaves i ≡ Some leaf → column_says file i kind nullable left result leaf) → IfOk result (λ column. pos (length column.values) ≡ file.footer.rows)
column_rows whole file i kind nullable left result sound inside says =
    let leaf = has_at file.footer.leaves i inside in
    says_rows whole file i kind nullable left leaf.here result sound inside (says leaf.here leaf.is)
