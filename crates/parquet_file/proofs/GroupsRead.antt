-- A column that is read of row groups, one after the other.
use Rattle.std.proofs.Common.{◌≡◌, ℕ, ◌+◌, ◌<◌, ◌≤◌, Bool, true, false, List, [], ◌∷◌, ◌++◌, Option, Some, None, Result, Ok, Err, suc, length, get_or, drop, drop-cons, pos, slice_get, refl, sym, ap, ◌∙◌, subst, arith}
use Rattle.std.proofs.lemmas.List.{drop_all}
use Rattle.column_vectors.specs.Cells.{Cells}
use Rattle.dm_types.specs.Then.{go}
use Rattle.dm_types.specs.declared.value.DataType.{DataType}
use Rattle.dm_types.specs.declared.value.Value.{Value}
use Rattle.parquet_meta.specs.declared.metadata.ChunkMeta.{ChunkMeta}
use Rattle.parquet_meta.specs.declared.metadata.LeafSchema.{LeafSchema}
use Rattle.parquet_meta.specs.declared.metadata.RowGroup.{RowGroup}
use Rattle.parquet_pages.specs.Answers.{Gives}
use Rattle.parquet_pages.specs.Chunk.{chunk_values, within}
use Rattle.parquet_pages.specs.Kept.{begun, finished, with_more}
use Rattle.parquet_pages.specs.Pages.{Answer, Wanted}
use Rattle.parquet_pages.specs.Types.{fits}
use Rattle.parquet_pages.specs.Views.{wanted}
use Rattle.parquet_pages.specs.declared.fault.FileFault.{FileFault}
use Rattle.parquet_pages.specs.declared.fault.FileFault.TheVariants as fault
use Rattle.parquet_pages.specs.declared.kept.KeptColumn.{KeptColumn}
use Rattle.parquet_pages.specs.declared.kept.Reading.{Reading}
use Rattle.parquet_file.specs.File.{Opened, chunks_of, chunks_values, column_of}

-- the column of a type with these values
abbrev pub cells : DataType → List Value → Answer Cells
cells kind values = Ok (record { kind = kind; values = values })

-- values that are added after others are added with them
abbrev pub GrowsMore : Type 0
GrowsMore = (first more : List Value) (reading : Reading) → with_more (first ++ more) reading ≡ with_more more (with_more first reading)

-- what is read from the start is the column, if its text is within the limit
abbrev pub GrowsWhole : Type 0
GrowsWhole = (kind : DataType) (nullable : Bool) (text_left : ℕ) (values : List Value) → finished (with_more values (begun kind nullable text_left)).kept ≡ go (within text_left values) (cells kind)

-- ---- row group after row group

-- what is read, where these row groups are still to come
abbrev pub still : List ℕ → LeafSchema → ℕ → List RowGroup → Reading → Answer Reading
still pages leaf i groups reading = go (chunks_values pages (wanted reading leaf) (chunks_of i groups)) (λ more. Ok (with_more more reading))

step_by : GrowsMore → (answer later : Answer (List Value)) (reading new : Reading)
    → go answer (λ values. Ok (with_more values reading)) ≡ Ok new
    → go (go answer (λ values. go later (λ more. Ok (values ++ more)))) (λ more. Ok (with_more more reading)) ≡ go later (λ more. Ok (with_more more new))
step_by grows (Ok values) (Ok more) reading new e =
    let same : with_more values reading ≡ new = cc in
    ap Ok (grows values more reading ∙ ap (with_more more) same)
step_by grows (Ok values) (Err f) reading new e = refl
step_by grows (Err f) later reading new e = absurd (cc)

same_wanted : (answer : Answer (List Value)) (reading new : Reading) (leaf : LeafSchema)
    → go answer (λ values. Ok (with_more values reading)) ≡ Ok new → wanted new leaf ≡ wanted reading leaf
same_wanted (Ok values) reading new leaf e =
    let same : with_more values reading ≡ new = cc in
    ap (λ (r : Reading). wanted r leaf) (sym same)
same_wanted (Err f) reading new leaf e = absurd (cc)

-- a row group whose chunk was read
pub still-step : GrowsMore → (pages : List ℕ) (leaf : LeafSchema) (i : ℕ) (group : RowGroup) (groups : List RowGroup) (chunk : ChunkMeta) (rows : ℕ) (reading new : Reading)
    → slice_get group.chunks i ≡ Some chunk → group.rows ≡ pos rows
    → go (chunk_values pages chunk (wanted reading leaf) rows) (λ values. Ok (with_more values reading)) ≡ Ok new
    → still pages leaf i (group ∷ groups) reading ≡ still pages leaf i groups new
unfolding chunks_values
still-step grows pages leaf i group groups chunk rows reading new at told read =
    let answer : Answer (List Value) = chunk_values pages chunk (wanted reading leaf) rows in
    let moved : still pages leaf i (group ∷ groups) reading ≡ go (chunks_values pages (wanted reading leaf) (chunks_of i groups)) (λ more. Ok (with_more more new)) = rw (at, told) (step_by grows answer (chunks_values pages (wanted reading leaf) (chunks_of i groups)) reading new read) in
    moved ∙ ap (λ (w : Wanted). go (chunks_values pages w (chunks_of i groups)) (λ more. Ok (with_more more new))) (sym (same_wanted answer reading new leaf read))

fails_by : (answer later : Answer (List Value)) (reading : Reading) (known : Answer Reading) (e : FileFault)
    → Gives {X = Reading} (λ reader. reader) (go answer (λ values. Ok (with_more values reading))) (Err e)
    → known ≡ go (go answer (λ values. go later (λ more. Ok (values ++ more)))) (λ more. Ok (with_more more reading))
    → Gives {X = Reading} (λ reader. reader) known (Err e)
fails_by answer later reading known fault.Memory g k = tt
fails_by (Ok values) later reading known e g k = absurd (cc)
fails_by (Err f) later reading known e g k = cc

-- a row group whose chunk has a fault
pub still-fails : (pages : List ℕ) (leaf : LeafSchema) (i : ℕ) (group : RowGroup) (groups : List RowGroup) (chunk : ChunkMeta) (rows : ℕ) (reading : Reading) (known : Answer Reading) (e : FileFault) (result : Result Reading FileFault)
    → slice_get group.chunks i ≡ Some chunk → group.rows ≡ pos rows
    → Gives {X = Reading} (λ reader. reader) (go (chunk_values pages chunk (wanted reading leaf) rows) (λ values. Ok (with_more values reading))) (Err e)
    → known ≡ still pages leaf i (group ∷ groups) reading → result ≡ Err e
    → Gives {X = Reading} (λ reader. reader) known result
unfolding chunks_values
still-fails pages leaf i group groups chunk rows reading known e result at told g k is =
    let Q : Result Reading FileFault → Type 0 = λ r. Gives {X = Reading} (λ reader. reader) known r in
    subst Q (sym is) (fails_by (chunk_values pages chunk (wanted reading leaf) rows) (chunks_values pages (wanted reading leaf) (chunks_of i groups)) reading known e g (rw (at, told) at k))

-- no row group is to come
pub still-end : (pages : List ℕ) (leaf : LeafSchema) (i : ℕ) (reading : Reading) → with_more [] reading ≡ reading → still pages leaf i [] reading ≡ Ok reading
unfolding chunks_values
still-end pages leaf i reading none = ap Ok none

-- ---- the whole column

-- what is said of a column of the leaf
abbrev pub column_says : Opened → ℕ → DataType → Bool → ℕ → Result Cells FileFault → LeafSchema → Type 0
column_says file i kind nullable text_left result leaf =
    Gives {X = Cells} (λ column. column) (go (column_of file i (record { kind = kind; nullable = nullable; leaf = leaf }) text_left) (cells kind)) result

-- the i-th leaf is the one that was found
pub for_leaf : (P : LeafSchema → Type 0) (leaves : List LeafSchema) (i : ℕ) (here : LeafSchema) → slice_get leaves i ≡ Some here → P here → (leaf : LeafSchema) → slice_get leaves i ≡ Some leaf → P leaf
for_leaf P leaves i here at holds leaf also =
    let same : here ≡ leaf = (let both : Some here ≡ Some leaf = sym at ∙ also in cc) in
    subst P same holds

start_by : GrowsWhole → (kind : DataType) (nullable : Bool) (text_left : ℕ) (answer : Answer (List Value))
    → go (go answer (within text_left)) (cells kind) ≡ go (go answer (λ more. Ok (with_more more (begun kind nullable text_left)))) (λ (reading : Reading). finished reading.kept)
start_by whole kind nullable text_left (Ok values) = sym (whole kind nullable text_left values)
start_by whole kind nullable text_left (Err e) = refl

pub still-same : (pages pages' : List ℕ) (leaf : LeafSchema) (i : ℕ) (groups groups' : List RowGroup) (reading reading' : Reading)
    → pages ≡ pages' → groups ≡ groups' → reading ≡ reading' → still pages leaf i groups reading ≡ still pages' leaf i groups' reading'
still-same pages pages' leaf i groups groups' reading reading' p g r =
    ap (λ (x : List ℕ). still x leaf i groups reading) p ∙ ap (λ (x : List RowGroup). still pages' leaf i x reading) g ∙ ap (λ (x : Reading). still pages' leaf i groups' x) r

-- a leaf that fits is read from the start
pub column-read : GrowsWhole → (file : Opened) (i : ℕ) (kind : DataType) (nullable : Bool) (text_left : ℕ) (leaf : LeafSchema)
    → fits kind leaf ≡ true
    → go (column_of file i (record { kind = kind; nullable = nullable; leaf = leaf }) text_left) (cells kind) ≡ go (still file.pages leaf i file.footer.groups (begun kind nullable text_left)) (λ (reading : Reading). finished reading.kept)
unfolding column_of
column-read whole file i kind nullable text_left leaf good =
    rw good (start_by whole kind nullable text_left (chunks_values file.pages (record { kind = kind; nullable = nullable; leaf = leaf }) (chunks_of i file.footer.groups)))

-- a leaf that doesn't fit
pub mismatch : (file : Opened) (i : ℕ) (kind : DataType) (nullable : Bool) (text_left : ℕ) (leaf : LeafSchema)
    → fits kind leaf ≡ false
    → go (column_of file i (record { kind = kind; nullable = nullable; leaf = leaf }) text_left) (cells kind) ≡ Err fault.Mismatch
unfolding column_of
mismatch file i kind nullable text_left leaf bad = rw bad refl

column-fails_by : (answer : Answer Reading) (known : Answer Cells) (e : FileFault)
    → Gives {X = Reading} (λ reader. reader) answer (Err e) → known ≡ go answer (λ reading. finished reading.kept) → Gives {X = Cells} (λ column. column) known (Err e)
column-fails_by answer known fault.Memory g k = tt
column-fails_by (Ok reading) known e g k = absurd (cc)
column-fails_by (Err f) known e g k = cc

-- a fault of the row groups is the column's
pub column-fails : (answer same : Answer Reading) (known : Answer Cells) (e : FileFault) (result : Result Cells FileFault)
    → answer ≡ same → Gives {X = Reading} (λ reader. reader) answer (Err e) → known ≡ go same (λ reading. finished reading.kept) → result ≡ Err e
    → Gives {X = Cells} (λ column. column) known result
column-fails answer same known e result s g from is =
    let k : known ≡ go answer (λ reading. finished reading.kept) = from ∙ ap (λ (a : Answer Reading). go a (λ reading. finished reading.kept)) (sym s) in
    let Q : Result Cells FileFault → Type 0 = λ r. Gives {X = Cells} (λ column. column) known r in
    subst Q (sym is) (column-fails_by answer known e g k)

gives_kept : (kept : Option KeptColumn) → Gives {X = Cells} (λ column. column) (finished kept) (finished kept)
gives_kept None = refl
gives_kept (Some it) = refl

-- what is read is the column, or its text has passed the limit
pub column-finished : (answer : Answer Reading) (known : Answer Cells) (reading : Reading) (result : Result Cells FileFault)
    → answer ≡ Ok reading → known ≡ go answer (λ reading. finished reading.kept) → result ≡ finished reading.kept → Gives {X = Cells} (λ column. column) known result
column-finished answer known reading result e k is =
    let Q : Result Cells FileFault → Type 0 = λ r. Gives {X = Cells} (λ column. column) known r in
    let same : known ≡ finished reading.kept = k ∙ ap (λ (a : Answer Reading). go a (λ reading. finished reading.kept)) e in
    subst Q (sym is) (subst (λ (a : Answer Cells). Gives {X = Cells} (λ column. column) a (finished reading.kept)) (sym same) (gives_kept reading.kept))

-- the next row group
pub next_group : (k : ℕ) (groups : List RowGroup) (group : RowGroup) → k < length groups → group ≡ get_or groups k group → drop k groups ≡ group ∷ drop (k + 1) groups
next_group k groups group h e =
    let cut : drop k groups ≡ get_or groups k group ∷ drop (suc k) groups = drop-cons groups k group h in
    let same : suc k ≡ k + 1 = omega arith in
    let first : get_or groups k group ∷ drop (suc k) groups ≡ group ∷ drop (suc k) groups = ap (λ (g : RowGroup). g ∷ drop (suc k) groups) (sym e) in
    cut ∙ first ∙ ap (λ (n : ℕ). group ∷ drop n groups) same

pub none_left : (k : ℕ) (groups : List RowGroup) → length groups ≤ k → drop k groups ≡ []
none_left k groups h = drop_all k groups h
