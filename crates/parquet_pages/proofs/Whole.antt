-- A column that is read of a whole chunk.
use Rattle.std.proofs.Common.{◌≡◌, ℕ, List, Ok, Err, Result, Bool, true, false, refl, sym, ap, ◌∙◌, subst}
use Rattle.std.specs.Prelude.{nat_le}
use Rattle.column_vectors.specs.Cells.{Cells}
use Rattle.dm_types.specs.Then.{go}
use Rattle.dm_types.specs.declared.value.DataType.{DataType}
use Rattle.dm_types.specs.declared.value.Value.{Value}
use Rattle.parquet_meta.specs.declared.metadata.ChunkMeta.{ChunkMeta}
use Rattle.parquet_pages.specs.Answers.{Gives}
use Rattle.parquet_pages.specs.Chunk.{chunk_column, chunk_values, within}
use Rattle.parquet_pages.specs.Kept.{IsReading, begun, finished, text_size, with_more}
use Rattle.parquet_pages.specs.Pages.{Answer, Wanted}
use Rattle.parquet_pages.specs.Types.{fits}
use Rattle.parquet_pages.specs.Taking.{GoesInto}
use Rattle.parquet_pages.specs.declared.fault.FileFault.{FileFault}
use Rattle.parquet_pages.specs.declared.fault.FileFault.TheVariants as fault
use Rattle.parquet_pages.specs.declared.kept.Reading.{Reading}
use Rattle.parquet_pages.proofs.PageByPage.{moved, fault_before}
use Rattle.parquet_pages.proofs.Taken.{reading_kept}

pub takes_kept : {U : Type 0} (known : Answer (List Value)) (old new : Reading) (done : U) → IsReading old → GoesInto known old new (Ok done) → IsReading new
takes_kept (Ok values) old new done is takes = let e : with_more values old ≡ new = cc in subst IsReading e (reading_kept values old is)
takes_kept (Err f) old new done is takes = absurd cc

finished_by : (k : DataType) (nullable : Bool) (left : ℕ) (values : List Value) (enough : Bool) → nat_le (text_size values) left ≡ enough
    → finished (with_more values (begun k nullable left)).kept ≡ go (within left values) (λ all. Ok (record { kind = k; values = all }))
finished_by k nullable left values true is = rw is refl
finished_by k nullable left values false is = rw is refl

pub finished_is : (k : DataType) (nullable : Bool) (left : ℕ) (values : List Value) → finished (with_more values (begun k nullable left)).kept ≡ go (within left values) (λ all. Ok (record { kind = k; values = all }))
finished_is k nullable left values = finished_by k nullable left values (nat_le (text_size values) left) refl

pub gives_same : {A : Type 0} (known : Answer A) (result : Result A FileFault) → result ≡ known → Gives (λ it. it) known result
gives_same known (Ok it) is = sym is
gives_same known (Err fault.Memory) is = tt
gives_same known (Err fault.BadParquet) is = sym is
gives_same known (Err fault.Compressed) is = sym is
gives_same known (Err fault.Encoding) is = sym is
gives_same known (Err fault.Mismatch) is = sym is
gives_same known (Err fault.Range) is = sym is
gives_same known (Err fault.TextLimit) is = sym is

abbrev pub cells : DataType → Answer (List Value) → Answer Cells
cells k known = go known (λ values. Ok (record { kind = k; values = values }))

pub no_fit : (file : List ℕ) (chunk : ChunkMeta) (w : Wanted) (rows left : ℕ) → fits w.kind w.leaf ≡ false → cells w.kind (chunk_column file chunk w rows left) ≡ Err fault.Mismatch
unfolding chunk_column
no_fit file chunk w rows left is = rw is refl

column_is : (file : List ℕ) (chunk : ChunkMeta) (w : Wanted) (rows left : ℕ) → fits w.kind w.leaf ≡ true → chunk_column file chunk w rows left ≡ go (chunk_values file chunk w rows) (within left)
unfolding chunk_column
column_is file chunk w rows left is = rw is refl

pub chunk_failed : (U : Type 0) (file : List ℕ) (chunk : ChunkMeta) (w : Wanted) (rows left : ℕ) (r : U → Reading) (f : FileFault) → fits w.kind w.leaf ≡ true
    → Gives {X = U} r (go (chunk_values file chunk w rows) (λ values. Ok (with_more values (begun w.kind w.nullable left)))) (Err f) → Gives {X = Cells} (λ column. column) (cells w.kind (chunk_column file chunk w rows left)) (Err f)
chunk_failed U file chunk w rows left r f is failed =
    moved U Cells r (λ column. column) (go (chunk_values file chunk w rows) (λ values. Ok (with_more values (begun w.kind w.nullable left)))) (cells w.kind (chunk_column file chunk w rows left)) f (λ e same.
    let first = fault_before (chunk_values file chunk w rows) (λ values. with_more values (begun w.kind w.nullable left)) e same in
    ap (cells w.kind) (column_is file chunk w rows left is ∙ ap (λ (known : Answer (List Value)). go known (within left)) first)) failed

whole_by : (k : DataType) (nullable : Bool) (left : ℕ) (known : Answer (List Value)) (reader : Reading) → go known (λ values. Ok (with_more values (begun k nullable left))) ≡ Ok reader → finished reader.kept ≡ cells k (go known (within left))
whole_by k nullable left (Ok values) reader is = let e : with_more values (begun k nullable left) ≡ reader = cc in ap (λ (r : Reading). finished r.kept) (sym e) ∙ finished_is k nullable left values
whole_by k nullable left (Err f) reader is = absurd cc

pub chunk_read : (file : List ℕ) (chunk : ChunkMeta) (w : Wanted) (rows left : ℕ) (reader : Reading) (result : Result Cells FileFault) → fits w.kind w.leaf ≡ true
    → go (chunk_values file chunk w rows) (λ values. Ok (with_more values (begun w.kind w.nullable left))) ≡ Ok reader → result ≡ finished reader.kept → Gives (λ column. column) (cells w.kind (chunk_column file chunk w rows left)) result
chunk_read file chunk w rows left reader result is read ends =
    gives_same (cells w.kind (chunk_column file chunk w rows left)) result (ends ∙ whole_by w.kind w.nullable left (chunk_values file chunk w rows) reader read ∙ ap (cells w.kind) (sym (column_is file chunk w rows left is)))
