-- The values of a chunk are in the range of the column's type, and none is null where it takes no null.
use Rattle.std.proofs.Common.{◌≡◌, ℕ, zero, suc, ◌-◌, Bool, true, false, cond, List, [], ◌∷◌, ◌++◌, length, map, Option, Some, None, option_map, Ok, Err, eqb, refl, ap, subst, arith}
use Rattle.std.specs.Prelude.{All, unsigned_abs, not}
use Rattle.std.specs.List.{AllByRecursion}
use Rattle.std.specs.Ordering.{int_eq}
use Rattle.std.proofs.lemmas.List.Elements.{All-append, All-from_recursion, All-weaker}
use Rattle.dm_types.specs.Ranges.{IsNullOrInRange, IsWellFormed}
use Rattle.dm_types.specs.Then.{go}
use Rattle.dm_types.specs.declared.value.Value.{Value}
use Rattle.dm_types.specs.declared.value.Value.TheVariants as value
use Rattle.parquet_meta.specs.declared.headers.PageHeader.{PageHeader}
use Rattle.parquet_meta.specs.declared.headers.PageV1.{PageV1}
use Rattle.parquet_meta.specs.declared.metadata.ChunkMeta.{ChunkMeta}
use Rattle.parquet_meta.specs.declared.numbers.TheConstants.{UNCOMPRESSED}
use Rattle.parquet_pages.specs.Chunk.{chunk_of, chunk_values}
use Rattle.parquet_pages.specs.Entries.{Page, all_told, entries, full}
use Rattle.parquet_pages.specs.Pages.{Answer, State, Wanted, begun, column_values, data_page, dictionary_page, entries_of, entry_value, is_known, levels_at, or_else, page_at, page_entries, page_values, pages_at, role_of, take_page}
use Rattle.parquet_pages.specs.Physical.{Physical}
use Rattle.parquet_pages.specs.Stored.{is_full}
use Rattle.parquet_pages.specs.declared.fault.FileFault.TheVariants as fault
use Rattle.parquet_pages.specs.declared.pages.Role.{Role}
use Rattle.parquet_pages.specs.declared.pages.Role.TheVariants as role
use Rattle.parquet_pages.proofs.Typed.{value_ranged}
use Rattle.parquet_pages.proofs.WholeChunks.{went, told_ok, unless}

-- a value that may stand in the column that is wanted
pub record Stands (w : Wanted) (v : Value) : Type 0 where
  pub ranged : IsNullOrInRange w.kind v
  pub full : w.nullable ≡ false → is_full v ≡ true

-- ---- the entries of a page

null_stands : (w : Wanted) (nullable : Bool) (v : Value) → w.nullable ≡ nullable → cond nullable (Some value.Null) None ≡ Some v → Stands w v
null_stands w true v may is = let e : value.Null ≡ v = cc in subst (Stands w) e (record { ranged = tt; full = λ none. absurd cc })
null_stands w false v may is = absurd cc

entry_stands : (w : Wanted) (entry : Option Physical) (v : Value) → IsWellFormed w.kind → entry_value w entry ≡ Some v → Stands w v
entry_stands w None v formed is = null_stands w w.nullable v refl is
entry_stands w (Some p) v formed is =
    let in_range = value_ranged w.kind w.leaf.annotation p v formed is in
    record { ranged = in_range.ranged; full = λ none. in_range.full }

-- what holds of each that is told
abbrev IfTold : {A : Type 0} → (A → Type 0) → Option A → Type 0
IfTold {A} P told = (a : A) → told ≡ Some a → P a

told_more : {A : Type 0} (P : A → Type 0) (first : A) (more : Option (List A)) (all : List A) → P first → ((later : List A) → more ≡ Some later → AllByRecursion P later) → option_map (λ later. first ∷ later) more ≡ Some all → AllByRecursion P all
told_more P first None all here later is = absurd cc
told_more P first (Some rest) all here later is = let e : first ∷ rest ≡ all = cc in subst (AllByRecursion P) e (here, later rest refl)

told_each : {A : Type 0} (P : A → Type 0) (xs : List (Option A)) (all : List A) → AllByRecursion (IfTold P) xs → all_told xs ≡ Some all → AllByRecursion P all
unfolding all_told
told_each P [] all each is = let e : [] ≡ all = cc in subst (AllByRecursion P) e tt
told_each P (None ∷ rest) all each is = absurd cc
told_each P (Some first ∷ rest) all each is = told_more P first (all_told rest) all (each.0 first refl) (λ later at. told_each P rest later each.1 at) is

entries_told : (w : Wanted) → IsWellFormed w.kind → (xs : List (Option Physical)) → AllByRecursion (IfTold (Stands w)) (map (entry_value w) xs)
entries_told w formed [] = tt
entries_told w formed (x ∷ xs) = (λ v is. entry_stands w x v formed is, entries_told w formed xs)

column_stands : (w : Wanted) (page : Page Physical) (values : List Value) → IsWellFormed w.kind → column_values w page ≡ Some values → All (Stands w) values
column_stands w page values formed is =
    All-from_recursion (Stands w) values (told_each (Stands w) (map (entry_value w) (entries page)) values (entries_told w formed (entries page)) is)

entries_stand : (w : Wanted) (levels : List ℕ) (known : Option (List Physical)) (values : List Value) → IsWellFormed w.kind → entries_of w levels known ≡ Ok values → All (Stands w) values
entries_stand w levels known values formed is =
    let found = went (or_else fault.BadParquet known) (λ found. or_else fault.Range (column_values w (record { levels = levels; values = found }))) values is in
    column_stands w (record { levels = levels; values = found.from }) values formed (told_ok fault.Range _ values found.gives)

data_stands : (w : Wanted) (dictionary : Option (List Physical)) (header : PageV1) (bytes : List ℕ) (values : List Value) → IsWellFormed w.kind → data_page w dictionary header bytes ≡ Ok values → All (Stands w) values
data_stands w dictionary header bytes values formed is =
    let good = unless (not (is_known w.leaf.optional header)) fault.Encoding (go (or_else fault.BadParquet (levels_at w.leaf.optional (unsigned_abs header.values) bytes)) (λ levels.
    entries_of w levels.0 (page_values w.leaf dictionary header.encoding (full levels.0) levels.1))) values is in
    let levels = went (or_else fault.BadParquet (levels_at w.leaf.optional (unsigned_abs header.values) bytes)) (λ levels.
    entries_of w levels.0 (page_values w.leaf dictionary header.encoding (full levels.0) levels.1)) values good in
    entries_stand w levels.from.0 _ values formed levels.gives

-- ---- page after page

none_stand : (w : Wanted) → All (Stands w) []
none_stand w = λ k d low. absurd (omega arith)

found_stand : (w : Wanted) (values : List Value) (behind : State) (found : List Value × State) → All (Stands w) values → ◌≡◌ {A = Answer (List Value × State)} (Ok (values, behind)) (Ok found) → All (Stands w) found.0
found_stand w values behind found each is =
    let pair : ◌≡◌ {A = List Value × State} (values, behind) found = cc in
    let P : List Value → Type 0 = λ vs. All (Stands w) vs in
    subst P (ap (λ (p : List Value × State). p.0) pair) each

page_stands : (w : Wanted) (state : State) (it : Role) (body : List ℕ) (found : List Value × State) → IsWellFormed w.kind → take_page w state it body ≡ Ok found → All (Stands w) found.0
page_stands w state (role.Entries page) body found formed is =
    let behind : State = record { first = false; dictionary = state.dictionary; left = state.left - unsigned_abs page.values } in
    let read = went (data_page w state.dictionary page body) (λ values. Ok (values, record { first = false; dictionary = state.dictionary; left = state.left - unsigned_abs page.values })) found is in
    found_stand w read.from behind found (data_stands w state.dictionary page body read.from formed read.is) read.gives
page_stands w state role.Index body found formed is =
    found_stand w [] (record { first = false; dictionary = state.dictionary; left = state.left }) found (none_stand w) is
page_stands w state (role.Dictionary page) body found formed is =
    let read = went (dictionary_page w.leaf page body) (λ values. Ok ([], record { first = false; dictionary = Some values; left = state.left })) found is in
    found_stand w [] (record { first = false; dictionary = Some read.from; left = state.left }) found (none_stand w) read.gives
page_stands w state role.Unknown body found formed is = absurd cc

body_stands : (w : Wanted) (state : State) (header : PageHeader) (body : List ℕ) (found : List Value × State) → IsWellFormed w.kind → page_entries w state header body ≡ Ok found → All (Stands w) found.0
body_stands w state header body found formed is =
    let told = went (or_else fault.BadParquet (role_of state.first state.left header)) (λ it. take_page w state it body) found is in
    page_stands w state told.from body found formed told.gives

done_or : (w : Wanted) (done : Bool) (known : Answer (List Value)) (values : List Value) → (known ≡ Ok values → All (Stands w) values) → cond done (Ok []) known ≡ Ok values → All (Stands w) values
done_or w true known values later is = let e : [] ≡ values = cc in let P : List Value → Type 0 = λ vs. All (Stands w) vs in subst P e (none_stand w)
done_or w false known values later is = later is

pages_stand : (most : ℕ) (w : Wanted) (state : State) (bytes : List ℕ) (values : List Value) → IsWellFormed w.kind → pages_at most w state bytes ≡ Ok values → All (Stands w) values
unfolding pages_at
pages_stand zero w state bytes values formed is = done_or w (eqb state.left 0) (Err fault.BadParquet) values (λ bad. absurd cc) is
pages_stand (suc most) w state bytes values formed is =
    done_or w (eqb state.left 0) (go (or_else fault.BadParquet (page_at bytes)) (λ page.
    go (page_entries w state page.header page.body) (λ found.
    go (pages_at most w found.1 page.rest) (λ more. Ok (found.0 ++ more))))) values (λ rest.
    let page = went (or_else fault.BadParquet (page_at bytes)) (λ page.
    go (page_entries w state page.header page.body) (λ found.
    go (pages_at most w found.1 page.rest) (λ more. Ok (found.0 ++ more)))) values rest in
    let found = went (page_entries w state page.from.header page.from.body) (λ found.
    go (pages_at most w found.1 page.from.rest) (λ more. Ok (found.0 ++ more))) values page.gives in
    let more = went (pages_at most w found.from.1 page.from.rest) (λ more. Ok (found.from.0 ++ more)) values found.gives in
    let same : found.from.0 ++ more.from ≡ values = let e = more.gives in cc in
    let here : All (Stands w) found.from.0 = body_stands w state page.from.header page.from.body found.from formed found.is in
    let later : All (Stands w) more.from = pages_stand most w found.from.1 page.from.rest more.from formed more.is in
    let P : List Value → Type 0 = λ vs. All (Stands w) vs in
    subst P same (All-append (Stands w) found.from.0 more.from here later)) is

-- the values of a chunk
chunk_stands : (file : List ℕ) (chunk : ChunkMeta) (w : Wanted) (rows : ℕ) (values : List Value) → IsWellFormed w.kind → chunk_values file chunk w rows ≡ Ok values → All (Stands w) values
unfolding chunk_values
chunk_stands file chunk w rows values formed is =
    let good = unless (not (int_eq chunk.codec UNCOMPRESSED)) fault.Compressed (go (or_else fault.BadParquet (chunk_of file chunk rows)) (λ bytes. pages_at (length bytes) w (begun rows) bytes)) values is in
    let bytes = went (or_else fault.BadParquet (chunk_of file chunk rows)) (λ bytes. pages_at (length bytes) w (begun rows) bytes) values good in
    pages_stand (length bytes.from) w (begun rows) bytes.from values formed bytes.gives

pub chunk_ranged : (file : List ℕ) (chunk : ChunkMeta) (w : Wanted) (rows : ℕ) (values : List Value) → IsWellFormed w.kind → chunk_values file chunk w rows ≡ Ok values → All (IsNullOrInRange w.kind) values
chunk_ranged file chunk w rows values formed is = All-weaker (Stands w) (IsNullOrInRange w.kind) (λ v stands. stands.ranged) values (chunk_stands file chunk w rows values formed is)

pub chunk_full : (file : List ℕ) (chunk : ChunkMeta) (w : Wanted) (rows : ℕ) (values : List Value) → IsWellFormed w.kind → w.nullable ≡ false → chunk_values file chunk w rows ≡ Ok values → All (λ v. is_full v ≡ true) values
chunk_full file chunk w rows values formed none is = All-weaker (Stands w) (λ v. is_full v ≡ true) (λ v stands. stands.full none) values (chunk_stands file chunk w rows values formed is)
