-- A chunk that is read has a value for each of its rows.
use Rattle.std.proofs.Common.{◌≡◌, ℕ, zero, suc, ◌+◌, ◌-◌, ◌^◌, ◌<◌, ◌≤◌, ℤ, pos, Bool, true, false, cond, List, [], ◌∷◌, ◌++◌, length, map, replicate, Option, Some, None, option_map, Ok, Err, eqb, refl, sym, ap, ◌∙◌, subst, length-append, arith}
use Rattle.std.specs.Prelude.{All, int_le, unsigned_abs, not, ⊤, ◌&&◌}
use Rattle.std.specs.Ordering.{int_eq}
use Rattle.std.proofs.lemmas.Bool.{and_parts, eqb-true}
use Rattle.std.proofs.lemmas.Int.{ints}
use Rattle.std.proofs.lemmas.List.{length-map, length-replicate}
use Rattle.std.proofs.lemmas.List.FromFn.{length-map-range_with_len}
use Rattle.byteorder.specs.Endian.{little_number}
use Rattle.dm_types.specs.Then.{go, ◌>>=◌}
use Rattle.dm_types.specs.declared.value.Value.{Value}
use Rattle.level_runs.specs.Reading.{runs_of}
use Rattle.parquet_meta.specs.declared.headers.DictionaryPage.{DictionaryPage}
use Rattle.parquet_meta.specs.declared.headers.PageHeader.{PageHeader}
use Rattle.parquet_meta.specs.declared.headers.PageV1.{PageV1}
use Rattle.parquet_meta.specs.declared.metadata.ChunkMeta.{ChunkMeta}
use Rattle.parquet_meta.specs.declared.numbers.TheConstants.{DATA_PAGE, INDEX_PAGE, DICTIONARY_PAGE, UNCOMPRESSED}
use Rattle.plain_values.specs.Meaning.{bytes_at}
use Rattle.parquet_pages.specs.Chunk.{chunk_of, chunk_values}
use Rattle.parquet_pages.specs.Entries.{Page, all_told, entries, entry_at, full}
use Rattle.parquet_pages.specs.Pages.{Answer, State, Wanted, begun, column_values, data_page, data_role, dictionary_page, dictionary_role, entries_of, entry_value, is_known, levels_at, or_else, page_at, page_entries, page_values, pages_at, rle_levels, role_of, take_page, told_levels}
use Rattle.parquet_pages.specs.Physical.{Physical}
use Rattle.parquet_pages.specs.declared.fault.FileFault.{FileFault}
use Rattle.parquet_pages.specs.declared.fault.FileFault.TheVariants as fault
use Rattle.parquet_pages.specs.declared.pages.Role.{Role}
use Rattle.parquet_pages.specs.declared.pages.Role.TheVariants as role

-- as many numbers are read as were asked for
abbrev pub RunsFit : Type 0
RunsFit = (width count used : ℕ) (bytes numbers : List ℕ) → runs_of width count bytes ≡ Some (numbers, used) → (length numbers ≡ count) × All (λ number. number < 2 ^ width) numbers

-- ---- steps that gave something

record Came {A B : Type 0} (known : Option A) (step : A → Option B) (b : B) : Type 0 where
  from : A
  is : known ≡ Some from
  gives : step from ≡ Some b

came : {A B : Type 0} (known : Option A) (step : A → Option B) (b : B) → (known >>= step) ≡ Some b → Came known step b
came None step b e = absurd cc
came (Some a) step b e = record { from = a; is = refl; gives = e }

pub record Went {A B : Type 0} (known : Answer A) (step : A → Answer B) (b : B) : Type 0 where
  pub from : A
  pub is : known ≡ Ok from
  pub gives : step from ≡ Ok b

pub went : {A B : Type 0} (known : Answer A) (step : A → Answer B) (b : B) → go known step ≡ Ok b → Went known step b
went (Ok a) step b e = record { from = a; is = refl; gives = e }
went (Err f) step b e = absurd cc

pub told_ok : {A : Type 0} (f : FileFault) (known : Option A) (a : A) → or_else f known ≡ Ok a → known ≡ Some a
told_ok f None a e = absurd cc
told_ok f (Some b) a e = let same : b ≡ a = cc in ap Some same

where_it : {A : Type 0} (b : Bool) (x y : A) → cond b (Some x) None ≡ Some y → (b ≡ true) × (x ≡ y)
where_it true x y e = (refl, cc)
where_it false x y e = absurd cc

pub unless : {A : Type 0} (b : Bool) (f : FileFault) (known : Answer A) (a : A) → cond b (Err f) known ≡ Ok a → known ≡ Ok a
unless true f known a e = absurd cc
unless false f known a e = e

-- ---- the levels of a page

told_levels_count : RunsFit → (count : ℕ) (bytes levels : List ℕ) → told_levels count bytes ≡ Some levels → length levels ≡ count
told_levels_count fit count bytes levels e =
    let read = came (runs_of 1 count bytes) (λ read. cond (eqb read.1 (length bytes)) (Some read.0) None) levels e in
    let same = where_it (eqb read.from.1 (length bytes)) read.from.0 levels read.gives in
    ap length (sym same.1) ∙ (fit 1 count read.from.1 bytes read.from.0 read.is).0

rle_count : RunsFit → (count : ℕ) (bytes : List ℕ) (found : List ℕ × List ℕ) → rle_levels count bytes ≡ Some found → length found.0 ≡ count
rle_count fit count bytes found e =
    let size = came (bytes_at 4 bytes) (λ size. bytes_at (little_number 4 size.0) size.1 >>= λ parts. told_levels count parts.0 >>= λ levels. Some (levels, parts.1)) found e in
    let parts = came (bytes_at (little_number 4 size.from.0) size.from.1) (λ parts. told_levels count parts.0 >>= λ levels. Some (levels, parts.1)) found size.gives in
    let told = came (told_levels count parts.from.0) (λ levels. Some (levels, parts.from.1)) found parts.gives in
    let pair : ◌≡◌ {A = List ℕ × List ℕ} (told.from, parts.from.1) found = let e = told.gives in cc in
    ap (λ (p : List ℕ × List ℕ). length p.0) (sym pair) ∙ told_levels_count fit count parts.from.0 told.from told.is

levels_count : RunsFit → (optional : Bool) (count : ℕ) (bytes : List ℕ) (found : List ℕ × List ℕ) → levels_at optional count bytes ≡ Some found → length found.0 ≡ count
levels_count fit true count bytes found e = rle_count fit count bytes found e
levels_count fit false count bytes found e =
    let pair : ◌≡◌ {A = List ℕ × List ℕ} (replicate count 1, bytes) found = cc in
    ap (λ (p : List ℕ × List ℕ). length p.0) (sym pair) ∙ length-replicate count 1

-- ---- the entries of a page

told_more : {A : Type 0} (first : A) (rest : List (Option A)) (all : List A) (more : Option (List A)) → all_told rest ≡ more → ((later : List A) → all_told rest ≡ Some later → length later ≡ length rest)
    → option_map (λ later. first ∷ later) more ≡ Some all → length all ≡ suc (length rest)
told_more first rest all None is known e = absurd cc
told_more first rest all (Some later) is known e =
    let same : first ∷ later ≡ all = cc in
    ap length (sym same) ∙ ap suc (known later is)

told_count : {A : Type 0} (xs : List (Option A)) (all : List A) → all_told xs ≡ Some all → length all ≡ length xs
unfolding all_told
told_count [] all e = let same : [] ≡ all = cc in ap length (sym same)
told_count (None ∷ rest) all e = absurd cc
told_count (Some first ∷ rest) all e = told_more first rest all (all_told rest) refl (λ later is. told_count rest later is) e

values_count : (w : Wanted) (page : Page Physical) (values : List Value) → column_values w page ≡ Some values → length values ≡ length page.levels
values_count w page values e =
    told_count (map (entry_value w) (entries page)) values e ∙ length-map (entries page) (entry_value w) ∙ length-map-range_with_len (entry_at page) 0 (length page.levels)

entries_count : (w : Wanted) (levels : List ℕ) (known : Option (List Physical)) (values : List Value) → entries_of w levels known ≡ Ok values → length values ≡ length levels
entries_count w levels known values e =
    let found = went (or_else fault.BadParquet known) (λ found. or_else fault.Range (column_values w (record { levels = levels; values = found }))) values e in
    values_count w (record { levels = levels; values = found.from }) values (told_ok fault.Range _ values found.gives)

data_count : RunsFit → (w : Wanted) (dictionary : Option (List Physical)) (header : PageV1) (bytes : List ℕ) (values : List Value) → data_page w dictionary header bytes ≡ Ok values → length values ≡ unsigned_abs header.values
data_count fit w dictionary header bytes values e =
    let good = unless (not (is_known w.leaf.optional header)) fault.Encoding (go (or_else fault.BadParquet (levels_at w.leaf.optional (unsigned_abs header.values) bytes)) (λ levels.
    entries_of w levels.0 (page_values w.leaf dictionary header.encoding (full levels.0) levels.1))) values e in
    let levels = went (or_else fault.BadParquet (levels_at w.leaf.optional (unsigned_abs header.values) bytes)) (λ levels.
    entries_of w levels.0 (page_values w.leaf dictionary header.encoding (full levels.0) levels.1)) values good in
    entries_count w levels.from.0 _ values levels.gives ∙ levels_count fit w.leaf.optional (unsigned_abs header.values) bytes levels.from (told_ok fault.BadParquet _ levels.from levels.is)

-- ---- page after page

-- a data page has no more entries than are left
abbrev Few : ℕ → Role → Type 0
Few left (role.Entries page) = unsigned_abs page.values ≤ left
Few left role.Index = ⊤
Few left (role.Dictionary page) = ⊤
Few left role.Unknown = ⊤

few : (left : ℕ) (n : ℤ) → (int_le (pos 0) n && int_le n (pos left)) ≡ true → unsigned_abs n ≤ left
few left n e =
    let parts = and_parts _ _ e in
    let low : int_le (pos 0) n ≡ true = parts.0 in
    let high : int_le n (pos left) ≡ true = parts.1 in
    grind (arith, ints)

data_few : (left : ℕ) (page : Option PageV1) (it : Role) → data_role left page ≡ Some it → Few left it
data_few left None it e = absurd cc
data_few left (Some page) it e =
    let told = where_it (int_le (pos 0) page.values && int_le page.values (pos left)) (role.Entries page) it e in
    let P : Role → Type 0 = λ r. Few left r in
    subst P told.1 (few left page.values told.0)

dictionary_few : (left : ℕ) (first : Bool) (page : Option DictionaryPage) (it : Role) → dictionary_role first page ≡ Some it → Few left it
dictionary_few left first None it e = absurd cc
dictionary_few left first (Some page) it e =
    let told = where_it (first && int_le (pos 0) page.values) (role.Dictionary page) it e in
    let P : Role → Type 0 = λ r. Few left r in
    subst P told.1 tt

role_few : (left : ℕ) (data_page index dictionary first : Bool) (page : Option PageV1) (it : Role) (other : Option DictionaryPage)
    → cond data_page (data_role left page) (cond index (Some role.Index) (cond dictionary (dictionary_role first other) (Some role.Unknown))) ≡ Some it → Few left it
role_few left true index dictionary first page it other e = data_few left page it e
role_few left false true dictionary first page it other e = let same : role.Index ≡ it = cc in let P : Role → Type 0 = λ r. Few left r in subst P same tt
role_few left false false true first page it other e = dictionary_few left first other it e
role_few left false false false first page it other e = let same : role.Unknown ≡ it = cc in let P : Role → Type 0 = λ r. Few left r in subst P same tt

-- what a page takes of what is left
abbrev Takes : State → List Value × State → Type 0
Takes state found = length found.0 + found.1.left ≡ state.left

took : (state : State) (found same : List Value × State) → found ≡ same → Takes state found → Takes state same
took state found same is takes = subst (λ (p : List Value × State). Takes state p) is takes

page_takes : RunsFit → (w : Wanted) (state : State) (it : Role) (body : List ℕ) (found : List Value × State) → Few state.left it → take_page w state it body ≡ Ok found → Takes state found
page_takes fit w state (role.Entries page) body found enough e =
    let read = went (data_page w state.dictionary page body) (λ values. Ok (values, record { first = false; dictionary = state.dictionary; left = state.left - unsigned_abs page.values })) found e in
    let count : length read.from ≡ unsigned_abs page.values = data_count fit w state.dictionary page body read.from read.is in
    took state (read.from, record { first = false; dictionary = state.dictionary; left = state.left - unsigned_abs page.values }) found (let e = read.gives in cc) (omega (arith, count, enough))
page_takes fit w state role.Index body found enough e =
    took state ([], record { first = false; dictionary = state.dictionary; left = state.left }) found (cc) (omega arith)
page_takes fit w state (role.Dictionary page) body found enough e =
    let read = went (dictionary_page w.leaf page body) (λ values. Ok ([], record { first = false; dictionary = Some values; left = state.left })) found e in
    took state ([], record { first = false; dictionary = Some read.from; left = state.left }) found (let e = read.gives in cc) (omega arith)
page_takes fit w state role.Unknown body found enough e = absurd cc

entries_take : RunsFit → (w : Wanted) (state : State) (header : PageHeader) (body : List ℕ) (found : List Value × State) → page_entries w state header body ≡ Ok found → Takes state found
entries_take fit w state header body found e =
    let told = went (or_else fault.BadParquet (role_of state.first state.left header)) (λ it. take_page w state it body) found e in
    let is = told_ok fault.BadParquet (role_of state.first state.left header) told.from told.is in
    page_takes fit w state told.from body found (role_few state.left (int_eq header.kind DATA_PAGE) (int_eq header.kind INDEX_PAGE) (int_eq header.kind DICTIONARY_PAGE) state.first header.page told.from header.dictionary is) told.gives

none_count : (left : ℕ) (values : List Value) (known : Answer (List Value)) (none : Bool) → eqb left 0 ≡ none → (known ≡ Ok values → length values ≡ left) → cond none (Ok []) known ≡ Ok values → length values ≡ left
none_count left values known true is later e =
    let same : [] ≡ values = cc in
    ap length (sym same) ∙ sym (eqb-true left 0 is)
none_count left values known false is later e = later e

pages_count : RunsFit → (most : ℕ) (w : Wanted) (state : State) (bytes : List ℕ) (values : List Value) → pages_at most w state bytes ≡ Ok values → length values ≡ state.left
unfolding pages_at
pages_count fit zero w state bytes values e = none_count state.left values (Err fault.BadParquet) (eqb state.left 0) refl (λ bad. absurd cc) e
pages_count fit (suc most) w state bytes values e =
    none_count state.left values (go (or_else fault.BadParquet (page_at bytes)) (λ page.
    go (page_entries w state page.header page.body) (λ found.
    go (pages_at most w found.1 page.rest) (λ more. Ok (found.0 ++ more))))) (eqb state.left 0) refl (λ rest.
    let page = went (or_else fault.BadParquet (page_at bytes)) (λ page.
    go (page_entries w state page.header page.body) (λ found.
    go (pages_at most w found.1 page.rest) (λ more. Ok (found.0 ++ more)))) values rest in
    let found = went (page_entries w state page.from.header page.from.body) (λ found.
    go (pages_at most w found.1 page.from.rest) (λ more. Ok (found.0 ++ more))) values page.gives in
    let more = went (pages_at most w found.from.1 page.from.rest) (λ more. Ok (found.from.0 ++ more)) values found.gives in
    let same : found.from.0 ++ more.from ≡ values = let e = more.gives in cc in
    let here : length found.from.0 + found.from.1.left ≡ state.left = entries_take fit w state page.from.header page.from.body found.from found.is in
    let later : length more.from ≡ found.from.1.left = pages_count fit most w found.from.1 page.from.rest more.from more.is in
    ap length (sym same) ∙ length-append found.from.0 more.from ∙ omega (arith, here, later)) e

-- the values of a chunk
pub chunk_count : RunsFit → (file : List ℕ) (chunk : ChunkMeta) (w : Wanted) (rows : ℕ) (values : List Value) → chunk_values file chunk w rows ≡ Ok values → length values ≡ rows
unfolding chunk_values
chunk_count fit file chunk w rows values e =
    let good = unless (not (int_eq chunk.codec UNCOMPRESSED)) fault.Compressed (go (or_else fault.BadParquet (chunk_of file chunk rows)) (λ bytes. pages_at (length bytes) w (begun rows) bytes)) values e in
    let bytes = went (or_else fault.BadParquet (chunk_of file chunk rows)) (λ bytes. pages_at (length bytes) w (begun rows) bytes) values good in
    pages_count fit (length bytes.from) w (begun rows) bytes.from values bytes.gives
