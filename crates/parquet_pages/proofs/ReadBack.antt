-- A chunk that is written is read as its column.
use Rattle.std.proofs.Common.{◌≡◌, ℕ, zero, suc, ◌+◌, ◌-◌, ◌^◌, ◌<◌, ◌≤◌, ℤ, pos, ◌+ℤ◌, ◌≤ℤ◌, List, [], ◌∷◌, ◌++◌, length, take, drop, Option, Some, None, option_map, Result, Ok, Err, Bool, true, false, cond, eqb, ltb, refl, sym, ap, ◌∙◌, append_assoc, length-append, arith}
use Rattle.std.specs.Prelude.{int_le, ◌&&◌, IfOk}
use Rattle.std.specs.Ordering.{int_eq}
use Rattle.std.proofs.lemmas.Bool.{and_from, eq-eqb, eqb-true, le-leb, le-ltb}
use Rattle.std.proofs.lemmas.Bool.Decides.{Decides-int_eq}
use Rattle.std.proofs.lemmas.Int.{ints}
use Rattle.std.proofs.lemmas.List.{append-nil, drop_at, take_at}
use Rattle.std.proofs.Math.Seq.{drop-append_seam, take-append_seam}
use Rattle.byteorder.specs.Endian.{little_bytes, little_number}
use Rattle.byteorder.specs.Numbers.{length-bytes_low_first, little_number-reads_back}
use Rattle.column_vectors.specs.Cells.{Cells}
use Rattle.dm_types.specs.Then.{go, ◌>>=◌}
use Rattle.dm_types.specs.declared.value.Value.{Value}
use Rattle.level_runs.specs.Reading.{runs_of}
use Rattle.level_runs.specs.Runs.{MeansRuns}
use Rattle.parquet_meta.specs.Written.{header_fields}
use Rattle.parquet_meta.specs.declared.headers.PageHeader.{PageHeader}
use Rattle.parquet_meta.specs.declared.headers.PageV1.{PageV1}
use Rattle.parquet_meta.specs.declared.metadata.ChunkMeta.{ChunkMeta}
use Rattle.plain_values.specs.Meaning.{Front, bytes_at}
use Rattle.parquet_meta.specs.declared.numbers.TheConstants.{PLAIN, RLE}
use Rattle.parquet_pages.specs.Chunk.{bytes_between, chunk_of, chunk_values}
use Rattle.parquet_pages.specs.Entries.{full}
use Rattle.parquet_pages.specs.Pages.{Answer, State, Wanted, begun, column_values, cut_page, data_page, entries_of, or_else, page_at, page_entries, page_values, pages_at, rle_levels, role_of, take_page, told_levels}
use Rattle.parquet_pages.specs.Stored.{levels_of, stored_values}
use Rattle.parquet_pages.specs.Storing.{AddsChunk, header_of, IsPage}
use Rattle.parquet_pages.specs.Writing.{IsReadBack, IsWritableColumn, TakesNulls, chunk_meta}
use Rattle.parquet_pages.specs.declared.fault.FileFault.{FileFault}
use Rattle.parquet_pages.specs.declared.fault.FileFault.TheVariants as fault
use Rattle.parquet_pages.specs.declared.pages.Role.TheVariants as role
use Rattle.parquet_pages.proofs.EntriesBack.{full_count, values_back, wanted}
use Rattle.thrift_compact.specs.Written.{struct as struct_bytes}

-- the law of runs, which the code cites
abbrev pub AreRunsRead : Type 0
AreRunsRead = (width count : ℕ) (bytes numbers rest : List ℕ) → width ≤ 32 → MeansRuns width count bytes numbers → runs_of width count (bytes ++ rest) ≡ Some (numbers, length bytes)

-- ---- steps

some_step : {A B : Type 0} (fault : FileFault) (known : Option A) (found : A) (next : A → Answer B) → known ≡ Some found → go (or_else fault known) next ≡ next found
some_step fault known found next is = ap (λ o. go (or_else fault o) next) is

ok_step : {A B : Type 0} (known : Answer A) (found : A) (next : A → Answer B) → known ≡ Ok found → go known next ≡ next found
ok_step known found next is = ap (λ r. go r next) is

bytes_taken : (size : ℕ) (front rest : List ℕ) → length front ≡ size → bytes_at size (front ++ rest) ≡ Some (front, rest)
bytes_taken size front rest is =
    let enough : size ≤ length (front ++ rest) = omega (arith, length-append front rest) in
    let held : ltb (length (front ++ rest)) size ≡ false = le-ltb (length (front ++ rest)) size enough in
    rw (held, take_at front rest size is, drop_at front rest size is) refl

no_values : (values : List Value) → length values ≡ 0 → values ≡ []
no_values [] none = refl
no_values (v ∷ vs) none = absurd (omega arith)

le_true : (a b : ℤ) → a ≤ℤ b → int_le a b ≡ true
le_true a b h = grind (arith, ints)

same_int : (n : ℤ) → int_eq n n ≡ true
same_int n = (Decides-int_eq n n).1 refl

-- ---- the levels

told_back : (rows : ℕ) (bytes levels : List ℕ) → runs_of 1 rows bytes ≡ Some (levels, length bytes) → told_levels rows bytes ≡ Some levels
told_back rows bytes levels read =
    ap (λ (known : Option (List ℕ × ℕ)). known >>= λ found. cond (eqb found.1 (length bytes)) (Some found.0) None) read ∙ ap (λ b. cond b (Some levels) None) (eq-eqb (length bytes) (length bytes) refl)

rle_back : (rows : ℕ) (bytes values levels : List ℕ) → length bytes < 2 ^ 31 → runs_of 1 rows bytes ≡ Some (levels, length bytes) → rle_levels rows (little_bytes 4 (length bytes) ++ (bytes ++ values)) ≡ Some (levels, values)
rle_back rows bytes values levels short read =
    let head = little_bytes 4 (length bytes) in
    let number : little_number 4 head ≡ length bytes = ap (little_number 4) (sym (append-nil head)) ∙ little_number-reads_back 4 (length bytes) [] (omega arith) in
    ap (λ (known : Front (List ℕ)). known >>= λ size. bytes_at (little_number 4 size.0) size.1 >>= λ parts. told_levels rows parts.0 >>= λ found. Some (found, parts.1)) (bytes_taken 4 head (bytes ++ values) (length-bytes_low_first 0 4 (length bytes)))
    ∙ ap (λ n. bytes_at n (bytes ++ values) >>= λ parts. told_levels rows parts.0 >>= λ found. Some (found, parts.1)) number
    ∙ ap (λ (known : Front (List ℕ)). known >>= λ parts. told_levels rows parts.0 >>= λ found. Some (found, parts.1)) (bytes_taken (length bytes) bytes values refl)
    ∙ ap (λ (known : Option (List ℕ)). known >>= λ found. Some (found, values)) (told_back rows bytes levels read)

-- ---- the entries of the page

module _ (column : Cells) (can : IsWritableColumn column) (page : List ℕ) (so : IsPage column page) (runs : AreRunsRead) (nullable : Bool) (name : List ℕ) (field_id : Option ℤ) (nulls : TakesNulls nullable column.values) where
  abbrev W : Wanted
  W = wanted column.kind nullable name field_id

  abbrev rows : ℕ
  rows = length column.values

  abbrev header : PageHeader
  header = header_of rows so.levels so.values

  abbrev told : PageV1
  told = record { values = pos rows; encoding = PLAIN; definition = RLE; repetition = RLE }

  abbrev front : List ℕ
  front = struct_bytes (header_fields header)

  abbrev body : List ℕ
  body = little_bytes 4 (length so.levels) ++ (so.levels ++ so.values)

  runs_back : runs_of 1 rows so.levels ≡ Some (levels_of column.values, length so.levels)
  runs_back = ap (runs_of 1 rows) (sym (append-nil so.levels)) ∙ runs 1 rows so.levels (levels_of column.values) [] (omega arith) so.runs

  plain_back : page_values W.leaf None PLAIN (full (levels_of column.values)) so.values ≡ Some (stored_values column.kind column.values)
  plain_back =
      ap (λ n. page_values W.leaf None PLAIN n so.values) (full_count column.kind column.values)
      ∙ so.plain

  data_back : data_page W None told body ≡ Ok column.values
  data_back =
      let short : length so.levels < 2 ^ 31 = let size = so.size in omega arith in
      some_step fault.BadParquet (rle_levels rows body) (levels_of column.values, so.values) (λ (levels : List ℕ × List ℕ). entries_of W levels.0 (page_values W.leaf None PLAIN (full levels.0) levels.1)) (rle_back rows so.levels so.values (levels_of column.values) short runs_back)
      ∙ some_step fault.BadParquet (page_values W.leaf None PLAIN (full (levels_of column.values)) so.values) (stored_values column.kind column.values) (λ found. or_else fault.Range (column_values W (record { levels = levels_of column.values; values = found }))) plain_back
      ∙ ap (or_else fault.Range) (values_back column.kind nullable name field_id column.values can.values so.texts nulls)

  role_back : role_of true rows header ≡ Some (role.Entries told)
  role_back = ap (λ b. cond b (Some (role.Entries told)) None) (and_from (int_le (pos 0) (pos rows)) (int_le (pos rows) (pos rows)) (le-leb 0 rows (omega arith)) (le-leb rows rows (omega arith)))

  abbrev behind : State
  behind = record { first = false; dictionary = None; left = rows - rows }

  entries_back : page_entries W (begun rows) header body ≡ Ok (column.values, behind)
  entries_back =
      some_step fault.BadParquet (role_of true rows header) (role.Entries told) (λ role. take_page W (begun rows) role body) role_back
      ∙ ok_step (data_page W None told body) column.values (λ values. Ok (values, behind)) data_back

  -- ---- the page at the front of its bytes

  page_parts : page ≡ front ++ body
  page_parts = so.joined ∙ ap (λ bs. bs ++ so.values) (append_assoc front (little_bytes 4 (length so.levels)) so.levels) ∙ append_assoc front (little_bytes 4 (length so.levels) ++ so.levels) so.values ∙ ap (λ bs. front ++ bs) (append_assoc (little_bytes 4 (length so.levels)) so.levels so.values)

  body_size : length body ≡ 4 + length so.levels + length so.values
  body_size =
      let a = length-append (little_bytes 4 (length so.levels)) (so.levels ++ so.values) in
      let b = length-append so.levels so.values in
      let four = length-bytes_low_first 0 4 (length so.levels) in
      omega (arith, a, b, four)

  abbrev size : ℕ
  size = 4 + length so.levels + length so.values

  cut_back : cut_page header body ≡ Some (record { header = header; body = body; rest = [] })
  cut_back =
      let good : (int_le (pos 0) (pos size) && int_eq (pos size) (pos size)) ≡ true = and_from (int_le (pos 0) (pos size)) (int_eq (pos size) (pos size)) (le-leb 0 size (omega arith)) (same_int (pos size)) in
      let parts : bytes_at size body ≡ Some (body, []) = ap (bytes_at size) (sym (append-nil body)) ∙ bytes_taken size body [] body_size in
      ap (λ b. cond b (option_map (λ (parts : List ℕ × List ℕ). record { header = header; body = parts.0; rest = parts.1 }) (bytes_at size body)) None) good
      ∙ ap (option_map (λ (parts : List ℕ × List ℕ). record { header = header; body = parts.0; rest = parts.1 })) parts

  page_back : page_at page ≡ Some (record { header = header; body = body; rest = [] })
  page_back =
      ap page_at page_parts
      ∙ ap (λ (known : Option (PageHeader × ℕ)). known >>= λ found. cut_page found.0 (drop found.1 (front ++ body))) (so.header body)
      ∙ ap (cut_page header) (drop-append_seam front body)
      ∙ cut_back

  done : (most left : ℕ) (state : State) → state.left ≡ 0 → pages_at most W state [] ≡ Ok []
  unfolding pages_at
  done zero left state none = rw none refl
  done (suc most) left state none = rw none refl

  one_page : (most : ℕ) → eqb rows 0 ≡ false → pages_at (suc most) W (begun rows) page ≡ Ok column.values
  unfolding pages_at
  one_page most some =
      let rest : pages_at most W behind [] ≡ Ok [] = done most 0 behind (omega arith) in
      ap (λ b. cond b (Ok []) (go (or_else fault.BadParquet (page_at page)) (λ cut. go (page_entries W (begun rows) cut.header cut.body) (λ found. go (pages_at most W found.1 cut.rest) (λ more. Ok (found.0 ++ more)))))) some
      ∙ some_step fault.BadParquet (page_at page) (record { header = header; body = body; rest = [] }) (λ cut. go (page_entries W (begun rows) cut.header cut.body) (λ found. go (pages_at most W found.1 cut.rest) (λ more. Ok (found.0 ++ more)))) page_back
      ∙ ok_step (page_entries W (begun rows) header body) (column.values, behind) (λ found. go (pages_at most W found.1 []) (λ more. Ok (found.0 ++ more))) entries_back
      ∙ ok_step (pages_at most W behind []) [] (λ more. Ok (column.values ++ more)) rest
      ∙ ap Ok (append-nil column.values)

  no_page : (most : ℕ) (bytes : List ℕ) (values : List Value) → rows ≡ 0 → pages_at most W (begun rows) bytes ≡ Ok []
  unfolding pages_at
  no_page zero bytes values none = rw none refl
  no_page (suc most) bytes values none = rw none refl

  pages_by : (most : ℕ) → length page ≡ suc most → (b : Bool) → eqb rows 0 ≡ b → pages_at (length page) W (begun rows) page ≡ Ok column.values
  pages_by most long true none =
      no_page (length page) page [] (eqb-true rows 0 none) ∙ ap Ok (sym (no_values column.values (eqb-true rows 0 none)))
  pages_by most long false some = ap (λ n. pages_at n W (begun rows) page) long ∙ one_page most some

  page_long : 4 ≤ length page
  page_long =
      let parts = length-append front body in
      let long : length page ≡ length (front ++ body) = ap length page_parts in
      omega (arith, parts, long, body_size)

  pages_back : pages_at (length page) W (begun rows) page ≡ Ok column.values
  pages_back =
      let long = page_long in
      pages_by (length page - 1) (omega arith) (eqb rows 0) refl

  -- ---- the chunk in its file

  taken_back : (old more : List ℕ) → take (length page) (drop (length old) ((old ++ page) ++ more)) ≡ page
  taken_back old more =
      ap (λ bs. take (length page) (drop (length old) bs)) (append_assoc old page more)
      ∙ ap (take (length page)) (drop-append_seam old (page ++ more))
      ∙ take-append_seam page more

  between_back : (old more : List ℕ) → 4 ≤ length old → bytes_between ((old ++ page) ++ more) (pos (length old)) (pos (length page)) ≡ Some page
  between_back old more start =
      let file = (old ++ page) ++ more in
      let a = length-append (old ++ page) more in
      let b = length-append old page in
      let ends : int_le (pos (length old) +ℤ pos (length page)) (pos (length file)) ≡ true = le_true (pos (length old) +ℤ pos (length page)) (pos (length file)) (omega (arith, ints, a, b)) in
      let first : (int_le (pos 4) (pos (length old)) && int_le (pos 0) (pos (length page))) ≡ true = and_from (int_le (pos 4) (pos (length old))) (int_le (pos 0) (pos (length page))) (le-leb 4 (length old) start) (le-leb 0 (length page) (omega arith)) in
      let good = and_from (int_le (pos 4) (pos (length old)) && int_le (pos 0) (pos (length page))) (int_le (pos (length old) +ℤ pos (length page)) (pos (length file))) first ends in
      ap (λ b. cond b (Some (take (length page) (drop (length old) file))) None) good ∙ ap Some (taken_back old more)

  chunk_back : (old more : List ℕ) → 4 ≤ length old → chunk_values ((old ++ page) ++ more) (chunk_meta column (length old) (length page)) W rows ≡ Ok column.values
  unfolding chunk_values
  chunk_back old more start =
      let file = (old ++ page) ++ more in
      let found : chunk_of file (chunk_meta column (length old) (length page)) rows ≡ Some page = ap (λ b. cond b (bytes_between file (pos (length old)) (pos (length page))) None) (same_int (pos rows)) ∙ between_back old more start in
      some_step fault.BadParquet (chunk_of file (chunk_meta column (length old) (length page)) rows) page (λ bytes. pages_at (length bytes) W (begun rows) bytes) found ∙ pages_back

-- what is written is read as the column
chunk_read : (column : Cells) (old file : List ℕ) (meta : ChunkMeta) → IsWritableColumn column → AddsChunk column old file meta → AreRunsRead → 4 ≤ length old → IsReadBack column file meta
chunk_read column old file meta can added runs start = λ more name field_id nullable nulls.
    rw (added.joined, added.told) (chunk_back column can added.page added.is runs nullable name field_id nulls old more start)

pub all_read : {E : Type 0} (column : Cells) (old file : List ℕ) (result : Result ChunkMeta E) → IsWritableColumn column → AreRunsRead → 4 ≤ length old → IfOk result (AddsChunk column old file) → IfOk result (λ meta. IsReadBack column file meta)
all_read column old file (Ok meta) can runs start added = chunk_read column old file meta can added runs start
all_read column old file (Err e) can runs start added = tt
