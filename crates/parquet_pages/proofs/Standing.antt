-- The values of a column can be written, and their page is not too long for its header.
use Rattle.std.proofs.Common.{◌≡◌, ℕ, zero, suc, ◌+◌, ◌*◌, ◌^◌, ◌<◌, ◌≤◌, ℤ, List, [], ◌∷◌, ◌++◌, length, map, Some, Bool, true, false, cond, eqb, refl, sym, ap, ◌∙◌, subst, append_assoc, arith}
use Rattle.std.specs.Prelude.{All}
use Rattle.std.specs.Int.{w128}
use Rattle.std.specs.List.{filter, range_with_len, sum_by, AllByRecursion}
use Rattle.std.proofs.lemmas.Bool.{eqb-true}
use Rattle.std.proofs.lemmas.List.{length-map}
use Rattle.std.proofs.lemmas.List.Elements.{recursion_from_All, All-from_recursion}
use Rattle.std.proofs.lemmas.List.Sums.{sum_by-cons}
use Rattle.byteorder.specs.Endian.{big_bytes, low_bytes}
use Rattle.byteorder.specs.Numbers.{length-bytes_high_first}
use Rattle.column_vectors.specs.Cells.{Cells}
use Rattle.dm_types.specs.Ranges.{IsNullOrInRange}
use Rattle.dm_types.specs.declared.value.DataType.{DataType}
use Rattle.dm_types.specs.declared.value.DataType.TheVariants as kind
use Rattle.dm_types.specs.declared.value.Value.{Value}
use Rattle.dm_types.specs.declared.value.Value.TheVariants as value
use Rattle.level_runs.specs.Answers.{AppendsRuns}
use Rattle.parquet_pages.specs.Kept.{text_bytes, text_size}
use Rattle.parquet_pages.specs.Physical.{Physical, whole_number, raw, plain, plain_bytes}
use Rattle.parquet_meta.specs.declared.numbers.TheConstants.{FIXED_LEN_BYTE_ARRAY}
use Rattle.parquet_pages.specs.Stored.{decimal_size, decimal_type, first_that, has_room, is_full, length_of, level_of, levels_of, stored, stored_values, type_of}
use Rattle.parquet_pages.specs.Storing.{AddsPage, AppendsPlain, CanStand, header_of, IsHeaderRead, IsStored, raw_size, type_in, values_in}
use Rattle.parquet_pages.specs.Writing.{IsWritableColumn, page_bytes, page_front, page_header}
use Rattle.parquet_pages.proofs.Spelled.{plain_short}
use Rattle.parquet_pages.specs.declared.stored.StoredColumn.{StoredColumn}

-- ---- a value

decimal_stand : (precision : ℕ) (n : ℤ) (b : Bool) → eqb (decimal_type precision) FIXED_LEN_BYTE_ARRAY ≡ b
    → CanStand (decimal_type precision) (cond b (decimal_size precision) 0) (cond b (raw (big_bytes (decimal_size precision) (low_bytes w128 (decimal_size precision) n))) (whole_number n))
decimal_stand precision n true is =
    (λ e. absurd (let f = eqb-true (decimal_type precision) FIXED_LEN_BYTE_ARRAY is in omega (arith, e, f)), λ e. length-bytes_high_first (decimal_size precision) (low_bytes w128 (decimal_size precision) n))
decimal_stand precision n false is = tt

can_stand : (k : DataType) (v : Value) → IsNullOrInRange k v → text_bytes v < 2 ^ 32 → is_full v ≡ true → CanStand (type_of k) (length_of k) (stored k v)
can_stand k value.Null h small full = absurd cc
can_stand kind.Boolean (value.Bool b) h small full = tt
can_stand kind.Byte (value.Int n) h small full = tt
can_stand kind.Short (value.Int n) h small full = tt
can_stand kind.Integer (value.Int n) h small full = tt
can_stand kind.Long (value.Int n) h small full = tt
can_stand kind.Date (value.Day n) h small full = tt
can_stand kind.Timestamp (value.Micros n) h small full = tt
can_stand kind.Str (value.Text t) h small full = (λ e. small, λ e. absurd (omega arith))
can_stand kind.Binary (value.Bytes b) h small full = (λ e. small, λ e. absurd (omega arith))
can_stand (kind.Decimal precision scale) (value.Dec d) h small full = decimal_stand precision d.unscaled (eqb (decimal_type precision) FIXED_LEN_BYTE_ARRAY) refl
can_stand k v h small full = absurd h.1

first_case : (b : Bool) (x y most : ℕ) → x ≤ most → y ≤ most → cond b x y ≤ most
first_case true x y most first second = first
first_case false x y most first second = second

first_within : (test : ℕ → Bool) (n left : ℕ) → first_that test (range_with_len n left) ≤ n + left
unfolding first_that
first_within test n zero = omega arith
first_within test n (suc left) =
    let rest = first_within test (n + 1) left in
    first_case (test n) n (first_that test (range_with_len (n + 1) left)) (n + suc left) (omega arith) (omega (arith, rest))

decimal_short : (precision : ℕ) (n : ℤ) (b : Bool) → raw_size (cond b (raw (big_bytes (decimal_size precision) (low_bytes w128 (decimal_size precision) n))) (whole_number n)) ≤ 17
decimal_short precision n true =
    let size = length-bytes_high_first (decimal_size precision) (low_bytes w128 (decimal_size precision) n) in
    let within = first_within (has_room precision) 1 16 in
    omega (arith, size, within)
decimal_short precision n false = omega arith

raw_short : (k : DataType) (v : Value) → IsNullOrInRange k v → raw_size (stored k v) ≤ text_bytes v + 17
raw_short kind.Void value.Null h = omega arith
raw_short (kind.Decimal precision scale) value.Null h = omega arith
raw_short k value.Null h = omega arith
raw_short kind.Boolean (value.Bool b) h = omega arith
raw_short kind.Byte (value.Int n) h = omega arith
raw_short kind.Short (value.Int n) h = omega arith
raw_short kind.Integer (value.Int n) h = omega arith
raw_short kind.Long (value.Int n) h = omega arith
raw_short kind.Date (value.Day n) h = omega arith
raw_short kind.Timestamp (value.Micros n) h = omega arith
raw_short kind.Str (value.Text t) h = omega arith
raw_short kind.Binary (value.Bytes b) h = omega arith
raw_short (kind.Decimal precision scale) (value.Dec d) h = let few = decimal_short precision d.unscaled (eqb (decimal_type precision) FIXED_LEN_BYTE_ARRAY) in omega (arith, few)
raw_short k v h = absurd h.1

-- ---- the values of a column

sum_step : (k : DataType) (v : Value) (rest : List Value) (b : Bool) → sum_by raw_size (map (stored k) (cond b (v ∷ rest) rest)) ≤ raw_size (stored k v) + sum_by raw_size (map (stored k) rest)
sum_step k v rest true = let sums = sum_by-cons raw_size (stored k v) (map (stored k) rest) in omega (arith, sums)
sum_step k v rest false = omega arith

sum_short : (k : DataType) (values : List Value) → AllByRecursion (IsNullOrInRange k) values → sum_by raw_size (stored_values k values) ≤ text_size values + 17 * length values
sum_short k [] h = omega arith
sum_short k (v ∷ vs) h =
    let step = sum_step k v (filter is_full vs) (is_full v) in
    let one = raw_short k v h.0 in
    let rest = sum_short k vs h.1 in
    let texts = sum_by-cons text_bytes v vs in
    omega (arith, step, one, rest, texts)

count_step : (k : DataType) (v : Value) (rest : List Value) (b : Bool) → length (map (stored k) (cond b (v ∷ rest) rest)) ≤ suc (length (map (stored k) rest))
count_step k v rest true = omega arith
count_step k v rest false = omega arith

count_short : (k : DataType) (values : List Value) → length (stored_values k values) ≤ length values
count_short k [] = omega arith
count_short k (v ∷ vs) =
    let step = count_step k v (filter is_full vs) (is_full v) in
    let rest = count_short k vs in
    omega (arith, step, rest)

stand_step : (P : Physical → Type 0) (k : DataType) (v : Value) (rest : List Value) (b : Bool) → (b ≡ true → P (stored k v)) → AllByRecursion P (map (stored k) rest) → AllByRecursion P (map (stored k) (cond b (v ∷ rest) rest))
stand_step P k v rest true one all = (one refl, all)
stand_step P k v rest false one all = all

all_stand : (k : DataType) (values : List Value) (most : ℕ) → AllByRecursion (IsNullOrInRange k) values → text_size values ≤ most → most < 2 ^ 32 → AllByRecursion (CanStand (type_of k) (length_of k)) (stored_values k values)
all_stand k [] most h texts few = tt
all_stand k (v ∷ vs) most h texts few =
    let sums = sum_by-cons text_bytes v vs in
    stand_step (CanStand (type_of k) (length_of k)) k v (filter is_full vs) (is_full v) (λ full. can_stand k v h.0 (omega (arith, sums, texts)) full) (all_stand k vs most h.1 (omega (arith, sums, texts)) few)

level_fits : (b : Bool) → cond b 1 0 < 2 ^ 1
level_fits true = omega arith
level_fits false = omega arith

levels_by : (values : List Value) → AllByRecursion (λ n. n < 2 ^ 1) (levels_of values)
levels_by [] = tt
levels_by (v ∷ vs) = (level_fits (is_full v), levels_by vs)

-- ---- what the column's page asks for

pub levels_fit : (k : DataType) (values : List Value) (it : StoredColumn) → IsStored k values it → All (λ n. n < 2 ^ 1) it.levels
levels_fit k values it so = subst (All (λ n. n < 2 ^ 1)) (sym so.levels) (All-from_recursion (λ n. n < 2 ^ 1) (levels_of values) (levels_by values))

pub values_stand : (column : Cells) (it : StoredColumn) → IsWritableColumn column → IsStored column.kind column.values it → All (CanStand (type_in it.values) (length_of column.kind)) (values_in it.values)
values_stand column it can so = rw (so.kept, so.values) (
    All-from_recursion (CanStand (type_of column.kind) (length_of column.kind)) (stored_values column.kind column.values) (
    all_stand column.kind column.values 536_870_912 (recursion_from_All (IsNullOrInRange column.kind) column.values can.values) can.text (omega arith)
    )
    )

-- 8 bytes a value beside its own
values_short : (column : Cells) (it : StoredColumn) → IsWritableColumn column → IsStored column.kind column.values it → 8 * length (values_in it.values) + sum_by raw_size (values_in it.values) < 2 ^ 30
values_short column it can so =
    let sums = sum_short column.kind column.values (recursion_from_All (IsNullOrInRange column.kind) column.values can.values) in
    let counts = count_short column.kind column.values in
    let count : length (values_in it.values) ≡ length (stored_values column.kind column.values) = ap length so.values in
    let sum : sum_by raw_size (values_in it.values) ≡ sum_by raw_size (stored_values column.kind column.values) = ap (sum_by raw_size) so.values in
    let few = can.rows in
    let text = can.text in
    omega (arith, sums, counts, count, sum, few, text)

pub values_few : (column : Cells) (it : StoredColumn) → IsWritableColumn column → IsStored column.kind column.values it → 8 * length (values_in it.values) + sum_by raw_size (values_in it.values) < 2 ^ 63
values_few column it can so = let short = values_short column it can so in omega (arith, short)

pub page_short : (column : Cells) (it : StoredColumn) (levels : List ℕ) (size : ℕ) → IsWritableColumn column → IsStored column.kind column.values it → AppendsRuns 1 it.levels [] levels
    → size ≡ length (plain_bytes (type_in it.values) (values_in it.values)) → 4 + length levels + size < 2 ^ 31
page_short column it levels size can so runs is =
    let short = values_short column it can so in
    let most = plain_short (type_in it.values) (values_in it.values) in
    let rows : length it.levels ≡ length column.values = ap length so.levels ∙ length-map column.values level_of in
    let first : length levels ≡ length runs.written = ap length runs.joined in
    let few = can.rows in
    let a = runs.size in
    omega (arith, short, most, rows, first, few, a, is)

-- ---- what went to the end

pub page_made : (column : Cells) (rows : ℕ) (it : StoredColumn) (levels : List ℕ) (size : ℕ) (old begun new : List ℕ) → IsWritableColumn column → IsStored column.kind column.values it → rows ≡ length column.values → AppendsRuns 1 it.levels [] levels
    → size ≡ length (plain_bytes (type_in it.values) (values_in it.values)) → begun ≡ old ++ page_front rows levels size → IsHeaderRead (page_header rows (4 + length levels + size))
    → AppendsPlain (type_in it.values) (length_of column.kind) (values_in it.values) begun new → AddsPage column old new
page_made column rows it levels size old begun new can so count runs is front header plain' =
    let entries : length it.levels ≡ length column.values = ap length so.levels ∙ length-map column.values level_of in
    let known = stored_values column.kind column.values in
    let written = plain'.written in
    let long : size ≡ length written = is ∙ ap length (sym plain'.spelled) in
    let same : page_front rows levels size ++ written ≡ page_bytes (length column.values) levels written =
    ap (λ n. page_front n levels size ++ written) count ∙ ap (λ n. page_front (length column.values) levels n ++ written) long in
    record {
      page = page_bytes (length column.values) levels written;
      joined = plain'.joined ∙ ap (λ bs. bs ++ written) front ∙ append_assoc old (page_front rows levels size) written ∙ ap (λ bs. old ++ bs) same;
      is = record {
        levels = levels;
        values = written;
        runs = rw (runs.joined, sym entries, sym so.levels) runs.means;
        plain = subst (λ t. plain t (length_of column.kind) (length known) written ≡ Some known) so.kept (subst (λ ps. plain (type_in it.values) (length_of column.kind) (length ps) written ≡ Some ps) so.values plain'.again);
        spelled = plain'.spelled ∙ ap (plain_bytes (type_in it.values)) so.values ∙ ap (λ t. plain_bytes t known) so.kept;
        joined = refl;
        header = subst (λ n. IsHeaderRead (header_of n levels written)) count (subst (λ n. IsHeaderRead (page_header rows (4 + length levels + n))) long header);
        size = let short = page_short column it levels size can so runs is in omega (arith, short, long);
        texts = so.texts;
      };
    }
