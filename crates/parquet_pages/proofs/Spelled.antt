-- The lists that are written: what is read of them, and how long their bytes are.
use Rattle.std.proofs.Common.{Bor, ◌≡◌, ℕ, ◌+◌, ◌*◌, ◌/◌, ◌^◌, ◌<◌, ◌≤◌, ℤ, List, [], ◌∷◌, ◌++◌, length, map, Result, Ok, Err, Bool, true, false, eqb, refl, sym, ap, ◌∙◌, arith}
use Rattle.std.specs.Prelude.{All, OnOk}
use Rattle.std.specs.Int.{w32, w64, cast_unsigned}
use Rattle.std.specs.List.{flat_map, sum_by, AllByRecursion}
use Rattle.std.proofs.lemmas.List.{length-append, length-map}
use Rattle.std.proofs.lemmas.List.Elements.{recursion_from_All, All-from_recursion}
use Rattle.std.proofs.lemmas.List.FromFn.{length-map-range_with_len}
use Rattle.std.proofs.lemmas.List.Sums.{sum_by-cons}
use Rattle.byteorder.specs.Endian.{little_bytes}
use Rattle.byteorder.specs.Numbers.{length-bytes_low_first}
use Rattle.plain_values.specs.Answers.{lent_values}
use Rattle.plain_values.specs.Meaning.{bytes_at, values_at, whole, whole_at}
use Rattle.plain_values.specs.Flags.{flag_byte, flag_bytes, flags_at, flags_spelling}
use Rattle.plain_values.specs.Forms.{int32_at, int32_bytes, int64_at, int64_bytes, array_at, array_bytes, own_bytes}
use Rattle.parquet_pages.specs.Physical.{Physical, flag, whole_number, raw, flag_of, plain_bytes, value_bytes}
use Rattle.parquet_meta.specs.declared.numbers.TheConstants.{BOOLEAN, INT32, INT64, BYTE_ARRAY, FIXED_LEN_BYTE_ARRAY}
use Rattle.parquet_pages.specs.Storing.{AppendsPlain, CanStand, raw_size}

pub on_ok_both : {A E : Type 0} (r : Result A E) {P Q R : Type 0} → (P → Q → R) → OnOk r P → OnOk r Q → OnOk r R
on_ok_both (Ok x) f p q = f p q
on_ok_both (Err e) f p q = tt

pub on_ok_with : {A E : Type 0} (r : Result A E) {P R : Type 0} → (P → R) → OnOk r P → OnOk r R
on_ok_with (Ok x) f p = f p
on_ok_with (Err e) f p = tt

pub whole_nil : {A : Type 0} (found : A) → whole_at found [] ≡ Ok found
whole_nil found = refl

-- ---- the bytes of values, by the physical type

flags_back : (flags : List Bool) → map flag_of (map flag flags) ≡ flags
flags_back [] = refl
flags_back (f ∷ fs) = ap (λ rest. f ∷ rest) (flags_back fs)

pub bytes_seen : {X : Type 0} (spelled : X → List ℕ) (one : Physical → List ℕ) (view : X → Physical) → ((x : X) → spelled x ≡ one (view x)) → (xs : List X) → flat_map spelled xs ≡ flat_map one (map view xs)
bytes_seen spelled one view same [] = refl
bytes_seen spelled one view same (x ∷ xs) = ap (λ bs. bs ++ flat_map spelled xs) (same x) ∙ ap (λ bs. one (view x) ++ bs) (bytes_seen spelled one view same xs)

-- ---- what is read of them

pub flags_written : (type size : ℕ) (flags : List Bool) (old new : List ℕ) → type ≡ BOOLEAN → whole (flags_at (length flags) (flags_spelling flags)) ≡ Ok flags → new ≡ old ++ flags_spelling flags → AppendsPlain type size (map flag flags) old new
flags_written type size flags old new is again joined = rw is (record {
  written = flags_spelling flags;
  joined = joined;
  spelled = ap flags_spelling (sym (flags_back flags));
  again = rw (length-map flags flag, again) refl;
})

pub int32_written : (type size : ℕ) (numbers : List ℤ) (old new : List ℕ) → type ≡ INT32 → whole (values_at int32_at (length numbers) (flat_map int32_bytes numbers)) ≡ Ok numbers → new ≡ old ++ flat_map int32_bytes numbers
    → AppendsPlain type size (map whole_number numbers) old new
int32_written type size numbers old new is again joined = rw is (record {
  written = flat_map int32_bytes numbers;
  joined = joined;
  spelled = bytes_seen int32_bytes (value_bytes INT32) whole_number (λ x. refl) numbers;
  again = rw (length-map numbers whole_number, again) refl;
})

pub int64_written : (type size : ℕ) (numbers : List ℤ) (old new : List ℕ) → type ≡ INT64 → whole (values_at int64_at (length numbers) (flat_map int64_bytes numbers)) ≡ Ok numbers → new ≡ old ++ flat_map int64_bytes numbers
    → AppendsPlain type size (map whole_number numbers) old new
int64_written type size numbers old new is again joined = rw is (record {
  written = flat_map int64_bytes numbers;
  joined = joined;
  spelled = bytes_seen int64_bytes (value_bytes INT64) whole_number (λ x. refl) numbers;
  again = rw (length-map numbers whole_number, again) refl;
})

pub arrays_written : (type size : ℕ) (arrays : List (List ℕ)) (old new : List ℕ) → type ≡ BYTE_ARRAY → whole (values_at array_at (length arrays) (flat_map array_bytes arrays)) ≡ Ok arrays → new ≡ old ++ flat_map array_bytes arrays
    → AppendsPlain type size (map raw arrays) old new
arrays_written type size arrays old new is again joined = rw is (record {
  written = flat_map array_bytes arrays;
  joined = joined;
  spelled = bytes_seen array_bytes (value_bytes BYTE_ARRAY) raw (λ x. refl) arrays;
  again = rw (length-map arrays raw, again) refl;
})

pub fixed_written : (type size : ℕ) (arrays : List (List ℕ)) (old new : List ℕ) → type ≡ FIXED_LEN_BYTE_ARRAY → whole (values_at (bytes_at size) (length arrays) (flat_map own_bytes arrays)) ≡ Ok arrays → new ≡ old ++ flat_map own_bytes arrays
    → AppendsPlain type size (map raw arrays) old new
fixed_written type size arrays old new is again joined = rw is (record {
  written = flat_map own_bytes arrays;
  joined = joined;
  spelled = bytes_seen own_bytes (value_bytes FIXED_LEN_BYTE_ARRAY) raw (λ x. refl) arrays;
  again = rw (length-map arrays raw, again) refl;
})

-- ---- arrays that can be written

arrays_by : (type size : ℕ) (arrays : List (List ℕ)) → type ≡ BYTE_ARRAY → AllByRecursion (CanStand type size) (map raw arrays) → AllByRecursion (λ b. length b < 2 ^ 32) arrays
arrays_by type size [] is stand = tt
arrays_by type size (b ∷ bs) is stand = (stand.0.0 is, arrays_by type size bs is stand.1)

pub arrays_fit : (type size : ℕ) (arrays : List (List ℕ)) → type ≡ BYTE_ARRAY → All (CanStand type size) (map raw arrays) → All (λ b. length b < 2 ^ 32) arrays
arrays_fit type size arrays is stand = All-from_recursion (λ b. length b < 2 ^ 32) arrays (arrays_by type size arrays is (recursion_from_All (CanStand type size) (map raw arrays) stand))

lent_by : (arrays : List (Bor (List ℕ))) → AllByRecursion (λ b. length b < 2 ^ 32) (lent_values arrays) → AllByRecursion (λ b. length b.now < 2 ^ 32) arrays
lent_by [] all = tt
lent_by (b ∷ bs) all = (all.0, lent_by bs all.1)

pub lent_fit : (size : ℕ) (arrays : List (Bor (List ℕ))) → All (CanStand BYTE_ARRAY size) (map raw (lent_values arrays)) → All (λ b. length b.now < 2 ^ 32) arrays
lent_fit size arrays stand =
    All-from_recursion (λ (b : Bor (List ℕ)). length b.now < 2 ^ 32) arrays (lent_by arrays (recursion_from_All (λ b. length b < 2 ^ 32) (lent_values arrays) (arrays_fit BYTE_ARRAY size (lent_values arrays) refl stand)))

lent_all_by : (arrays : List (Bor (List ℕ))) → AllByRecursion (λ b. length b.now < 2 ^ 32) arrays → AllByRecursion (λ b. length b < 2 ^ 32) (lent_values arrays)
lent_all_by [] all = tt
lent_all_by (b ∷ bs) all = (all.0, lent_all_by bs all.1)

pub lent_all : (arrays : List (Bor (List ℕ))) → All (λ b. length b.now < 2 ^ 32) arrays → All (λ b. length b < 2 ^ 32) (lent_values arrays)
lent_all arrays all =
    All-from_recursion (λ b. length b < 2 ^ 32) (lent_values arrays) (lent_all_by arrays (recursion_from_All (λ (b : Bor (List ℕ)). length b.now < 2 ^ 32) arrays all))

pub lent_flat : (arrays : List (Bor (List ℕ))) → flat_map (λ array. array_bytes array.now) arrays ≡ flat_map array_bytes (lent_values arrays)
lent_flat [] = refl
lent_flat (b ∷ bs) = ap (λ rest. array_bytes b.now ++ rest) (lent_flat bs)

fixed_by : (type size : ℕ) (arrays : List (List ℕ)) → type ≡ FIXED_LEN_BYTE_ARRAY → AllByRecursion (CanStand type size) (map raw arrays) → AllByRecursion (λ b. length b ≡ size) arrays
fixed_by type size [] is stand = tt
fixed_by type size (b ∷ bs) is stand = (stand.0.1 is, fixed_by type size bs is stand.1)

pub fixed_even : (type size : ℕ) (arrays : List (List ℕ)) → type ≡ FIXED_LEN_BYTE_ARRAY → All (CanStand type size) (map raw arrays) → All (λ b. length b ≡ size) arrays
fixed_even type size arrays is stand = All-from_recursion (λ b. length b ≡ size) arrays (fixed_by type size arrays is (recursion_from_All (CanStand type size) (map raw arrays) stand))

-- ---- how long the bytes are

flat_long : {X : Type 0} (spelled : X → List ℕ) (own : X → ℕ) (n : ℕ) → ((x : X) → length (spelled x) ≡ n + own x) → (xs : List X) → length (flat_map spelled xs) ≡ n * length xs + sum_by own xs
flat_long spelled own n one [] = omega arith
flat_long spelled own n one (x ∷ xs) =
    let first = one x in
    let rest = flat_long spelled own n one xs in
    let joined = length-append (spelled x) (flat_map spelled xs) in
    let sums = sum_by-cons own x xs in
    omega (arith, first, rest, joined, sums)

flat_even : {X : Type 0} (spelled : X → List ℕ) (n : ℕ) → ((x : X) → length (spelled x) ≡ n) → (xs : List X) → length (flat_map spelled xs) ≡ n * length xs
flat_even spelled n one [] = omega arith
flat_even spelled n one (x ∷ xs) =
    let first = one x in
    let rest = flat_even spelled n one xs in
    let joined = length-append (spelled x) (flat_map spelled xs) in
    omega (arith, first, rest, joined)

pub flags_long : (flags : List Bool) → length (plain_bytes BOOLEAN (map flag flags)) ≡ (length flags + 7) / 8
unfolding flags_spelling
flags_long flags =
    ap (λ fs. length (flags_spelling fs)) (flags_back flags) ∙ length-map-range_with_len (flag_byte flags) 0 (flag_bytes (length flags))

pub int32_long : (numbers : List ℤ) → length (plain_bytes INT32 (map whole_number numbers)) ≡ 4 * length numbers
int32_long numbers =
    ap length (sym (bytes_seen int32_bytes (value_bytes INT32) whole_number (λ x. refl) numbers))
    ∙ flat_even int32_bytes 4 (λ x. length-bytes_low_first 0 4 (cast_unsigned w32 x)) numbers

pub int64_long : (numbers : List ℤ) → length (plain_bytes INT64 (map whole_number numbers)) ≡ 8 * length numbers
int64_long numbers =
    ap length (sym (bytes_seen int64_bytes (value_bytes INT64) whole_number (λ x. refl) numbers))
    ∙ flat_even int64_bytes 8 (λ x. length-bytes_low_first 0 8 (cast_unsigned w64 x)) numbers

sum_even : (arrays : List (List ℕ)) → sum_by raw_size (map raw arrays) ≡ sum_by (λ array. length array) arrays
sum_even [] = refl
sum_even (x ∷ xs) =
    let first = sum_by-cons raw_size (raw x) (map raw xs) in
    let same = sum_by-cons (λ (array : List ℕ). length array) x xs in
    let rest = sum_even xs in
    omega (arith, first, same, rest)

-- arrays have a sum that fits where what they are written as does
pub fixed_few : (arrays : List (List ℕ)) (most : ℕ) → 8 * length (map raw arrays) + sum_by raw_size (map raw arrays) < most → sum_by (λ array. length array) arrays < most
fixed_few arrays most few = let same = sum_even arrays in omega (arith, same, few)

pub fixed_long : (arrays : List (List ℕ)) → length (plain_bytes FIXED_LEN_BYTE_ARRAY (map raw arrays)) ≡ sum_by (λ array. length array) arrays
fixed_long arrays =
    let long = flat_long own_bytes (λ (array : List ℕ). length array) 0 (λ x. omega arith) arrays in
    ap length (sym (bytes_seen own_bytes (value_bytes FIXED_LEN_BYTE_ARRAY) raw (λ x. refl) arrays)) ∙ omega (arith, long)

lent_sum : (arrays : List (Bor (List ℕ))) → sum_by (λ array. length array) (lent_values arrays) ≡ sum_by (λ array. length array.now) arrays
lent_sum [] = refl
lent_sum (x ∷ xs) =
    let first = sum_by-cons (λ (array : List ℕ). length array) x.now (lent_values xs) in
    let same = sum_by-cons (λ (array : Bor (List ℕ)). length array.now) x xs in
    let rest = lent_sum xs in
    omega (arith, first, same, rest)

pub lent_few : (arrays : List (Bor (List ℕ))) (most : ℕ) → 8 * length (map raw (lent_values arrays)) + sum_by raw_size (map raw (lent_values arrays)) < most
    → sum_by (λ array. length array.now) arrays < most
lent_few arrays most few = let same = lent_sum arrays in let less = fixed_few (lent_values arrays) most few in omega (arith, same, less)

pub lent_long : (arrays : List (Bor (List ℕ))) → length (plain_bytes BYTE_ARRAY (map raw (lent_values arrays))) ≡ 4 * length arrays + sum_by (λ array. length array.now) arrays
lent_long arrays =
    let values = lent_values arrays in
    let long = flat_long array_bytes (λ (array : List ℕ). length array) 4 (λ x. length-append (little_bytes 4 (length x)) x ∙ ap (λ n. n + length x) (length-bytes_low_first 0 4 (length x))) values in
    let count = length-map arrays (λ (array : Bor (List ℕ)). array.now) in
    let sum = lent_sum arrays in
    ap length (sym (bytes_seen array_bytes (value_bytes BYTE_ARRAY) raw (λ x. refl) values)) ∙ omega (arith, long, count, sum)

-- ---- and how long they are at most

value_short : (type : ℕ) (v : Physical) (b : Bool) (d : Bool) → eqb type INT32 ≡ b → eqb type BYTE_ARRAY ≡ d → length (value_bytes type v) ≤ 8 + raw_size v
value_short type (flag f) b d is also = omega arith
value_short type (whole_number n) true d is also = rw is (let four = length-bytes_low_first 0 4 (cast_unsigned w32 n) in omega (arith, four))
value_short type (whole_number n) false d is also = rw is (let eight = length-bytes_low_first 0 8 (cast_unsigned w64 n) in omega (arith, eight))
value_short type (raw bytes) b true is also = rw also (let four = length-bytes_low_first 0 4 (length bytes) in let both = length-append (little_bytes 4 (length bytes)) bytes in omega (arith, four, both))
value_short type (raw bytes) b false is also = rw also (omega arith)

flat_short : (type : ℕ) (values : List Physical) → length (flat_map (value_bytes type) values) ≤ 8 * length values + sum_by raw_size values
flat_short type [] = omega arith
flat_short type (v ∷ vs) =
    let first = value_short type v (eqb type INT32) (eqb type BYTE_ARRAY) refl refl in
    let rest = flat_short type vs in
    let joined = length-append (value_bytes type v) (flat_map (value_bytes type) vs) in
    let sums = sum_by-cons raw_size v vs in
    omega (arith, first, rest, joined, sums)

bits_short : (values : List Physical) → length (flags_spelling (map flag_of values)) ≤ 8 * length values + sum_by raw_size values
unfolding flags_spelling
bits_short values =
    let flags = map flag_of values in
    let size = length-map-range_with_len (flag_byte flags) 0 (flag_bytes (length flags)) in
    let same = length-map values flag_of in
    omega (arith, size, same)

plain_short_by : (type : ℕ) (values : List Physical) (b : Bool) → eqb type BOOLEAN ≡ b → length (plain_bytes type values) ≤ 8 * length values + sum_by raw_size values
plain_short_by type values true is = rw is (bits_short values)
plain_short_by type values false is = rw is (flat_short type values)

-- values take at most 8 bytes each beside their own
pub plain_short : (type : ℕ) (values : List Physical) → length (plain_bytes type values) ≤ 8 * length values + sum_by raw_size values
plain_short type values = plain_short_by type values (eqb type BOOLEAN) refl
