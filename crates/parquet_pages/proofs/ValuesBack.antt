-- A value is read of what stands in a page for it.
use Rattle.std.proofs.Common.{◌≡◌, ℕ, zero, suc, ◌+◌, ◌-◌, ◌*◌, ◌%◌, ◌^◌, ◌<◌, ◌≤◌, ℤ, pos, negsuc, ◌*ℤ◌, ◌≤ℤ◌, [], length, Some, Bool, true, false, cond, eqb, FitsSigned, unsigned_abs, refl, sym, ap, ◌∙◌, subst, arith}
use Rattle.std.specs.Prelude.{int_le}
use Rattle.std.specs.Int.{w8, w16, w32, w128, cast_unsigned}
use Rattle.std.specs.List.{range_with_len}
use Rattle.std.proofs.lemmas.Bool.{and_from, lt-ltb, le-ltb, leb-true}
use Rattle.std.proofs.lemmas.Int.{ints}
use Rattle.std.proofs.lemmas.List.{append-nil}
use Rattle.std.proofs.lemmas.Nat.{pow-add, pow_pos}
use Rattle.std.proofs.lemmas.Str.{is_utf8-from_IsUtf8}
use Rattle.std.proofs.Math.IntN.{*ℤ-one, one}
use Rattle.std.proofs.Math.Nat.{mod-eq_of_lt, mod-lt, mul-add-mod_self_left, mul_comm, pow-suc}
use Rattle.byteorder.specs.Endian.{big_bytes, big_number, low_bytes, twos_complement}
use Rattle.byteorder.specs.Numbers.{big_number-reads_back, length-bytes_high_first}
use Rattle.dm_types.specs.Lanes.{is_within}
use Rattle.dm_types.specs.Ranges.{day_part, is_day, IsDay, IsNullOrInRange, IsText}
use Rattle.dm_types.specs.declared.value.DataType.{DataType}
use Rattle.dm_types.specs.declared.value.DataType.TheVariants as kind
use Rattle.dm_types.specs.declared.value.Decimal.{Decimal}
use Rattle.dm_types.specs.declared.value.Value.{Value}
use Rattle.dm_types.specs.declared.value.Value.TheVariants as value
use Rattle.parquet_pages.specs.Physical.{whole_number, raw}
use Rattle.parquet_meta.specs.declared.numbers.TheConstants.{FIXED_LEN_BYTE_ARRAY}
use Rattle.parquet_pages.specs.Stored.{annotation_of, decimal_size, decimal_stored, decimal_type, first_that, has_room, is_full, stored}
use Rattle.parquet_pages.specs.Types.{decimal, moment, signed_number, value_of, where_it}
use Rattle.parquet_pages.proofs.Sizes.{last_room}
use Rattle.parquet_pages.proofs.Typed.{long_is}

-- ---- numbers in two's complement

-- the lowest bytes of a number, by half the room that they have
low_pos : (whole n : ℕ) → n < whole → n % whole ≡ n
low_pos whole n below = mod-eq_of_lt below

low_neg : (whole rest n : ℕ) → suc n ≤ whole → 1 ≤ rest → (whole * rest - suc n) % whole ≡ whole - suc n
low_neg whole zero n fits some = absurd (omega arith)
low_neg whole (suc rest) n fits some =
    let split : whole * suc rest - suc n ≡ whole * rest + (whole - suc n) = omega arith in
    rw split (mul-add-mod_self_left whole rest (whole - suc n) ∙ mod-eq_of_lt (omega arith))

-- a number in so many bytes, by the half of what they hold
back_by : (size half : ℕ) (n : ℤ) → 2 ^ (8 * size - 1) ≡ half → 2 ^ (8 * size) ≡ 2 * half → (rest : ℕ) → 2 ^ 128 ≡ 2 * half * rest → 1 ≤ rest → unsigned_abs n < half
    → twos_complement size (low_bytes w128 size n) ≡ n
back_by size half (pos n) is twice rest whole some small =
    let low : n % (2 * half) ≡ n = low_pos (2 * half) n (omega arith) in
    rw (is, twice, low, lt-ltb n half small) refl
back_by size half (negsuc n) is twice rest whole some small =
    let low : (2 * half * rest - suc n) % (2 * half) ≡ 2 * half - suc n = low_neg (2 * half) rest n (omega arith) some in
    let same : (2 ^ 128 - suc n) % (2 * half) ≡ 2 * half - suc n = ap (λ w. (w - suc n) % (2 * half)) whole ∙ low in
    rw (is, twice, same, le-ltb (2 * half - suc n) half (omega arith)) (omega (arith, ints))

pow256 : (n : ℕ) → 256 ^ n ≡ 2 ^ (8 * n)
pow256 zero = refl
pow256 (suc n) =
    let e : 8 * suc n ≡ 8 * n + 8 = omega arith in
    rw (pow-suc 256 n, pow256 n, e, pow-add 2 (8 * n) 8) refl

low_small : (size : ℕ) (n : ℤ) → low_bytes w128 size n < 256 ^ size
low_small size n = rw (pow256 size) (mod-lt (cast_unsigned w128 n) (pow_pos (8 * size)))

pub signed_back : (size : ℕ) (n : ℤ) → 1 ≤ size → size ≤ 16 → unsigned_abs n < 2 ^ (8 * size - 1) → signed_number (big_bytes size (low_bytes w128 size n)) ≡ n
signed_back size n low high small =
    let bytes = big_bytes size (low_bytes w128 size n) in
    let counted : length bytes ≡ size = length-bytes_high_first size (low_bytes w128 size n) in
    let number : big_number size bytes ≡ low_bytes w128 size n = ap (big_number size) (sym (append-nil bytes)) ∙ big_number-reads_back size (low_bytes w128 size n) [] (low_small size n) in
    let more : 8 * size ≡ suc (8 * size - 1) = omega arith in
    let doubled = pow-suc 2 (8 * size - 1) in
    let twice : 2 ^ (8 * size) ≡ 2 * 2 ^ (8 * size - 1) = ap (λ e. 2 ^ e) more ∙ doubled ∙ mul_comm (2 ^ (8 * size - 1)) 2 in
    let all : 128 ≡ 8 * size + (128 - 8 * size) = omega arith in
    let whole : 2 ^ 128 ≡ 2 * 2 ^ (8 * size - 1) * 2 ^ (128 - 8 * size) = ap (λ e. 2 ^ e) all ∙ pow-add 2 (8 * size) (128 - 8 * size) ∙ ap (λ w. w * 2 ^ (128 - 8 * size)) twice in
    ap (λ s. twos_complement s (big_number s bytes)) counted
    ∙ ap (twos_complement size) number
    ∙ back_by size (2 ^ (8 * size - 1)) n refl twice (2 ^ (128 - 8 * size)) whole (pow_pos (128 - 8 * size)) small

-- ---- decimals

record Place (test : ℕ → Bool) (low high at : ℕ) : Type 0 where
  above : low ≤ at
  below : at ≤ high
  passes : test at ≡ true

first_here : (test : ℕ → Bool) (n left rest : ℕ) (b : Bool) → test n ≡ b → (b ≡ false → Place test (n + 1) (n + left) rest) → Place test n (n + left) (cond b n rest)
first_here test n left rest true is later = record { above = omega arith; below = omega arith; passes = is }
first_here test n left rest false is later = let place = later refl in record { above = (let a = place.above in omega arith); below = place.below; passes = place.passes }

first_place : (test : ℕ → Bool) (n left : ℕ) → test (n + left) ≡ true → Place test n (n + left) (first_that test (range_with_len n (suc left)))
unfolding first_that
first_place test n zero last =
    let same : n + 0 ≡ n = omega arith in
    let passes : test n ≡ true = subst (λ m. test m ≡ true) same last in
    first_here test n 0 0 (test n) refl (λ fails. absurd (let clash : true ≡ false = sym passes ∙ fails in cc))
first_place test n (suc left) last =
    let same : n + suc left ≡ n + 1 + left = omega arith in
    first_here test n (suc left) (first_that test (range_with_len (n + 1) (suc left))) (test n) refl
    (λ fails. subst (λ m. Place test (n + 1) m (first_that test (range_with_len (n + 1) (suc left)))) (sym same) (first_place test (n + 1) left (subst (λ m. test m ≡ true) same last)))

decimal_room : (precision : ℕ) → precision ≤ 38 → Place (has_room precision) 1 16 (decimal_size precision)
decimal_room precision few = first_place (has_room precision) 1 15 (last_room precision few)

decimal_by : (precision scale : ℕ) (n : ℤ) → unsigned_abs n < 10 ^ precision → decimal precision scale n ≡ Some (value.Dec (record { unscaled = n; scale = scale }))
decimal_by precision scale n within = ap (λ b. where_it b (value.Dec (record { unscaled = n; scale = scale }))) (lt-ltb (unsigned_abs n) (10 ^ precision) within)

decimal_raw : (precision scale : ℕ) (n : ℤ) → precision ≤ 38 → unsigned_abs n < 10 ^ precision
    → decimal precision scale (signed_number (big_bytes (decimal_size precision) (low_bytes w128 (decimal_size precision) n))) ≡ Some (value.Dec (record { unscaled = n; scale = scale }))
decimal_raw precision scale n few within =
    let room = decimal_room precision few in
    let wide : 10 ^ precision ≤ 2 ^ (8 * decimal_size precision - 1) = leb-true (10 ^ precision) (2 ^ (8 * decimal_size precision - 1)) room.passes in
    ap (decimal precision scale) (signed_back (decimal_size precision) n room.above room.below (omega arith)) ∙ decimal_by precision scale n within

decimal_cond : (precision scale : ℕ) (n : ℤ) (b : Bool) → precision ≤ 38 → unsigned_abs n < 10 ^ precision
    → value_of (kind.Decimal precision scale) (annotation_of (kind.Decimal precision scale)) (cond b (raw (big_bytes (decimal_size precision) (low_bytes w128 (decimal_size precision) n))) (whole_number n)) ≡ Some (value.Dec (record { unscaled = n; scale = scale }))
decimal_cond precision scale n true few within = decimal_raw precision scale n few within
decimal_cond precision scale n false few within = decimal_by precision scale n within

decimal_back : (precision scale : ℕ) (d : Decimal) → precision ≤ 38 → unsigned_abs d.unscaled < 10 ^ precision → d.scale ≡ scale
    → value_of (kind.Decimal precision scale) (annotation_of (kind.Decimal precision scale)) (decimal_stored precision d.unscaled) ≡ Some (value.Dec d)
decimal_back precision scale d few within same =
    decimal_cond precision scale d.unscaled (eqb (decimal_type precision) FIXED_LEN_BYTE_ARRAY) few within ∙ ap (λ s. Some (value.Dec (record { unscaled = d.unscaled; scale = s }))) (sym same)

-- ---- the other types

within_7 : (n : ℤ) → FitsSigned w8 n → is_within 7 n ≡ true
within_7 (pos n) fits = lt-ltb n (2 ^ 7) fits.sfits
within_7 (negsuc n) fits = lt-ltb n (2 ^ 7) fits.sfits

within_15 : (n : ℤ) → FitsSigned w16 n → is_within 15 n ≡ true
within_15 (pos n) fits = lt-ltb n (2 ^ 15) fits.sfits
within_15 (negsuc n) fits = lt-ltb n (2 ^ 15) fits.sfits

within_31 : (n : ℤ) → FitsSigned w32 n → is_within 31 n ≡ true
within_31 (pos n) fits = lt-ltb n (2 ^ 31) fits.sfits
within_31 (negsuc n) fits = lt-ltb n (2 ^ 31) fits.sfits

le_true : (a b : ℤ) → a ≤ℤ b → int_le a b ≡ true
le_true a b h = grind (arith, ints)

day_true : (n : ℤ) → IsDay n → is_day n ≡ true
day_true n h = and_from (int_le (negsuc 719_161) n) (int_le n (pos 2_932_896)) (le_true (negsuc 719_161) n h.0) (le_true n (pos 2_932_896) h.1)

moment_back : (n : ℤ) → IsDay (day_part n) → moment (n *ℤ pos 1) ≡ Some (value.Micros n)
unfolding one
moment_back n day = ap moment (*ℤ-one n) ∙ ap (λ b. where_it b (value.Micros n)) (day_true (day_part n) day)

pub value_back : (k : DataType) (v : Value) → IsNullOrInRange k v → IsText v → is_full v ≡ true → value_of k (annotation_of k) (stored k v) ≡ Some v
value_back k value.Null h text full = absurd cc
value_back kind.Boolean (value.Bool b) h text full = refl
value_back kind.Byte (value.Int n) h text full = ap (λ b. where_it b (value.Int n)) (within_7 n h.1)
value_back kind.Short (value.Int n) h text full = ap (λ b. where_it b (value.Int n)) (within_15 n h.1)
value_back kind.Integer (value.Int n) h text full = ap (λ b. where_it b (value.Int n)) (within_31 n h.1)
value_back kind.Long (value.Int n) h text full = sym (long_is n h.1)
value_back kind.Date (value.Day n) h text full = ap (λ b. where_it b (value.Day n)) (day_true n h.2)
value_back kind.Timestamp (value.Micros n) h text full = moment_back n h.2
value_back kind.Str (value.Text t) h text full = ap (λ b. where_it b (value.Text t)) (is_utf8-from_IsUtf8 t text)
value_back kind.Binary (value.Bytes b) h text full = refl
value_back (kind.Decimal precision scale) (value.Dec d) h text full = decimal_back precision scale d h.0.1 h.2 h.1
value_back k v h text full = absurd h.1
