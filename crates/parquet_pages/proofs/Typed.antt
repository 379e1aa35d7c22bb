-- What is read is a value of the column's type.
use Rattle.std.proofs.Common.{◌≡◌, ℕ, ◌^◌, ◌/◌, ℤ, ◌*ℤ◌, ◌+ℤ◌, ◌-ℤ◌, pos, negsuc, ◌≤ℤ◌, FitsSigned, List, Option, Some, None, Bool, true, false, cond, refl, arith}
use Rattle.std.specs.Prelude.{IfSome, int_le, unsigned_abs, nat_lt, length, drop, ◌==◌}
use Rattle.std.specs.Str.{is_utf8}
use Rattle.std.proofs.lemmas.Bool.{and_parts, ltb-true}
use Rattle.byteorder.specs.Endian.{little_number}
use Rattle.std.specs.Int.{w8, w16, w32, w64}
use Rattle.std.proofs.lemmas.Int.{ints}
use Rattle.dm_types.specs.Lanes.{IsNullOrOf, is_within}
use Rattle.dm_types.specs.Ranges.{IsDay, IsNullOrInRange, IsWellFormed, IsWithin, is_day, day_part}
use Rattle.dm_types.specs.declared.value.DataType.{DataType}
use Rattle.dm_types.specs.declared.value.DataType.TheVariants as kind
use Rattle.dm_types.specs.declared.value.Value.{Value}
use Rattle.dm_types.specs.declared.value.Value.TheVariants as value
use Rattle.dm_types.specs.declared.value.TheConstants.{FIRST_DAY, LAST_DAY}
use Rattle.parquet_meta.specs.declared.metadata.Annotation.{Annotation}
use Rattle.parquet_pages.specs.Kept.{text_bytes, IsKeptOf}
use Rattle.parquet_pages.specs.Physical.{Physical, flag, whole_number, raw}
use Rattle.parquet_pages.specs.Stored.{is_full}
use Rattle.parquet_pages.specs.Types.{where_it, plain_value, value_of, whole_of, day_of, moment, decimal, scaled_moment, julian_moment, micros_of, signed_number}
use Rattle.parquet_pages.specs.declared.kept.KeptColumn.{KeptColumn}

-- of a type and within it, not null, and no text
pub record Plain (k : DataType) (v : Value) : Type 0 where
  pub typed : IsNullOrOf k v
  pub size : text_bytes v ≡ 0
  pub within : IsWithin k v
  pub full : is_full v ≡ true

pub where_told : (good : Bool) (v found : Value) → where_it good v ≡ Some found → (good ≡ true) × (found ≡ v)
where_told true v found is = (refl, cc)
where_told false v found is = absurd cc

fits_7 : (n : ℤ) → is_within 7 n ≡ true → FitsSigned w8 n
fits_7 (pos n) is = grind arith
fits_7 (negsuc n) is = grind arith

fits_15 : (n : ℤ) → is_within 15 n ≡ true → FitsSigned w16 n
fits_15 (pos n) is = grind arith
fits_15 (negsuc n) is = grind arith

fits_31 : (n : ℤ) → is_within 31 n ≡ true → FitsSigned w32 n
fits_31 (pos n) is = grind arith
fits_31 (negsuc n) is = grind arith

fits_63 : (n : ℤ) → is_within 63 n ≡ true → FitsSigned w64 n
fits_63 (pos n) is = grind arith
fits_63 (negsuc n) is = grind arith

within_63 : (n : ℤ) → FitsSigned w64 n → is_within 63 n ≡ true
within_63 (pos n) is = grind arith
within_63 (negsuc n) is = grind arith

pub long_is : (n : ℤ) → FitsSigned w64 n → Some (value.Int n) ≡ whole_of 63 n
long_is n fits = rw (within_63 n fits) refl

day_fits : (n : ℤ) → is_day n ≡ true → FitsSigned w32 n
day_fits (pos n) is = grind arith
day_fits (negsuc n) is = grind arith

whole_plain : (bits : ℕ) (k : DataType) (n : ℤ) (found : Value) → IsWithin k (value.Int n) → (is_within bits n ≡ true → IsNullOrOf k (value.Int n)) → whole_of bits n ≡ Some found → Plain k found
whole_plain bits k n found within fits is =
    let told = where_told (is_within bits n) (value.Int n) found is in
    rw told.1 (record { typed = fits told.0; size = refl; within = within; full = refl })

up_to : (x y : ℤ) → int_le x y ≡ true → x ≤ℤ y
up_to x y is = grind (arith, ints)

day_is : (n : ℤ) → is_day n ≡ true → IsDay n
day_is n is =
    let parts = and_parts (int_le FIRST_DAY n) (int_le n LAST_DAY) is in
    (up_to FIRST_DAY n parts.0, up_to n LAST_DAY parts.1)

day_plain : (n : ℤ) (found : Value) → day_of n ≡ Some found → Plain kind.Date found
day_plain n found is =
    let told = where_told (is_day n) (value.Day n) found is in
    rw told.1 (record { typed = day_fits n told.0; size = refl; within = day_is n told.0; full = refl })

moment_fits : (n : ℤ) → is_day (day_part n) ≡ true → FitsSigned w64 n
moment_fits n is = grind (arith, ints)

moment_plain : (n : ℤ) (found : Value) → moment n ≡ Some found → Plain kind.Timestamp found
moment_plain n found is =
    let told = where_told (is_day (day_part n)) (value.Micros n) found is in
    rw told.1 (record { typed = moment_fits n told.0; size = refl; within = day_is (day_part n) told.0; full = refl })

scaled_plain : (unit : Option ℕ) (n : ℤ) (found : Value) → scaled_moment unit n ≡ Some found → Plain kind.Timestamp found
scaled_plain None n found is = absurd cc
scaled_plain (Some unit) n found is = moment_plain (n *ℤ pos unit) found is

decimal_plain : (precision scale : ℕ) (n : ℤ) (found : Value) → decimal precision scale n ≡ Some found → Plain (kind.Decimal precision scale) found
decimal_plain precision scale n found is =
    let told = where_told (nat_lt (unsigned_abs n) (10 ^ precision)) (value.Dec (record { unscaled = n; scale = scale })) found is in
    rw told.1 (record { typed = refl; size = refl; within = ltb-true (unsigned_abs n) (10 ^ precision) told.0; full = refl })

chosen_moment : (good : Bool) (n : ℤ) (found : Value) → (cond good (moment n) None) ≡ Some found → Plain kind.Timestamp found
chosen_moment true n found is = moment_plain n found is
chosen_moment false n found is = absurd cc

int96_plain : (good : Bool) (nanos day : ℕ) (found : Value) → (cond good (julian_moment nanos day) None) ≡ Some found → Plain kind.Timestamp found
int96_plain true nanos day found is = chosen_moment (nat_lt nanos 86_400_000_000_000) ((pos day -ℤ pos 2_440_588) *ℤ pos 86_400_000_000 +ℤ pos (nanos / 1000)) found is
int96_plain false nanos day found is = absurd cc

pub plain_typed : (k : DataType) (a : Annotation) (v : Physical) (found : Value) → plain_value k a v ≡ Some found → Plain k found
plain_typed kind.Boolean a (flag b) found is = let e : found ≡ value.Bool b = cc in rw e (record { typed = tt; size = refl; within = tt; full = refl })
plain_typed kind.Byte a (whole_number n) found is = whole_plain 7 kind.Byte n found tt (fits_7 n) is
plain_typed kind.Short a (whole_number n) found is = whole_plain 15 kind.Short n found tt (fits_15 n) is
plain_typed kind.Integer a (whole_number n) found is = whole_plain 31 kind.Integer n found tt (fits_31 n) is
plain_typed kind.Long a (whole_number n) found is = whole_plain 63 kind.Long n found tt (fits_63 n) is
plain_typed kind.Date a (whole_number n) found is = day_plain n found is
plain_typed kind.Timestamp a (whole_number n) found is = scaled_plain (micros_of a.logical a.converted) n found is
plain_typed kind.Timestamp a (raw bytes) found is = int96_plain (length bytes == 12) (little_number 8 bytes) (little_number 4 (drop 8 bytes)) found is
plain_typed (kind.Decimal precision scale) a (whole_number n) found is = decimal_plain precision scale n found is
plain_typed (kind.Decimal precision scale) a (raw bytes) found is = decimal_plain precision scale (signed_number bytes) found is
plain_typed k a v found is = absurd cc

pub kept_typed : (k : DataType) (kept : Option KeptColumn) (v : Value) → IsKeptOf k kept → IsNullOrOf k v → IfSome kept (λ it. IsNullOrOf it.column.kind v)
kept_typed k None v of typed = tt
kept_typed k (Some it) v of typed = rw of typed

-- in the range of a type, and not null
pub record Ranged (k : DataType) (v : Value) : Type 0 where
  pub ranged : IsNullOrInRange k v
  pub full : is_full v ≡ true

null_or_in_range : (k : DataType) (v : Value) → IsWellFormed k → IsNullOrOf k v → IsWithin k v → IsNullOrInRange k v
null_or_in_range k value.Null formed typed within = tt
null_or_in_range k v formed typed within = (formed, typed, within)

plain_ranged : (k : DataType) (a : Annotation) (p : Physical) (v : Value) → IsWellFormed k → plain_value k a p ≡ Some v → Ranged k v
plain_ranged k a p v formed is =
    let plain = plain_typed k a p v is in
    record { ranged = null_or_in_range k v formed plain.typed plain.within; full = plain.full }

text_ranged : (bytes : List ℕ) (v : Value) → where_it (is_utf8 bytes) (value.Text bytes) ≡ Some v → Ranged kind.Str v
text_ranged bytes v is =
    let told = where_told (is_utf8 bytes) (value.Text bytes) v is in
    rw told.1 (record { ranged = (tt, tt, tt); full = refl })

pub value_ranged : (k : DataType) (a : Annotation) (p : Physical) (v : Value) → IsWellFormed k → value_of k a p ≡ Some v → Ranged k v
value_ranged kind.Str a (raw bytes) v formed is = text_ranged bytes v is
value_ranged kind.Binary a (raw bytes) v formed is = let e : v ≡ value.Bytes bytes = cc in rw e (record { ranged = (tt, tt, tt); full = refl })
value_ranged k a p v formed is = plain_ranged k a p v formed is
