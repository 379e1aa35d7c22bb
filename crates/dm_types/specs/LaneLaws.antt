-- Proofs of the laws of the eight lanes: an `impl` takes them from here alone. No clause cites this file.
use Rattle.std.specs.Prelude.{◌≡◌, ℕ, ◌^◌, ℤ, pos, negsuc, ◌*ℤ◌, FitsSigned, List, Bool, true, false, cond, Option, Some, None, refl}
use Rattle.std.proofs.Common.{sym, ap, arith}
use Rattle.std.specs.Int.{w32}
use Rattle.std.specs.Ordering.{int_cmp, int_eq, is_eq}
use Rattle.std.proofs.Math.Nat.{one-le-pow}
use Rattle.dm_types.specs.Scaled.{int_cmp-scaled}
use Rattle.dm_types.specs.Lanes.{IsOf, is_within, kept_within, is_bool, is_byte, is_short, is_int, is_long, is_decimal, is_text, is_bytes, int_value, long_value, decimal_value, kept_bool, kept_byte, kept_short, kept_int, kept_long, kept_decimal, kept_text, kept_bytes}
use Rattle.dm_types.specs.Value.{comparison, is_same}
use Rattle.dm_types.specs.declared.value.DataType.{DataType}
use Rattle.dm_types.specs.declared.value.DataType.TheVariants as kind
use Rattle.dm_types.specs.declared.value.Value.{Value}
use Rattle.dm_types.specs.declared.value.Value.TheVariants as value

-- one of a lane's types has the value of what is kept
abbrev pub IsOfSome : (DataType → Bool) → (DataType → Value) → Value → Type 0
IsOfSome serves value_at v = (k : DataType) × (serves k ≡ true) × (value_at k ≡ v)

by_test : (b : Bool) (n k : ℤ) → cond b (Some n) None ≡ Some k → k ≡ n
by_test true n k e = cc
by_test false n k e = absurd cc

within_kept : (bits : ℕ) (n k : ℤ) → kept_within bits n ≡ Some k → k ≡ n
within_kept bits n k e = by_test (is_within bits n) n k e

-- a value of one of a lane's types, and what is kept of it
abbrev pub KeepsIt : {K : Type 0} → (Value → Option K) → (K → DataType → Value) → DataType → Value → Type 0
KeepsIt {K} kept_of value_of k v = (x : K) × (kept_of v ≡ Some x) × (value_of x k ≡ v)

fits_kept : (n : ℤ) → FitsSigned w32 n → kept_within 31 n ≡ Some n
fits_kept (pos n) fits = grind arith
fits_kept (negsuc n) fits = grind arith

pub int_holds : (k : DataType) (v : Value) → is_int k ≡ true → IsOf k v → KeepsIt kept_int int_value k v
int_holds kind.Integer (value.Int n) serves of = (n, fits_kept n of, refl)
int_holds kind.Integer v serves of = absurd of
int_holds kind.Date (value.Day n) serves of = (n, refl, refl)
int_holds kind.Date v serves of = absurd of
int_holds k v serves of = absurd cc

pub long_holds : (k : DataType) (v : Value) → is_long k ≡ true → IsOf k v → KeepsIt kept_long long_value k v
long_holds kind.Long (value.Int n) serves of = (n, refl, refl)
long_holds kind.Long v serves of = absurd of
long_holds kind.Timestamp (value.Micros n) serves of = (n, refl, refl)
long_holds kind.Timestamp v serves of = absurd of
long_holds k v serves of = absurd cc

pub decimal_holds : (k : DataType) (v : Value) → is_decimal k ≡ true → IsOf k v → KeepsIt kept_decimal decimal_value k v
decimal_holds (kind.Decimal p s) (value.Dec d) serves of =
    (d.unscaled, refl, ap (λ (n : ℕ). value.Dec (record { unscaled = d.unscaled; scale = n })) (sym of))
decimal_holds (kind.Decimal p s) v serves of = absurd of
decimal_holds k v serves of = absurd cc

pub bool_held : (v : Value) (k : Bool) → kept_bool v ≡ Some k → IsOfSome is_bool (λ _. value.Bool k) v
bool_held (value.Bool b) k e = (kind.Boolean, refl, cc)
bool_held v k e = absurd cc

pub byte_held : (v : Value) (k : ℤ) → kept_byte v ≡ Some k → IsOfSome is_byte (λ _. value.Int k) v
byte_held (value.Int n) k e = (kind.Byte, refl, ap value.Int (within_kept 7 n k e))
byte_held v k e = absurd cc

pub short_held : (v : Value) (k : ℤ) → kept_short v ≡ Some k → IsOfSome is_short (λ _. value.Int k) v
short_held (value.Int n) k e = (kind.Short, refl, ap value.Int (within_kept 15 n k e))
short_held v k e = absurd cc

pub int_held : (v : Value) (k : ℤ) → kept_int v ≡ Some k → IsOfSome is_int (int_value k) v
int_held (value.Int n) k e = (kind.Integer, refl, ap value.Int (within_kept 31 n k e))
int_held (value.Day n) k e = (kind.Date, refl, cc)
int_held v k e = absurd cc

pub long_held : (v : Value) (k : ℤ) → kept_long v ≡ Some k → IsOfSome is_long (long_value k) v
long_held (value.Int n) k e = (kind.Long, refl, cc)
long_held (value.Micros n) k e = (kind.Timestamp, refl, cc)
long_held v k e = absurd cc

pub decimal_held : (v : Value) (k : ℤ) → kept_decimal v ≡ Some k → IsOfSome is_decimal (decimal_value k) v
decimal_held (value.Dec d) k e =
    (kind.Decimal 38 d.scale, refl, ap (λ (n : ℤ). value.Dec (record { unscaled = n; scale = d.scale })) cc)
decimal_held v k e = absurd cc

pub text_held : (v : Value) (k : List ℕ) → kept_text v ≡ Some k → IsOfSome is_text (λ _. value.Text k) v
text_held (value.Text t) k e = (kind.Str, refl, cc)
text_held v k e = absurd cc

pub bytes_held : (v : Value) (k : List ℕ) → kept_bytes v ≡ Some k → IsOfSome is_bytes (λ _. value.Bytes k) v
bytes_held (value.Bytes b) k e = (kind.Binary, refl, cc)
bytes_held v k e = absurd cc

same_scale : (a b : ℤ) (s : ℕ) → int_cmp (a *ℤ pos (10 ^ s)) (b *ℤ pos (10 ^ s)) ≡ int_cmp a b
same_scale a b s = int_cmp-scaled a b (10 ^ s) (one-le-pow s 10 (omega arith))

pub decimal_orders : (kind : DataType) (a b : ℤ) → is_decimal kind ≡ true
    → comparison (decimal_value a kind) (decimal_value b kind) ≡ Some (int_cmp a b)
decimal_orders (kind.Decimal p s) a b serves = ap Some (same_scale a b s)
decimal_orders k a b serves = absurd cc

pub decimal_equals : (kind : DataType) (a b : ℤ) → is_decimal kind ≡ true
    → is_same (decimal_value a kind) (decimal_value b kind) ≡ int_eq a b
decimal_equals (kind.Decimal p s) a b serves = ap is_eq (same_scale a b s)
decimal_equals k a b serves = absurd cc
