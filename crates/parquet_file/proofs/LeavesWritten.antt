-- The leaves of a file that is written: a footer is written of them, and their columns' types are read of them.
use Rattle.std.proofs.Common.{◌≡◌, ◌≢◌, ℕ, ◌-◌, ◌*◌, ◌<◌, ◌≤◌, ◌^◌, Bool, true, false, cond, List, [], ◌∷◌, ◌++◌, map, ℤ, pos, Option, Some, refl, subst, arith}
use Rattle.std.proofs.lemmas.Bool.{le-leb, lt-ltb}
use Rattle.std.proofs.lemmas.Bool.Decides.{Decides-int_eq}
use Rattle.std.proofs.Math.Nat.{pow-le-pow_right}
use Rattle.std.specs.List.{AllByRecursion}
use Rattle.std.specs.Ordering.{int_eq}
use Rattle.std.specs.Prelude.{if◌then◌else◌, nat_le, ◌&&◌, ◌||◌, ◌==◌}
use Rattle.dm_types.specs.Ranges.{IsWellFormed}
use Rattle.dm_types.specs.declared.value.DataType.{DataType}
use Rattle.dm_types.specs.declared.value.DataType.TheVariants as kind
use Rattle.parquet_meta.specs.Leaves.{is_long_enough}
use Rattle.parquet_meta.specs.Writable.{IsWritableLeaf}
use Rattle.parquet_pages.specs.Stored.{decimal_size, first_that, has_room, leaf_of, length_of, type_of}
use Rattle.parquet_pages.specs.Types.{fits, has_scale}
use Rattle.parquet_file.specs.Writing.{IsWritableFileColumn, file_leaf}
use Rattle.parquet_file.specs.declared.columns.FileColumn.{FileColumn}

-- ---- decimals

above_by : (b : Bool) (x y : ℕ) → 0 < x → 0 < y → 0 < cond b x y
above_by true x y p q = p
above_by false x y p q = q

-- a number that passes is found, or one before it
first_that-above : (test : ℕ → Bool) (xs ys : List ℕ) (n : ℕ) → AllByRecursion (λ m. 0 < m) xs → 0 < n → test n ≡ true → 0 < first_that test (xs ++ n ∷ ys)
unfolding first_that
first_that-above test [] ys n all above passes = rw passes above
first_that-above test (x ∷ xs) ys n all above passes = above_by (test x) x (first_that test (xs ++ n ∷ ys)) all.0 (first_that-above test xs ys n all.1 above passes)

-- sixteen bytes have room for 38 digits
has_room-most : (precision : ℕ) → precision ≤ 38 → has_room precision 16 ≡ true
has_room-most precision h =
    let grows : 10 ^ precision ≤ 10 ^ 38 = pow-le-pow_right {n = 10} (omega arith) h in
    le-leb (10 ^ precision) (2 ^ (8 * 16 - 1)) (omega arith)

decimal_size-above : (precision : ℕ) → precision ≤ 38 → 0 < decimal_size precision
decimal_size-above precision h =
    first_that-above (has_room precision) (1 ∷ 2 ∷ 3 ∷ 4 ∷ 5 ∷ 6 ∷ 7 ∷ 8 ∷ 9 ∷ 10 ∷ 11 ∷ 12 ∷ 13 ∷ 14 ∷ 15 ∷ []) [] 16
    (omega arith, (omega arith, (omega arith, (omega arith, (omega arith, (omega arith, (omega arith, (omega arith, (omega arith, (omega arith, (omega arith, (omega arith, (omega arith, (omega arith, (omega arith, tt)))))))))))))))
    (omega arith) (has_room-most precision h)

-- ---- footers are written of them

small_by : (a b : Bool) → (if a then 1 else if b then 2 else 7) ≤ 7
small_by true b = omega arith
small_by false true = omega arith
small_by false false = omega arith

type_of-small : (k : DataType) → type_of k ≤ 7
type_of-small (kind.Decimal precision scale) = small_by (nat_le precision 9) (nat_le precision 18)
type_of-small k = omega arith

long_by : (a b : Bool) (size : ℕ) → 0 < size → is_long_enough (if a then 1 else if b then 2 else 7) (pos (if (if a then 1 else if b then 2 else 7) == 7 then size else 0)) ≡ true
long_by true b size h = refl
long_by false true size h = refl
long_by false false size h = lt-ltb 0 size h

long_enough : (k : DataType) → IsWellFormed k → is_long_enough (type_of k) (pos (length_of k)) ≡ true
long_enough (kind.Decimal precision scale) formed = long_by (nat_le precision 9) (nat_le precision 18) (decimal_size precision) (decimal_size-above precision formed.1)
long_enough k formed = refl

pub leaf-writable : (name : List ℕ) (field_id : Option ℤ) (k : DataType) → IsWellFormed k → IsWritableLeaf (leaf_of name field_id k)
leaf-writable name field_id k formed = record { top = refl; physical = type_of-small k; length = long_enough k formed; single = refl; logical = tt }

pub leaves-writable : (count : ℕ) (columns : List FileColumn) → AllByRecursion (IsWritableFileColumn count) columns → AllByRecursion IsWritableLeaf (map file_leaf columns)
leaves-writable count [] all = tt
leaves-writable count (c ∷ columns) all =
    (leaf-writable c.name c.field_id c.kind (subst IsWellFormed all.0.kind all.0.column.formed), leaves-writable count columns all.1)

-- ---- types are read of them

pub int_eq-same : (z : ℤ) → int_eq z z ≡ true
int_eq-same z = (Decides-int_eq z z).1 refl

decimal_by : (a b : Bool) (scale : ℕ) → ((let t : ℕ = if a then 1 else if b then 2 else 7 in t == 1 || t == 2 || t == 6 || t == 7) && has_scale scale (Some (pos scale))) ≡ true
decimal_by true b scale = int_eq-same (pos scale)
decimal_by false true scale = int_eq-same (pos scale)
decimal_by false false scale = int_eq-same (pos scale)

-- a column's type is read of the leaf that it is written as
pub leaf-fits : (name : List ℕ) (field_id : Option ℤ) (k : DataType) → k ≢ kind.Void → fits k (leaf_of name field_id k) ≡ true
leaf-fits name field_id kind.Void real = absurd (real refl)
leaf-fits name field_id (kind.Decimal precision scale) real = decimal_by (nat_le precision 9) (nat_le precision 18) scale
leaf-fits name field_id k real = refl
