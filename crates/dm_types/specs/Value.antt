-- Order and equality of values.
use Rattle.std.specs.Prelude.{Bool, true, Option, Some, None, ◌*ℤ◌, ◌^◌, pos}
use Rattle.std.specs.Cmp.Lexicographic.{slice_cmp}
use Rattle.std.specs.declared.cmp.Ordering.{Ordering}
use Rattle.std.specs.Ordering.{nat_cmp, int_cmp, bool_cmp, is_eq, is_some_and}
use Rattle.dm_types.specs.declared.value.Decimal.{Decimal}
use Rattle.dm_types.specs.declared.value.Value.{Value}
use Rattle.dm_types.specs.declared.value.Value.TheVariants as value

-- a / 10^s and b / 10^t are compared as a * 10^t and b * 10^s
abbrev pub decimal_cmp : Decimal → Decimal → Ordering
decimal_cmp a b = int_cmp (a.unscaled *ℤ pos (10 ^ b.scale)) (b.unscaled *ℤ pos (10 ^ a.scale))

-- none where one is null, or where the two are of different kinds
abbrev pub comparison : Value → Value → Option Ordering
comparison (value.Bool a) (value.Bool b) = Some (bool_cmp a b)
comparison (value.Int a) (value.Int b) = Some (int_cmp a b)
comparison (value.Dec a) (value.Dec b) = Some (decimal_cmp a b)
comparison (value.Text a) (value.Text b) = Some (slice_cmp nat_cmp a b)
comparison (value.Bytes a) (value.Bytes b) = Some (slice_cmp nat_cmp a b)
comparison (value.Day a) (value.Day b) = Some (int_cmp a b)
comparison (value.Micros a) (value.Micros b) = Some (int_cmp a b)
comparison a b = None

-- two nulls are the same value
abbrev pub is_same : Value → Value → Bool
is_same value.Null value.Null = true
is_same a b = is_some_and is_eq (comparison a b)
