-- Comparisons, and truth values of which null is the third.
use Rattle.std.specs.Prelude.{Bool, true, false, not, Option, Some, None, option_map}
use Rattle.std.specs.Ordering.{is_eq, is_some_and}
use Rattle.std.specs.declared.cmp.Ordering.{Ordering}
use Rattle.dm_types.specs.Value.{comparison, decimal_cmp}
use Rattle.dm_types.specs.declared.value.Value.{Value}
use Rattle.dm_types.specs.declared.value.Value.TheVariants as value
use Rattle.sql_tree.specs.declared.tree.Truth.{Truth}
use Rattle.sql_tree.specs.declared.tree.Truth.TheVariants as t
use Rattle.vector_eval.specs.Numbers.{decimal}

-- ---- tests of a value

abbrev pub is_null : Value → Bool
is_null value.Null = true
is_null v = false

abbrev pub is_true : Value → Bool
is_true (value.Bool true) = true
is_true v = false

abbrev pub is_false : Value → Bool
is_false (value.Bool false) = true
is_false v = false

-- IS NULL, IS TRUE, IS FALSE
abbrev pub is : Truth → Value → Bool
is t.Null v = is_null v
is t.True v = is_true v
is t.False v = is_false v

-- ---- comparisons

-- a whole number and a decimal are compared by their value, others as values of one kind; none where one is null
abbrev pub ordering : Value → Value → Option Ordering
ordering (value.Int a) (value.Dec b) = Some (decimal_cmp (decimal a 0) b)
ordering (value.Dec a) (value.Int b) = Some (decimal_cmp a (decimal b 0))
ordering a b = comparison a b

-- a truth value, or null
abbrev pub truth : Option Bool → Value
truth None = value.Null
truth (Some b) = value.Bool b

-- null where a side is null
abbrev pub compared : (Ordering → Bool) → Value → Value → Value
compared test a b = truth (option_map test (ordering a b))

-- `<=>`: both null, or neither and equal
abbrev pub is_same : Value → Value → Bool
is_same value.Null value.Null = true
is_same a b = is_some_and is_eq (ordering a b)

-- ---- three values

abbrev pub denied : Value → Value
denied (value.Bool a) = value.Bool (not a)
denied v = value.Null

-- false where one is false, else null where one is null
abbrev pub both : Value → Value → Value
both (value.Bool false) b = value.Bool false
both a (value.Bool false) = value.Bool false
both (value.Bool true) (value.Bool true) = value.Bool true
both a b = value.Null

-- true where one is true, else null where one is null
abbrev pub either : Value → Value → Value
either (value.Bool true) b = value.Bool true
either a (value.Bool true) = value.Bool true
either (value.Bool false) (value.Bool false) = value.Bool false
either a b = value.Null
