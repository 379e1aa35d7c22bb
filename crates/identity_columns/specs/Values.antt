-- The values of an identity column (PROTOCOL.md, "Identity Columns").
use Rattle.std.specs.Prelude.{ℕ, ◌+◌, ◌-◌, ◌/◌, ◌<◌, ℤ, pos, ◌+ℤ◌, ◌-ℤ◌, ◌*ℤ◌, int_lt, unsigned_abs, FitsSigned, Bool, IsTrue, List, map, Option, Some, None, if◌then◌else◌, ⊤}
use Rattle.std.specs.Int.{w64}
use Rattle.std.specs.List.{range_with_len}
use Rattle.delta_schema.specs.declared.schema.IdentityRule.{IdentityRule}

-- the number at a place, counted from 0: start, start + step, start + 2 * step, and so on, without an end
abbrev pub number_at : IdentityRule → ℕ → ℤ
number_at rule place = rule.start +ℤ pos place *ℤ rule.step

-- a number lies beyond another in the step's direction
abbrev pub is_beyond : ℤ → ℤ → ℤ → Bool
is_beyond step other number = if int_lt (pos 0) step then int_lt other number else int_lt number other

-- it lies beyond the mark; where there is no mark, each does
abbrev pub IsBeyond : ℤ → Option ℤ → ℤ → Type 0
IsBeyond step None number = ⊤
IsBeyond step (Some mark) number = IsTrue (is_beyond step mark number)

-- the number at this place is the first beyond the mark
pub record IsFirst (rule : IdentityRule) (place : ℕ) : Type 0 where
  pub beyond : IsBeyond rule.step rule.mark (number_at rule place)
  pub least : (earlier : ℕ) → earlier < place → ¬ IsBeyond rule.step rule.mark (number_at rule earlier)

-- this place, as a number: 0 where the start lies beyond the mark, and else behind as many steps as there are from the
-- start to the mark
abbrev pub place_beyond : ℤ → ℤ → Option ℤ → ℕ
place_beyond start step None = 0
place_beyond start step (Some mark) =
    if is_beyond step mark start then 0 else unsigned_abs (mark -ℤ start) / unsigned_abs step + 1

abbrev pub first_place : IdentityRule → ℕ
first_place rule = place_beyond rule.start rule.step rule.mark

-- so many numbers, from the first beyond the mark on
abbrev pub next_values : IdentityRule → ℕ → List ℤ
next_values rule count = map (number_at rule) (range_with_len (first_place rule) count)

-- a number is in the range of `long`
abbrev pub IsLong : ℤ → Type 0
IsLong number = FitsSigned w64 number

-- the column after so many values, the last of which is its mark
abbrev pub marked : IdentityRule → ℕ → IdentityRule
marked rule count = record {
  start = rule.start;
  step = rule.step;
  mark = Some (number_at rule (first_place rule + count - 1));
  explicit = rule.explicit;
}
