-- What an expression that fits gives is null or in the range of its type.
use Rattle.std.proofs.Common.{◌≡◌, ℕ, min, ◌+◌, ◌*◌, ◌^◌, ◌<◌, ℤ, suc, pos, negsuc, neg_ℤ, ◌*ℤ◌, FitsSigned, Bool, true, false, List, [], ◌∷◌, ◌++◌, map, Option, Some, None, refl, sym, ap, subst, ◌∙◌, arith}
use Rattle.std.specs.Prelude.{IfOk, IfSome, length, int_div, Result, Ok, Err, nat_lt, unsigned_abs, slice_get, option_map, if◌then◌else◌}
use Rattle.std.specs.List.{AllByRecursion, flat_map}
use Rattle.std.specs.Int.{Width, w8, w16, w32, w64, int_div_euclid}
use mir.Val.{hbits}
use Rattle.std.specs.Ordering.{int_eq, is_eq}
use Rattle.std.specs.Str.{is_utf8, chars}
use Rattle.std.specs.declared.cmp.Ordering.{Ordering}
use Rattle.std.proofs.lemmas.Bool.{ltb-true}
use Rattle.std.proofs.lemmas.Int.{ints}
use Rattle.std.proofs.lemmas.Nat.{div-mul-add}
use Rattle.dm_types.specs.Lanes.{is_within}
use Rattle.dm_types.specs.Ranges.{IsWellFormed, IsInRange, IsNullOrInRange, IsDay, is_day, day_part}
use Rattle.dm_types.specs.Then.{go}
use Rattle.dm_types.specs.declared.value.DataType.{DataType}
use Rattle.dm_types.specs.declared.value.DataType.TheVariants as kind
use Rattle.dm_types.specs.declared.value.Decimal.{Decimal}
use Rattle.dm_types.specs.declared.value.Value.{Value}
use Rattle.dm_types.specs.declared.value.Value.TheVariants as value
use Rattle.dm_text.specs.Printing.{printed}
use Rattle.dm_text.specs.Reading.{text_value}
use Rattle.typed_expr.specs.Fits.{Fits, AllFit, FitsNode, parts_of, Has, IsBranch, IsBinary, both_of, listed}
use Rattle.typed_expr.specs.Kinds.{kind_of, kind_at, TypedLayer}
use Rattle.typed_expr.specs.Tables.{kept, is_type}
use Rattle.typed_expr.specs.declared.tree.DatePart.{DatePart}
use Rattle.typed_expr.specs.declared.tree.Op.{Op}
use Rattle.typed_expr.specs.declared.tree.Op.TheVariants as op
use Rattle.typed_expr.specs.declared.tree.TypedExpr.{TypedExpr, out-TypedExpr}
use Rattle.typed_expr.specs.declared.tree.TypedExpr.TheFolds.{map-TypedExpr, fold_out-TypedExpr}
use Rattle.typed_expr.specs.declared.tree.TypedExpr.TheOpen.{TypedExpr-F}
use Rattle.vector_eval.specs.Casts as c
use Rattle.vector_eval.specs.Numbers as n
use Rattle.vector_eval.specs.Outcomes.{Evaluated}
use Rattle.vector_eval.specs.Steps.{branch_of}
use Rattle.vector_eval.specs.Truths as t
use Rattle.vector_eval.specs.Values as v
use Rattle.vector_eval.specs.Values.{OnRow, value_of, value_at, column}
use Rattle.vector_eval.specs.declared.fault.ErrorKind.{ErrorKind}
use Rattle.vector_eval.specs.declared.fault.ErrorKind.TheVariants as error

-- ---- outcomes that are in range by themselves

abbrev pub Ranged : DataType → Evaluated → Type 0
Ranged k r = IfOk r (IsNullOrInRange k)

abbrev pub Reads : Type 0
Reads = (k : DataType) (text : List ℕ) (v : Value) → IsWellFormed k → text_value k text ≡ Some v → IsInRange k v

in_range : (k : DataType) (x : Value) → IsInRange k x → IsNullOrInRange k x
in_range k value.Null h = tt
in_range k _ h = h

bind : {A : Type 0} (k : DataType) (r : Result A ErrorKind) (f : A → Evaluated) → ((a : A) → Ranged k (f a)) → Ranged k (go r f)
bind k (Ok a) f h = h a
bind k (Err e) f h = tt

either_way : (k : DataType) (b : Bool) (r s : Evaluated) → (b ≡ true → Ranged k r) → Ranged k s → Ranged k (if b then r else s)
either_way k true r s h i = h refl
either_way k false r s h i = i

-- ---- numbers

within_fits : (w : Width) (x : ℤ) → is_within (hbits w) x ≡ true → FitsSigned w x
within_fits w (pos m) e = record { sfits = ltb-true m (2 ^ hbits w) e }
within_fits w (negsuc m) e = record { sfits = ltb-true m (2 ^ hbits w) e }

kept_ranged : (p s : ℕ) (x : ℤ) (b : Bool) → (b ≡ true → IsInRange (kind.Decimal p s) (value.Dec (n.decimal x s)))
    → Ranged (kind.Decimal p s) (go (if b then Ok x else Err error.Overflow) λ m. Ok (value.Dec (n.decimal m s)))
kept_ranged p s x true h = h refl
kept_ranged p s x false h = tt

fixed_ranged : (p s : ℕ) (x : ℤ) → IsWellFormed (kind.Decimal p s) → Ranged (kind.Decimal p s) (n.fixed p s x)
fixed_ranged p s x w = kept_ranged p s x (nat_lt (unsigned_abs x) (10 ^ min 38 p)) (λ e.
    let few : min 38 p ≡ p = omega (arith, w.1) in
    (w, refl, subst (λ (k : ℕ). unsigned_abs x < 10 ^ k) few (ltb-true _ _ e)))

in_type_ranged : (k : DataType) (x : ℤ) → IsWellFormed k → Ranged k (n.in_type k x)
in_type_ranged kind.Byte x w = either_way kind.Byte (is_within 7 x) _ _ (λ e. (tt, within_fits w8 x e, tt)) tt
in_type_ranged kind.Short x w = either_way kind.Short (is_within 15 x) _ _ (λ e. (tt, within_fits w16 x e, tt)) tt
in_type_ranged kind.Integer x w = either_way kind.Integer (is_within 31 x) _ _ (λ e. (tt, within_fits w32 x e, tt)) tt
in_type_ranged kind.Long x w = either_way kind.Long (is_within 63 x) _ _ (λ e. (tt, within_fits w64 x e, tt)) tt
in_type_ranged (kind.Decimal p s) x w = fixed_ranged p s x w
in_type_ranged _ x w = tt

on_ranged : (k : DataType) (f : Decimal → Evaluated) (found : Option Decimal) → ((d : Decimal) → Ranged k (f d)) → Ranged k (n.on_number f found)
on_ranged k f None h = tt
on_ranged k f (Some d) h = h d

module _ (k : DataType) (w : IsWellFormed k) where
  sum_ranged : (a b : Decimal) → Ranged k (n.sum k a b)
  sum_ranged a b = bind k (n.summand k a) _ (λ x. bind k (n.summand k b) _ (λ y. in_type_ranged k _ w))

  difference_ranged : (a b : Decimal) → Ranged k (n.difference k a b)
  difference_ranged a b = bind k (n.summand k a) _ (λ x. bind k (n.summand k b) _ (λ y. in_type_ranged k _ w))

  quotient_ranged : (a b : Decimal) → Ranged k (n.quotient k a b)
  quotient_ranged a b = either_way k (int_eq b.unscaled (pos 0)) _ _ (λ e. tt) (in_type_ranged k _ w)

  remainder_ranged : (a b : Decimal) → Ranged k (n.remainder k a b)
  remainder_ranged a b = either_way k (int_eq b.unscaled (pos 0)) _ _ (λ e. tt) (in_type_ranged k _ w)

  numbers_ranged : (f : Decimal → Decimal → Evaluated) → ((a b : Decimal) → Ranged k (f a b)) → (x y : Value) → Ranged k (n.on_numbers f x y)
  numbers_ranged f h x y = on_ranged k _ (n.number x) (λ a. on_ranged k (f a) (n.number y) (h a))

-- ---- truth values

truth_ranged : (b : Option Bool) → IsNullOrInRange kind.Boolean (t.truth b)
truth_ranged None = tt
truth_ranged (Some b) = (tt, tt, tt)

both_ranged : (a b : Value) → IsNullOrInRange kind.Boolean (t.both a b)
both_ranged (value.Bool false) b = (tt, tt, tt)
both_ranged (value.Bool true) (value.Bool false) = (tt, tt, tt)
both_ranged (value.Bool true) (value.Bool true) = (tt, tt, tt)
both_ranged (value.Bool true) _ = tt
both_ranged _ (value.Bool false) = (tt, tt, tt)
both_ranged _ (value.Bool true) = tt
both_ranged _ _ = tt

either_ranged : (a b : Value) → IsNullOrInRange kind.Boolean (t.either a b)
either_ranged (value.Bool true) b = (tt, tt, tt)
either_ranged (value.Bool false) (value.Bool false) = (tt, tt, tt)
either_ranged (value.Bool false) (value.Bool true) = (tt, tt, tt)
either_ranged (value.Bool false) _ = tt
either_ranged _ (value.Bool true) = (tt, tt, tt)
either_ranged _ (value.Bool false) = tt
either_ranged _ _ = tt

denied_ranged : (a : Value) → IsNullOrInRange kind.Boolean (t.denied a)
denied_ranged (value.Bool b) = (tt, tt, tt)
denied_ranged _ = tt

and_ranged : (a : Value) (r : Evaluated) → Ranged kind.Boolean (v.and_then a r)
and_ranged (value.Bool false) r = (tt, tt, tt)
and_ranged (value.Bool true) r = bind kind.Boolean r _ (λ b. both_ranged (value.Bool true) b)
and_ranged a r = bind kind.Boolean r (λ b. Ok (t.both a b)) (λ b. both_ranged a b)

or_ranged : (a : Value) (r : Evaluated) → Ranged kind.Boolean (v.or_else a r)
or_ranged (value.Bool true) r = (tt, tt, tt)
or_ranged (value.Bool false) r = bind kind.Boolean r _ (λ b. either_ranged (value.Bool false) b)
or_ranged a r = bind kind.Boolean r (λ b. Ok (t.either a b)) (λ b. either_ranged a b)

among_ranged : (row : List Value) (a : Value) (xs : List OnRow) (found : Value) → IsNullOrInRange kind.Boolean found → Ranged kind.Boolean (v.among a found xs row)
among_ranged row a [] found h = h
among_ranged row a (x ∷ xs) found h = either_way kind.Boolean (t.is_true found) _ _ (λ e. h)
    (bind kind.Boolean (x row) _ (λ b. among_ranged row a xs (t.either found (t.compared is_eq a b)) (either_ranged found (t.compared is_eq a b))))

boolean_is : (b : Bool) (k : DataType) → (if b then kept (Some kind.Boolean) else Err 3) ≡ Ok k → kind.Boolean ≡ k
boolean_is true k e = cc
boolean_is false k e = absurd (cc)

compared_ranged : (k : DataType) (test : Ordering → Bool) (a b : Value) → kind.Boolean ≡ k → Ranged k (Ok (t.compared test a b))
compared_ranged k test a b e = subst (λ j. Ranged j (Ok (t.compared test a b))) e (truth_ranged (option_map test (t.ordering a b)))

binary_ranged : (k : DataType) (operator : Op) (x y : TypedExpr) (a b : Value) → IsWellFormed k → IsBinary k operator x y → Ranged k (v.binary operator k a b)
binary_ranged k op.Add x y a b w e = numbers_ranged k w (n.sum k) (sum_ranged k w) a b
binary_ranged k op.Subtract x y a b w e = numbers_ranged k w (n.difference k) (difference_ranged k w) a b
binary_ranged k op.Multiply x y a b w e = numbers_ranged k w (n.product k) (λ c d. in_type_ranged k _ w) a b
binary_ranged k op.Quotient x y a b w e = numbers_ranged k w (n.quotient k) (quotient_ranged k w) a b
binary_ranged k op.Remainder x y a b w e = numbers_ranged k w (n.remainder k) (remainder_ranged k w) a b
binary_ranged k op.Equal x y a b w e = compared_ranged k _ a b (boolean_is _ k e)
binary_ranged k op.Unequal x y a b w e = compared_ranged k _ a b (boolean_is _ k e)
binary_ranged k op.Less x y a b w e = compared_ranged k _ a b (boolean_is _ k e)
binary_ranged k op.LessEqual x y a b w e = compared_ranged k _ a b (boolean_is _ k e)
binary_ranged k op.Greater x y a b w e = compared_ranged k _ a b (boolean_is _ k e)
binary_ranged k op.GreaterEqual x y a b w e = compared_ranged k _ a b (boolean_is _ k e)

-- ---- casts and functions

is_day_is : (x : ℤ) → is_day x ≡ true → IsDay x
is_day_is x e = (grind (arith, ints), grind (arith, ints))

midnight_day : (x : ℤ) → day_part (x *ℤ pos 86_400_000_000) ≡ x
midnight_day (pos a) = ap pos (omega arith)
midnight_day (negsuc a) =
    let less : suc a * 86_400_000_000 ≡ suc (a * 86_400_000_000 + 86_399_999_999) = omega arith in
    ap (λ (m : ℕ). int_div_euclid (neg_ℤ (pos m)) (pos 86_400_000_000)) less
    ∙ ap negsuc (div-mul-add a 86_400_000_000 86_399_999_999 (omega arith))

midnight_ranged : (x : ℤ) → is_day x ≡ true → IsInRange kind.Timestamp (value.Micros (x *ℤ pos 86_400_000_000))
midnight_ranged x e =
    let d = is_day_is x e in
    (tt, omega (arith, ints, d.0, d.1), subst IsDay (sym (midnight_day x)) d)

day_ranged : (x : ℤ) → is_day (day_part x) ≡ true → IsInRange kind.Date (value.Day (day_part x))
day_ranged x e =
    let d = is_day_is (day_part x) e in
    (tt, omega (arith, ints, d.0, d.1), d)

spelled_ranged : (b : List ℕ) → Ranged kind.Str (c.spelled b)
spelled_ranged b = either_way kind.Str (is_utf8 b) (Ok (value.Text b)) (Err error.BadCast) (λ e. (tt, tt, tt)) tt

as_text_ranged : (x : Value) → Ranged kind.Str (c.as_text x)
as_text_ranged value.Null = tt
as_text_ranged (value.Text s) = (tt, tt, tt)
as_text_ranged (value.Bytes b) = spelled_ranged b
as_text_ranged x = spelled_ranged (printed x)

number_as_ranged : (k : DataType) (d : Decimal) → IsWellFormed k → Ranged k (c.number_as k d)
number_as_ranged (kind.Decimal p s) d w = fixed_ranged p s (n.at_scale s d) w
number_as_ranged k d w = in_type_ranged k (int_div d.unscaled (pos (10 ^ d.scale))) w

read_ranged : (k : DataType) (found : Option Value) → ((x : Value) → found ≡ Some x → IsInRange k x) → Ranged k (c.read found)
read_ranged k None h = tt
read_ranged k (Some x) h = in_range k x (h x refl)

module _ (reads : Reads) where
  text_as_ranged : (k : DataType) (s : List ℕ) → IsWellFormed k → Ranged k (c.text_as k s)
  text_as_ranged kind.Binary s w = (tt, tt, tt)
  text_as_ranged k s w = either_way k (is_type k) (c.read (text_value k s)) (Ok value.Null) (λ e. read_ranged k (text_value k s) (λ x h. reads k s x w h)) tt

  converted_ranged : (k : DataType) (x : Value) → IsWellFormed k → c.is_ranged x ≡ true → Ranged k (c.converted k x)
  converted_ranged kind.Str x w h = as_text_ranged x
  converted_ranged k (value.Text s) w h = text_as_ranged k s w
  converted_ranged k (value.Int m) w h = number_as_ranged k (n.decimal m 0) w
  converted_ranged k (value.Dec d) w h = number_as_ranged k d w
  converted_ranged kind.Timestamp (value.Day m) w h = midnight_ranged m h
  converted_ranged kind.Date (value.Micros m) w h = day_ranged m h
  converted_ranged k x w h = tt

  cast_ranged : (k : DataType) (x : Value) → IsWellFormed k → Ranged k (c.cast k x)
  cast_ranged k x w = either_way k (c.is_ranged x) (c.converted k x) (Ok value.Null) (λ e. converted_ranged k x w e) tt

day_number_ranged : (p : DatePart) (m : ℤ) → Ranged kind.Integer (c.day_number p m)
day_number_ranged p m = either_way kind.Integer (is_day m) (n.in_type kind.Integer (pos (c.part_number p m))) (Ok value.Null) (λ e. in_type_ranged kind.Integer (pos (c.part_number p m)) tt) tt

date_part_ranged : (p : DatePart) (x : Value) → Ranged kind.Integer (c.date_part p x)
date_part_ranged p (value.Day m) = day_number_ranged p m
date_part_ranged p (value.Micros m) = day_number_ranged p (day_part m)
date_part_ranged p _ = tt

length_ranged : (x : Value) → Ranged kind.Integer (c.text_length x)
length_ranged (value.Text s) = in_type_ranged kind.Integer (pos (length (chars s))) tt
length_ranged _ = tt

joined_ranged : (a b : Value) → IsNullOrInRange kind.Str (c.joined a b)
joined_ranged (value.Text a) (value.Text b) = (tt, tt, tt)
joined_ranged (value.Text a) _ = tt
joined_ranged _ _ = tt

-- ---- whole expressions

-- what holds of columns, and of each value in range, holds of what the expression gives
module _ (kinds : List DataType) (row : List Value) (Held : DataType → Value → Type 0)
    (ranged : (k : DataType) (x : Value) → IsNullOrInRange k x → Held k x)
    (here : (place : ℕ) (k : DataType) → slice_get kinds place ≡ Some k → Held k (column place row)) (reads : Reads) where
  abbrev Gives : DataType → Evaluated → Type 0
  Gives k r = IfOk r (Held k)

  abbrev Claim : TypedExpr → Type 0
  Claim x = Gives (kind_of x) (value_of x row)

  abbrev Claims : List TypedExpr → Type 0
  Claims [] = Unit {0}
  Claims (x ∷ xs) = Claim x × Claims xs

  by_range : (k : DataType) (r : Evaluated) → Ranged k r → Gives k r
  by_range k (Ok x) h = ranged k x h
  by_range k (Err e) h = tt

  bind_held : {A : Type 0} (k : DataType) (r : Result A ErrorKind) (f : A → Evaluated) → ((a : A) → Gives k (f a)) → Gives k (go r f)
  bind_held k (Ok a) f h = h a
  bind_held k (Err e) f h = tt

  follow : (k : DataType) (r : Evaluated) (f : Value → Evaluated) → Gives k r → ((x : Value) → Held k x → Gives k (f x)) → Gives k (go r f)
  follow k (Ok x) f h i = i x h
  follow k (Err e) f h i = tt

  one_of : (k : DataType) (b : Bool) (r s : Evaluated) → Gives k r → Gives k s → Gives k (if b then r else s)
  one_of k true r s h i = h
  one_of k false r s h i = i

  of_kind : (k : DataType) (x : TypedExpr) → Has k x → Claim x → Gives k (value_of x row)
  of_kind k x e h = subst (λ j. Gives j (value_of x row)) e h

  last_held : (k : DataType) (otherwise : Option TypedExpr) → IfSome otherwise (Has k) → Claims (listed otherwise) → Gives k (v.last (option_map value_of otherwise) row)
  last_held k None e h = ranged k value.Null tt
  last_held k (Some x) e h = of_kind k x e h.0

  chosen_held : (k : DataType) (branches : List (TypedExpr × TypedExpr)) (otherwise : Option TypedExpr) → AllByRecursion (IsBranch k) branches → IfSome otherwise (Has k)
      → Claims (flat_map both_of branches ++ listed otherwise) → Gives k (v.chosen (map branch_of branches) (option_map value_of otherwise) row)
  chosen_held k [] otherwise b e h = last_held k otherwise e h
  chosen_held k (x ∷ xs) otherwise b e h = bind_held k (value_of x.0 row) _ (λ a. one_of k (t.is_true a) _ _ (of_kind k x.1 b.0.1 h.1.0) (chosen_held k xs otherwise b.1 e h.1.1))

  known_held : (k : DataType) (xs : List TypedExpr) → AllByRecursion (Has k) xs → Claims xs → Gives k (v.first_known (map value_of xs) row)
  known_held k [] e h = ranged k value.Null tt
  known_held k (x ∷ xs) e h = follow k (value_of x row) _ (of_kind k x e.0 h.0) (λ a i. one_of k (t.is_null a) _ _ (known_held k xs e.1 h.1) i)

  by_node : (l : TypedLayer) → FitsNode kinds l → Claims (parts_of l) → Gives (kind_at l) (value_at (map-TypedExpr TypedExpr OnRow value_of l) row)
  by_node (TypedExpr-F.Constant k x) f h = ranged k x f
  by_node (TypedExpr-F.Column k place) f h = here place k f
  by_node (TypedExpr-F.Negate k x) f h = by_range k _ (bind k (value_of x row) _ (λ a. on_ranged k (n.opposite k) (n.number a) (λ d. in_type_ranged k _ f.0)))
  by_node (TypedExpr-F.Not x) f h = by_range kind.Boolean _ (bind kind.Boolean (value_of x row) _ (λ a. denied_ranged a))
  by_node (TypedExpr-F.Binary k operator x y) f h = by_range k _ (bind k (value_of x row) _ (λ a. bind k (value_of y row) _ (λ b. binary_ranged k operator x y a b f.0 f.1)))
  by_node (TypedExpr-F.SameAs x y) f h = by_range kind.Boolean _ (bind kind.Boolean (value_of x row) _ (λ a. bind kind.Boolean (value_of y row) _ (λ b. (tt, tt, tt))))
  by_node (TypedExpr-F.And x y) f h = by_range kind.Boolean _ (bind kind.Boolean (value_of x row) _ (λ a. and_ranged a (value_of y row)))
  by_node (TypedExpr-F.Or x y) f h = by_range kind.Boolean _ (bind kind.Boolean (value_of x row) _ (λ a. or_ranged a (value_of y row)))
  by_node (TypedExpr-F.Concat x y) f h = by_range kind.Str _ (bind kind.Str (value_of x row) _ (λ a. bind kind.Str (value_of y row) _ (λ b. joined_ranged a b)))
  by_node (TypedExpr-F.Is truth x) f h = by_range kind.Boolean _ (bind kind.Boolean (value_of x row) _ (λ a. (tt, tt, tt)))
  by_node (TypedExpr-F.Between x low high) f h = by_range kind.Boolean _
      (bind kind.Boolean (value_of x row) _ (λ a. bind kind.Boolean (value_of low row) _ (λ b. and_ranged (t.compared _ a b) _)))
  by_node (TypedExpr-F.In x items) f h = by_range kind.Boolean _
      (bind kind.Boolean (value_of x row) _ (λ a. either_way kind.Boolean (t.is_null a) _ _ (λ e. tt) (among_ranged row a (map value_of items) (value.Bool false) (tt, tt, tt))))
  by_node (TypedExpr-F.Case k branches None) f h = chosen_held k branches None f.0 f.1 h
  by_node (TypedExpr-F.Case k branches (Some x)) f h = chosen_held k branches (Some x) f.0 f.1 h
  by_node (TypedExpr-F.Coalesce k xs) f h = known_held k xs f h
  by_node (TypedExpr-F.Cast k x) f h = by_range k _ (bind k (value_of x row) _ (λ a. cast_ranged reads k a f.0))
  by_node (TypedExpr-F.Part wanted x) f h = by_range kind.Integer _ (bind kind.Integer (value_of x row) _ (λ a. date_part_ranged wanted a))
  by_node (TypedExpr-F.Length x) f h = by_range kind.Integer _ (bind kind.Integer (value_of x row) _ (λ a. length_ranged a))

  opened : (x : TypedExpr) → value_of x row ≡ value_at (map-TypedExpr TypedExpr OnRow value_of (out-TypedExpr x)) row
  opened x = ap (λ (f : OnRow). f row) (fold_out-TypedExpr OnRow value_at x)

  mutual
    pub held : (x : TypedExpr) → Fits kinds x → Claim x
    held x (Fits.formed f parts) = subst (Gives (kind_of x)) (sym (opened x)) (by_node (out-TypedExpr x) f (all_held (parts_of (out-TypedExpr x)) parts))

    all_held : (xs : List TypedExpr) → AllFit kinds xs → Claims xs
    all_held _ AllFit.none = tt
    all_held _ (AllFit.more {x} {xs} f fs) = (held x f, all_held xs fs)
