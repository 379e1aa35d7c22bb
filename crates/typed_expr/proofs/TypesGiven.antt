-- Which types the tables give: types that there are, into which the operands go.
use Rattle.std.proofs.Common.{◌≡◌, ℕ, ◌+◌, max, Bool, true, false, not, List, [], ◌∷◌, ◌++◌, Option, Some, None, refl, sym, subst, ◌∙◌}
use Rattle.std.specs.Prelude.{◌&&◌, ◌||◌, ◌==◌, nat_lt, nat_le, if◌then◌else◌, Result, Ok, Err}
use Rattle.std.specs.List.{AllByRecursion, fold}
use Rattle.std.proofs.lemmas.Bool.{and_from, and_parts, or_left, or_right, leb-true, eq-eqb}
use Rattle.dm_types.specs.Ranges.{IsWellFormed}
use Rattle.dm_types.specs.declared.value.DataType.{DataType}
use Rattle.dm_types.specs.declared.value.DataType.TheVariants as kind
use Rattle.sql_tree.specs.declared.tree.Operator.{Operator}
use Rattle.sql_tree.specs.declared.tree.Operator.TheVariants as o
use Rattle.typed_expr.specs.Tables as table
use Rattle.typed_expr.proofs.FormTypes.{same_is}

-- ---- tests of types

pub type_formed : (k : DataType) → table.is_type k ≡ true → IsWellFormed k
type_formed (kind.Decimal p s) h =
    let outer = and_parts (nat_le 1 p && nat_le p 38) (nat_le s p) h in
    let inner = and_parts (nat_le 1 p) (nat_le p 38) outer.0 in
    (leb-true 1 p inner.0, leb-true p 38 inner.1, leb-true s p outer.1)
type_formed _ h = tt

pub same_self : (a : DataType) → table.is_same a a ≡ true
same_self (kind.Decimal p s) = and_from (p == p) (s == s) (eq-eqb p p refl) (eq-eqb s s refl)
same_self _ = refl

void_is : (a : DataType) → table.is_void a ≡ true → a ≡ kind.Void
void_is kind.Void h = refl
void_is _ h = absurd (cc)

integer_number : (a : DataType) → table.is_integer a ≡ true → table.is_number a ≡ true
integer_number a h = or_left (table.is_integer a) (table.is_decimal a) h

first_of_five : (a b c d e : Bool) → a ≡ true → (a || b || c || d || e) ≡ true
first_of_five true b c d e h = refl
first_of_five false b c d e h = absurd (cc)

second_of_five : (a b c d e : Bool) → b ≡ true → (a || b || c || d || e) ≡ true
second_of_five true b c d e h = refl
second_of_five false true c d e h = refl
second_of_five false false c d e h = absurd (cc)

third_of_five : (a b c d e : Bool) → c ≡ true → (a || b || c || d || e) ≡ true
third_of_five true b c d e h = refl
third_of_five false true c d e h = refl
third_of_five false false true d e h = refl
third_of_five false false false d e h = absurd (cc)

-- ---- what NULL stands for

-- what holds of the type of a place, and of a type, holds of the type that a value there is of
pub stands : (P : DataType → Type 0) (place a : DataType) → P place → P a → P (table.stands_for place a)
stands P place a p q = by_test (table.is_void a)
  where
    by_test : (t : Bool) → P (if t then place else a)
    by_test true = p
    by_test false = q

-- a condition stands for BOOLEAN
pub condition_stands : (a : DataType) → table.is_condition a ≡ true → table.stands_for kind.Boolean a ≡ kind.Boolean
condition_stands kind.Void h = refl
condition_stands kind.Boolean h = refl
condition_stands _ h = absurd (cc)

pub dated_stands : (a : DataType) → (table.is_dated a || table.is_void a) ≡ true
    → table.is_dated (table.stands_for kind.Date a) ≡ true
dated_stands kind.Void h = refl
dated_stands kind.Date h = refl
dated_stands kind.Timestamp h = refl
dated_stands _ h = absurd (cc)

pub string_stands : (a : DataType) → (table.is_string a || table.is_void a) ≡ true
    → table.stands_for kind.Str a ≡ kind.Str
string_stands kind.Void h = refl
string_stands kind.Str h = refl
string_stands _ h = absurd (cc)

pub boolean_is : (a : DataType) → table.is_boolean a ≡ true → a ≡ kind.Boolean
boolean_is kind.Boolean h = refl
boolean_is _ h = absurd (cc)

pub string_is : (a : DataType) → table.is_string a ≡ true → a ≡ kind.Str
string_is kind.Str h = refl
string_is _ h = absurd (cc)

-- what NULL stands for compares
meets_self : (a : DataType) → table.meets a a ≡ true
meets_self a =
    or_right (table.is_void a || table.is_void a) (table.are_comparable a a)
    (or_right (table.is_number a && table.is_number a) (table.is_same a a) (same_self a))

pub meets_stands : (a b : DataType) → table.meets a b ≡ true → table.meets a (table.stands_for a b) ≡ true
meets_stands a b h = stands (λ j. table.meets a j ≡ true) a b (meets_self a) h

-- ---- casts

pub castable_self : (a : DataType) → table.castable a a ≡ true
castable_self a = first_of_five (table.is_same a a) _ _ _ _ (same_self a)

pub castable_void : (k : DataType) → table.castable kind.Void k ≡ true
castable_void k = second_of_five (table.is_same kind.Void k) true _ _ _ refl

pub castable_stands : (place a : DataType) → table.castable a (table.stands_for place a) ≡ true
castable_stands place kind.Void = castable_void place
castable_stands place a = castable_self a

pub assignable_castable : (a b : DataType) → table.assignable a b ≡ true → table.castable a b ≡ true
assignable_castable a b h = by_same (table.is_same a b) refl h
  where
    others : Bool
    others = table.castable a b && not (table.is_string a) && not (table.is_binary a)

    by_same : (t : Bool) → table.is_same a b ≡ t → (t || others) ≡ true → table.castable a b ≡ true
    by_same true e f = first_of_five (table.is_same a b) _ _ _ _ e
    by_same false e f =
        let outer = and_parts (table.castable a b && not (table.is_string a)) (not (table.is_binary a)) f in
        (and_parts (table.castable a b) (not (table.is_string a)) outer.0).0

-- ---- the common type

-- a type whose values go into another
pub data Joins (x m : DataType) : Type 0 where
  same : x ≡ m → Joins x m
  void : x ≡ kind.Void → Joins x m
  numbers : table.is_number x ≡ true → table.is_number m ≡ true → Joins x m

joins_on : (x j m : DataType) → Joins x j → Joins j m → Joins x m
joins_on x j m (Joins.same e) q = subst (λ y. Joins y m) (sym e) q
joins_on x j m (Joins.void e) q = Joins.void e
joins_on x j m (Joins.numbers a b) (Joins.same e) = Joins.numbers a (subst (λ y. table.is_number y ≡ true) e b)
joins_on x j m (Joins.numbers a b) (Joins.void e) =
    absurd (let no : false ≡ true = subst (λ y. table.is_number y ≡ true) e b in cc)
joins_on x j m (Joins.numbers a b) (Joins.numbers c d) = Joins.numbers a d

pub joins_castable : (x m : DataType) → Joins x m → table.castable x m ≡ true
joins_castable x m (Joins.same e) = subst (λ y. table.castable x y ≡ true) e (castable_self x)
joins_castable x m (Joins.void e) = subst (λ y. table.castable y m ≡ true) (sym e) (castable_void m)
joins_castable x m (Joins.numbers a b) =
    third_of_five (table.is_same x m) (table.is_void x) _ _ _ (and_from (table.is_number x) (table.is_number m) a b)

-- a decimal type that is there
pub record IsDecimal (m : DataType) : Type 0 where
  pub number : table.is_number m ≡ true
  pub formed : IsWellFormed m

pub decimal_is : (p s : ℕ) (m : DataType) → table.decimal p s ≡ Some m → IsDecimal m
decimal_is p s m h = by_test (table.is_type (kind.Decimal p s)) refl h
  where
    by_test : (t : Bool) → table.is_type (kind.Decimal p s) ≡ t → (if t then Some (kind.Decimal p s) else None) ≡ Some m
        → IsDecimal m
    by_test true e f =
        let is : kind.Decimal p s ≡ m = cc in
        subst IsDecimal is (record { number = refl; formed = type_formed (kind.Decimal p s) e })
    by_test false e f = absurd (cc)

pub decimal_of : (p s : ℕ) (m : DataType) → table.decimal p s ≡ Some m → kind.Decimal p s ≡ m
decimal_of p s m h = by_test (table.is_type (kind.Decimal p s)) h
  where
    by_test : (t : Bool) → (if t then Some (kind.Decimal p s) else None) ≡ Some m → kind.Decimal p s ≡ m
    by_test true f = cc
    by_test false f = absurd (cc)

-- of two, one
pub wider_is : (P : DataType → Type 0) (a b : DataType) → P a → P b → P (table.wider a b)
wider_is P a b p q = by_test (nat_lt (table.digits a) (table.digits b))
  where
    by_test : (t : Bool) → P (if t then b else a)
    by_test true = q
    by_test false = p

abbrev wholes : DataType → DataType → ℕ
wholes a b = max (table.whole_digits a) (table.whole_digits b)

abbrev scales : DataType → DataType → ℕ
scales a b = max (table.places a) (table.places b)

pub record Joined (j k m : DataType) : Type 0 where
  pub first : Joins j m
  pub second : Joins k m
  pub formed : IsWellFormed j → IsWellFormed k → IsWellFormed m

common_joins : (j k m : DataType) → table.common j k ≡ Some m → Joined j k m
common_joins j k m h = by_same (table.is_same j k) refl h
  where
    of_numbers : Bool → Option DataType
    of_numbers t = if t then table.joint_type j k else None

    of_integers : Bool → Option DataType
    of_integers t = if t then Some (table.wider j k) else of_numbers (table.is_number j && table.is_number k)

    of_second : Bool → Option DataType
    of_second t = if t then Some j else of_integers (table.is_integer j && table.is_integer k)

    of_first : Bool → Option DataType
    of_first t = if t then Some k else of_second (table.is_void k)

    by_numbers : (t : Bool) → (table.is_number j && table.is_number k) ≡ t → of_numbers t ≡ Some m → Joined j k m
    by_numbers true e f =
        let two = and_parts (table.is_number j) (table.is_number k) e in
        let is = decimal_is (wholes j k + scales j k) (scales j k) m f in
        record {
          first = Joins.numbers two.0 is.number;
          second = Joins.numbers two.1 is.number;
          formed = λ a b. is.formed;
        }
    by_numbers false e f = absurd (cc)

    by_integers : (t : Bool) → (table.is_integer j && table.is_integer k) ≡ t → of_integers t ≡ Some m → Joined j k m
    by_integers true e f =
        let two = and_parts (table.is_integer j) (table.is_integer k) e in
        let is : table.wider j k ≡ m = cc in
        let number = subst (λ y. table.is_number y ≡ true) is
        (wider_is (λ y. table.is_number y ≡ true) j k (integer_number j two.0) (integer_number k two.1)) in
        record {
          first = Joins.numbers (integer_number j two.0) number;
          second = Joins.numbers (integer_number k two.1) number;
          formed = λ a b. subst IsWellFormed is (wider_is IsWellFormed j k a b);
        }
    by_integers false e f = by_numbers (table.is_number j && table.is_number k) refl f

    by_second : (t : Bool) → table.is_void k ≡ t → of_second t ≡ Some m → Joined j k m
    by_second true e f =
        let is : j ≡ m = cc in
        record { first = Joins.same is; second = Joins.void (void_is k e); formed = λ a b. subst IsWellFormed is a }
    by_second false e f = by_integers (table.is_integer j && table.is_integer k) refl f

    by_first : (t : Bool) → table.is_void j ≡ t → of_first t ≡ Some m → Joined j k m
    by_first true e f =
        let is : k ≡ m = cc in
        record { first = Joins.void (void_is j e); second = Joins.same is; formed = λ a b. subst IsWellFormed is b }
    by_first false e f = by_second (table.is_void k) refl f

    by_same : (t : Bool) → table.is_same j k ≡ t → (if t then Some j else of_first (table.is_void j)) ≡ Some m
        → Joined j k m
    by_same true e f =
        let is : j ≡ m = cc in
        record {
          first = Joins.same is;
          second = Joins.same (sym (same_is j k e) ∙ is);
          formed = λ a b. subst IsWellFormed is a;
        }
    by_same false e f = by_first (table.is_void j) refl f

pub record AllJoined (j : DataType) (ks : List DataType) (m : DataType) : Type 0 where
  pub first : Joins j m
  pub rest : AllByRecursion (λ k. Joins k m) ks
  pub formed : IsWellFormed j → AllByRecursion IsWellFormed ks → IsWellFormed m

no_common : (ks : List DataType) (m : DataType) → fold table.with_kind None ks ≡ Some m → ⊥
no_common [] m h = cc
no_common (k ∷ ks) m h = no_common ks m h

next_joins : (j k : DataType) (ks : List DataType) (m : DataType)
    → ((i : DataType) → fold table.with_kind (Some i) ks ≡ Some m → AllJoined i ks m)
    → fold table.with_kind (table.common j k) ks ≡ Some m → AllJoined j (k ∷ ks) m
next_joins j k ks m rest h = by_next (table.common j k) refl h
  where
    by_next : (n : Option DataType) → table.common j k ≡ n → fold table.with_kind n ks ≡ Some m → AllJoined j (k ∷ ks) m
    by_next (Some i) e f =
        let one = common_joins j k i e in
        let more = rest i f in
        record {
          first = joins_on j i m one.first more.first;
          rest = (joins_on k i m one.second more.first, more.rest);
          formed = λ a b. more.formed (one.formed a b.0) b.1;
        }
    by_next None e f = absurd (no_common ks m f)

common_all : (j : DataType) (ks : List DataType) (m : DataType) → fold table.with_kind (Some j) ks ≡ Some m
    → AllJoined j ks m
common_all j [] m h =
    let is : j ≡ m = cc in
    record { first = Joins.same is; rest = tt; formed = λ a b. subst IsWellFormed is a }
common_all j (k ∷ ks) m h = next_joins j k ks m (λ i f. common_all i ks m f) h

-- into the common type of a list each goes
pub common_joined : (ks : List DataType) (m : DataType) → table.common_of ks ≡ Some m → AllJoined kind.Void ks m
common_joined ks m h = common_all kind.Void ks m h

-- ---- operators

one_gives : (P : DataType → Type 0) (t : Bool) (found : Option DataType) (rest : Result DataType ℕ) (k : DataType)
    → ((j : DataType) → found ≡ Some j → P j) → (rest ≡ Ok k → P k)
    → ◌≡◌ {A = Result DataType ℕ} (if t then table.kept found else rest) (Ok k) → P k
one_gives P true (Some j) rest k f g e = let is : j ≡ k = cc in subst P is (f j refl)
one_gives P true None rest k f g e = absurd (cc)
one_gives P false found rest k f g e = g e

-- what holds of the type that each line gives
lines_give : (P : DataType → Type 0) (ls : List table.Line) (a b k : DataType)
    → AllByRecursion (λ l. (j : DataType) → l.gives a b ≡ Some j → P j) ls → table.by_lines ls a b ≡ Ok k → P k
lines_give P [] a b k h e = absurd (cc)
lines_give P (l ∷ ls) a b k h e =
    one_gives P (l.takes a b) (l.gives a b) (table.by_lines ls a b) k h.0 (λ f. lines_give P ls a b k h.1 f) e

module _ (a b : DataType) (u : IsWellFormed a) (v : IsWellFormed b) where
  abbrev GivesFormed : table.Line → Type 0
  GivesFormed l = (j : DataType) → l.gives a b ≡ Some j → IsWellFormed j

  wider_formed : (j : DataType) → table.the_wider a b ≡ Some j → IsWellFormed j
  wider_formed j h = let is : table.wider a b ≡ j = cc in subst IsWellFormed is (wider_is IsWellFormed a b u v)

  always_formed : (k : DataType) → IsWellFormed k → (j : DataType) → table.always k a b ≡ Some j → IsWellFormed j
  always_formed k w j h = let is : k ≡ j = cc in subst IsWellFormed is w

  sum_formed : (j : DataType) → table.sum_type a b ≡ Some j → IsWellFormed j
  sum_formed j h = (decimal_is (wholes a b + scales a b + 1) (scales a b) j h).formed

  product_formed : (j : DataType) → table.product_type a b ≡ Some j → IsWellFormed j
  product_formed j h =
      (decimal_is (table.digits a + table.digits b) (table.places a + table.places b) j h).formed

  all_formed : (operator : Operator) → AllByRecursion GivesFormed (table.lines_of operator)
  all_formed o.Plus = (wider_formed, (sum_formed, tt))
  all_formed o.Minus = (wider_formed, (sum_formed, tt))
  all_formed o.Times = (wider_formed, (product_formed, tt))
  all_formed o.Divide = (always_formed kind.Long tt, tt)
  all_formed o.Remainder = (wider_formed, tt)
  all_formed o.Concat = (always_formed kind.Str tt, tt)
  all_formed _ = (always_formed kind.Boolean tt, tt)

  -- the type of what an operator gives is there, where those of its operands are
  pub lines_formed : (operator : Operator) (k : DataType) → table.by_lines (table.lines_of operator) a b ≡ Ok k
      → IsWellFormed k
  lines_formed operator k e = lines_give IsWellFormed (table.lines_of operator) a b k (all_formed operator) e

-- an operator of one line takes what the line takes
pub line_takes : (takes : DataType → DataType → Bool) (always k a b : DataType)
    → table.by_lines (table.line takes (table.always always) ∷ []) a b ≡ Ok k → takes a b ≡ true
line_takes takes always k a b h = by_test (takes a b) refl h
  where
    by_test : (t : Bool) → takes a b ≡ t → ◌≡◌ {A = Result DataType ℕ} (if t then Ok always else Err 3) (Ok k)
        → takes a b ≡ true
    by_test true e f = e
    by_test false e f = absurd (cc)

-- the type in whose place NULL stands is there
pub wanted_formed : (operator : Operator) (k : DataType) → IsWellFormed k → IsWellFormed (table.wanted operator k)
wanted_formed o.Or k w = tt
wanted_formed o.And k w = tt
wanted_formed o.Concat k w = tt
wanted_formed _ k w = w
