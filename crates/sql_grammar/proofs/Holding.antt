-- Each form holds what its parts hold.
use Rattle.std.proofs.Common.{◌≡◌, ◌<◌, ◌^◌, ℕ, Bool, true, false, List, [], ◌∷◌, length, refl, ap, subst, arith}
use Rattle.std.specs.Prelude.{◌&&◌, ◌||◌, if◌then◌else◌, nat_le, nat_lt, map, Option, Some, None, IfSome, IsSome, unwrap_or}
use Rattle.std.specs.List.{AllByRecursion}
use Rattle.std.proofs.lemmas.Bool.{lt-ltb}
use Rattle.dm_types.specs.declared.value.DataType.TheVariants as d
use Rattle.sql_tree.specs.Places.{slice, IsPlaced}
use Rattle.sql_tree.specs.Spans.{Layer, span_at, span_of}
use Rattle.sql_tree.specs.Kinds.{is, names, names_alone, dates, is_value, is_table, is_text}
use Rattle.sql_tree.specs.declared.token.Kind.{Kind}
use Rattle.sql_tree.specs.declared.token.Kind.TheVariants as k
use Rattle.sql_tree.specs.declared.token.Token.{Token}
use Rattle.sql_tree.specs.declared.token.Span.{Span}
use Rattle.sql_tree.specs.declared.tree.Number.{Number}
use Rattle.sql_tree.specs.declared.tree.WrittenKind.TheVariants as w
use Rattle.sql_tree.specs.declared.tree.WrittenType.{WrittenType}
use Rattle.sql_tree.specs.declared.tree.Expr.{Expr, out-Expr}
use Rattle.sql_tree.specs.declared.tree.Expr.TheFolds.{every_here-Expr, every_made-Expr}
use Rattle.sql_tree.specs.declared.tree.Expr.TheOpen.{Expr-F}
use Rattle.sql_tree.specs.declared.tree.Expr.TheVariants as e
use Rattle.sql_tree.specs.declared.tree.Expr.TheVariants.{rolls-Literal, rolls-Column, rolls-Group, rolls-Unary, rolls-Binary, rolls-Is, rolls-Between, rolls-In, rolls-Case, rolls-Cast, rolls-Call}
use Rattle.sql_lex.specs.Content.{Means, name_of, table_of, text_of, bytes_of, number_of, is_number, precision, scale}
use Rattle.sql_lex.specs.Numbers.{unscaled}
use Rattle.sql_lex.specs.Stand.{IsPart}
use Rattle.sql_grammar.specs.Tree as tree
use Rattle.sql_grammar.specs.Held.{HoldsName, HoldsTable, HoldsText, HoldsNumber, HoldsVersion, HoldsLiteral, HoldsNumbers, HoldsType, HoldsNode, HoldsExpr}

-- ---- content that is there

some_is : {A : Type 0} (o : Option A) (other : A) → IsSome o → o ≡ Some (unwrap_or o other)
some_is (Some a) other h = refl
some_is None other h = absurd (cc)

-- a token's bytes are what its kind says, and it stands in the script
pub record Stands (script : List ℕ) (t : Token) : Type 0 where
  pub means : Means t.kind (slice script t.span)
  pub part : IsPart (length script) t.span

pub placed : (size : ℕ) (s : Span) → IsPart size s → IsPlaced size s
placed size s part = record { starts = omega (arith, part.some, part.within); ends = part.within }

-- from the beginning of a part to the end of another
pub joined_place : (size : ℕ) (a b : Span) → IsPlaced size a → IsPlaced size b → IsPlaced size (tree.to a b)
joined_place size a b x y = record { starts = x.starts; ends = y.ends }

name_means : (kind : Kind) (z : List ℕ) → names kind ≡ true → Means kind z → IsSome (name_of z)
name_means k.Whole z h m = absurd (cc)
name_means k.LargeWhole z h m = absurd (cc)
name_means k.Decimal z h m = absurd (cc)
name_means k.Text z h m = absurd (cc)
name_means k.TableText z h m = absurd (cc)
name_means k.Bytes z h m = absurd (cc)
name_means k.Table z h m = absurd (cc)
name_means k.TableChanges z h m = absurd (cc)
name_means _ z h m = m h

table_means : (kind : Kind) (z : List ℕ) → is_table kind ≡ true → Means kind z → IsSome (table_of z)
table_means k.Table z h m = m
table_means k.TableChanges z h m = m
table_means _ z h m = absurd (cc)

text_means : (kind : Kind) (z : List ℕ) → is_text kind ≡ true → Means kind z → IsSome (text_of z)
text_means k.Text z h m = m
text_means k.TableText z h m = m
text_means _ z h m = absurd (cc)

whole_means : (kind : Kind) (z : List ℕ) → is k.Whole (record { kind = kind; span = record { start = 0; «end» = 0 } }) ≡ true → Means kind z → IsSome (number_of z)
whole_means k.Whole z h m = m.0
whole_means _ z h m = absurd (cc)

number_below : (found : Bool) (n other : Number) → IsSome (if found then Some n else None) → n.unscaled < 2 ^ 63 → (unwrap_or (if found then Some n else None) other).unscaled < 2 ^ 63
number_below true n other h below = below
number_below false n other h below = absurd (cc)

whole_below : (kind : Kind) (z : List ℕ) (other : Number) → is k.Whole (record { kind = kind; span = record { start = 0; «end» = 0 } }) ≡ true → Means kind z → (unwrap_or (number_of z) other).unscaled < 2 ^ 63
whole_below k.Whole z other h m = number_below (is_number z) (record { unscaled = unscaled z; precision = precision z; scale = scale z }) other m.0 m.1
whole_below _ z other h m = absurd (cc)

-- a number below the limit is kept
kept_below : (n limit : ℕ) → n < limit → n ≡ (if nat_lt n limit then n else 0)
kept_below n limit below = rw (lt-ltb n limit below) refl

literal_means : (script : List ℕ) (kind : Kind) (s : Span) → is_value kind ≡ true → Means kind (slice script s) → HoldsLiteral script s (tree.literal_of script kind s)
literal_means script k.Whole s h m = some_is (number_of (slice script s)) _ m.0
literal_means script k.LargeWhole s h m = some_is (number_of (slice script s)) _ m
literal_means script k.Decimal s h m = some_is (number_of (slice script s)) _ m
literal_means script k.Text s h m = some_is (text_of (slice script s)) _ m
literal_means script k.TableText s h m = some_is (text_of (slice script s)) _ m
literal_means script k.Bytes s h m = some_is (bytes_of (slice script s)) _ m
literal_means script k.Null s h m = tt
literal_means script k.True s h m = tt
literal_means script k.False s h m = tt
literal_means script _ s h m = absurd (cc)

or_right : (p q : Bool) → q ≡ true → (p || q) ≡ true
or_right true q h = refl
or_right false q h = h

or_left : (p q : Bool) → p ≡ true → (p || q) ≡ true
or_left true q h = refl
or_left false q h = absurd (cc)

module _ (script : List ℕ) where
  pub name_held : (t : Token) → Stands script t → names t.kind ≡ true → HoldsName script (tree.name_at script t.span)
  name_held t x h = record { part = x.part; means = some_is (name_of (slice script t.span)) [] (name_means t.kind (slice script t.span) h x.means) }

  pub alone_named : (kind : Kind) → names_alone kind ≡ true → names kind ≡ true
  alone_named kind h = or_right (dates kind) (names_alone kind) h

  pub date_named : (kind : Kind) → dates kind ≡ true → names kind ≡ true
  date_named kind h = or_left (dates kind) (names_alone kind) h

  pub table_held : (t : Token) → Stands script t → is_table t.kind ≡ true → HoldsTable script (tree.table_at script t.span)
  table_held t x h = record { part = x.part; means = some_is (table_of (slice script t.span)) [] (table_means t.kind (slice script t.span) h x.means) }

  pub text_held : (t : Token) → Stands script t → is_text t.kind ≡ true → HoldsText script t.span (tree.text_at script t.span)
  text_held t x h = record { part = x.part; means = some_is (text_of (slice script t.span)) [] (text_means t.kind (slice script t.span) h x.means) }

  number_held : (t : Token) → Stands script t → is k.Whole t ≡ true → HoldsNumber script (tree.number_at script t.span).unscaled
  number_held t x h = record {
    place = t.span;
    number = tree.number_at script t.span;
    part = x.part;
    means = some_is (number_of (slice script t.span)) _ (whole_means t.kind (slice script t.span) h x.means);
    unscaled = refl;
  }

  pub version_held : (t : Token) → Stands script t → is k.Whole t ≡ true → HoldsVersion script (tree.version script t)
  version_held t x h =
      let n = (tree.number_at script t.span).unscaled in
      let below : n < 2 ^ 63 = whole_below t.kind (slice script t.span) (record { unscaled = 0; precision = 1; scale = 0 }) h x.means in
      subst (HoldsVersion script) (kept_below n (2 ^ 63) below) (record { number = number_held t x h; below = below })

  -- ---- types

  plain_numbers : (kind : Kind) → HoldsNumbers script (tree.plain_type_of kind)
  plain_numbers k.Boolean = tt
  plain_numbers k.TinyInt = tt
  plain_numbers k.SmallInt = tt
  plain_numbers k.Int = tt
  plain_numbers k.BigInt = tt
  plain_numbers k.String = tt
  plain_numbers k.Binary = tt
  plain_numbers k.Date = tt
  plain_numbers _ = tt

  pub plain_held : (t : Token) → Stands script t → HoldsType script (tree.plain_type t)
  plain_held t x = record { placed = placed (length script) t.span x.part; numbers = plain_numbers t.kind }

  decimal_numbers : (p s : ℕ) → HoldsNumber script p → HoldsNumber script s → HoldsNumbers script (tree.decimal_of p s)
  decimal_numbers p s x y =
      elim (nat_le 1 p && (nat_le p 38 && nat_le s p)) as (λ v. HoldsNumbers script (if v then w.Type (d.Decimal p s) else w.BadDecimal p s)) [ true ↦ (x, y) | false ↦ (x, y) ]

  pub decimal_held : (word bracket p comma s close : Token) → Stands script word → Stands script p → is k.Whole p ≡ true → Stands script s → is k.Whole s ≡ true → Stands script close
      → HoldsType script (tree.decimal_type script (word, (bracket, (p, (comma, (s, close))))))
  decimal_held word bracket p comma s close a b whole c whole' e = record {
    placed = joined_place (length script) word.span close.span (placed (length script) word.span a.part) (placed (length script) close.span e.part);
    numbers = decimal_numbers (tree.number_at script p.span).unscaled (tree.number_at script s.span).unscaled (number_held p b whole) (number_held s c whole');
  }

  -- ---- expressions

  abbrev Held : Type 0
  Held = (x : Expr) × HoldsExpr script x

  layer_placed : (layer : Layer) → HoldsNode script layer → IsPlaced (length script) (span_at layer)
  layer_placed (Expr-F.Literal s v) h = h.0
  layer_placed (Expr-F.Column s q n) h = h.0
  layer_placed (Expr-F.Group s x) h = h
  layer_placed (Expr-F.Unary s p at x) h = h.0
  layer_placed (Expr-F.Binary s o at x y) h = h.0
  layer_placed (Expr-F.Is s t not at x) h = h.0
  layer_placed (Expr-F.Between s not at x y z) h = h.0
  layer_placed (Expr-F.In s not at x ys) h = h.0
  layer_placed (Expr-F.Case s at bs x) h = h.0
  layer_placed (Expr-F.Cast s at x wanted) h = h.0
  layer_placed (Expr-F.Call s n xs) h = h.0

  pub expr_placed : (x : Expr) → HoldsExpr script x → IsPlaced (length script) (span_of x)
  expr_placed x h = layer_placed (out-Expr x) (every_here-Expr (HoldsNode script) x h)

  -- lists of expressions that are held
  held_all : (xs : List Expr) → AllByRecursion (HoldsExpr script) xs → List Held
  held_all [] h = []
  held_all (x ∷ xs) h = (x, h.0) ∷ held_all xs h.1

  -- a branch of CASE
  abbrev pub HoldsBranch : Expr × Expr → Type 0
  HoldsBranch p = HoldsExpr script p.0 × HoldsExpr script p.1

  held_back : (xs : List Expr) (hs : AllByRecursion (HoldsExpr script) xs) → map (λ (x : Held). x.0) (held_all xs hs) ≡ xs
  unfolding held_all
  held_back [] hs = refl
  held_back (x ∷ xs) hs = ap (λ ys. x ∷ ys) (held_back xs hs.1)

  held_pairs : (bs : List (Expr × Expr)) → AllByRecursion HoldsBranch bs → List (Held × Held)
  held_pairs [] h = []
  held_pairs (b ∷ bs) h = ((b.0, h.0.0), (b.1, h.0.1)) ∷ held_pairs bs h.1

  pairs_back : (bs : List (Expr × Expr)) (hs : AllByRecursion HoldsBranch bs) → map (λ (p : Held × Held). (p.0.0, p.1.0)) (held_pairs bs hs) ≡ bs
  unfolding held_pairs
  pairs_back [] hs = refl
  pairs_back (b ∷ bs) hs = ap (λ ys. b ∷ ys) (pairs_back bs hs.1)

  held_some : (o : Option Expr) → IfSome o (HoldsExpr script) → Option Held
  held_some None h = None
  held_some (Some x) h = Some (x, h)

  pub in_held : (s at : Span) (not : Bool) (x : Expr) (xs : List Expr) → IsPlaced (length script) s → IsPlaced (length script) at → HoldsExpr script x → AllByRecursion (HoldsExpr script) xs
      → HoldsExpr script (e.In s not at x xs)
  in_held s at not x xs p q h hs =
      subst (HoldsExpr script) (rolls-In s not at x xs)
      (every_made-Expr (HoldsNode script) (Expr-F.In s not at x xs) (Expr-F.In s not at (x, h) (held_all xs hs)) (ap (λ ys. Expr-F.In s not at x ys) (held_back xs hs)) (p, q))

  pub case_held : (s at : Span) (bs : List (Expr × Expr)) (y : Option Expr) → IsPlaced (length script) s → IsPart (length script) at → AllByRecursion HoldsBranch bs → IfSome y (HoldsExpr script)
      → HoldsExpr script (e.Case s at bs y)
  unfolding held_some
  case_held s at bs None p q hs h =
      subst (HoldsExpr script) (rolls-Case s at bs None)
      (every_made-Expr (HoldsNode script) (Expr-F.Case s at bs None) (Expr-F.Case s at (held_pairs bs hs) None) (ap (λ ys. Expr-F.Case s at ys None) (pairs_back bs hs)) (p, q))
  case_held s at bs (Some x) p q hs h =
      subst (HoldsExpr script) (rolls-Case s at bs (Some x))
      (every_made-Expr (HoldsNode script) (Expr-F.Case s at bs (Some x)) (Expr-F.Case s at (held_pairs bs hs) (Some (x, h))) (ap (λ ys. Expr-F.Case s at ys (Some x)) (pairs_back bs hs)) (p, q))

  pub group_held : (s : Span) (x : Expr) → IsPlaced (length script) s → HoldsExpr script x → HoldsExpr script (e.Group s x)
  group_held s x p h = subst (HoldsExpr script) (rolls-Group s x) (every_made-Expr (HoldsNode script) (Expr-F.Group s x) (Expr-F.Group s (x, h)) refl p)

  pub literal_held : (t : Token) → Stands script t → is_value t.kind ≡ true → HoldsExpr script (tree.literal script t)
  literal_held t x h =
      let v = tree.literal_of script t.kind t.span in
      subst (HoldsExpr script) (rolls-Literal t.span v)
      (every_made-Expr (HoldsNode script) (Expr-F.Literal t.span v) (Expr-F.Literal t.span v) refl (placed (length script) t.span x.part, literal_means script t.kind t.span h x.means))

  pub unary_held : (s at : Span) (t : Token) (x : Expr) → IsPlaced (length script) s → IsPart (length script) at → HoldsExpr script x → HoldsExpr script (e.Unary s (tree.prefix_of t.kind) at x)
  unary_held s at t x p q h =
      let o = tree.prefix_of t.kind in
      subst (HoldsExpr script) (rolls-Unary s o at x) (every_made-Expr (HoldsNode script) (Expr-F.Unary s o at x) (Expr-F.Unary s o at (x, h)) refl (p, q))

  -- a sign or NOT before an operand
  pub prefixed_held : (t : Token) (x : Expr) → Stands script t → HoldsExpr script x → HoldsExpr script (tree.prefixed t x)
  prefixed_held t x p h = unary_held (tree.to t.span (span_of x)) t.span t x (joined_place (length script) t.span (span_of x) (placed (length script) t.span p.part) (expr_placed x h)) p.part h

  -- an operator between its operands
  pub joined_held : (x : Expr) (t : Token) (y : Expr) → HoldsExpr script x → Stands script t → HoldsExpr script y → HoldsExpr script (tree.joined x (t, y))
  joined_held x t y h p h' =
      let s = tree.to (span_of x) (span_of y) in
      let o = tree.operator_of t.kind in
      subst (HoldsExpr script) (rolls-Binary s o t.span x y)
      (every_made-Expr (HoldsNode script) (Expr-F.Binary s o t.span x y) (Expr-F.Binary s o t.span (x, h) (y, h')) refl
      (joined_place (length script) (span_of x) (span_of y) (expr_placed x h) (expr_placed y h'), p.part))

  pub is_held : (x : Expr) (word truth : Token) (not : Bool) → HoldsExpr script x → Stands script word → Stands script truth
      → HoldsExpr script (e.Is (tree.to (span_of x) truth.span) (tree.truth_of truth.kind) not (tree.to word.span truth.span) x)
  is_held x word truth not h p q =
      let end = placed (length script) truth.span q.part in
      let s = tree.to (span_of x) truth.span in
      let at = tree.to word.span truth.span in
      let u = tree.truth_of truth.kind in
      subst (HoldsExpr script) (rolls-Is s u not at x)
      (every_made-Expr (HoldsNode script) (Expr-F.Is s u not at x) (Expr-F.Is s u not at (x, h)) refl
      (joined_place (length script) (span_of x) truth.span (expr_placed x h) end, joined_place (length script) word.span truth.span (placed (length script) word.span p.part) end))

  pub not_placed : (not : Option Token) (t : Token) → IfSome not (Stands script) → Stands script t → IsPlaced (length script) (tree.with_not not t)
  not_placed None t n p = placed (length script) t.span p.part
  not_placed (Some u) t n p = joined_place (length script) u.span t.span (placed (length script) u.span n.part) (placed (length script) t.span p.part)

  pub between_held : (x y z : Expr) (at : Span) (not : Bool) → HoldsExpr script x → HoldsExpr script y → HoldsExpr script z → IsPlaced (length script) at
      → HoldsExpr script (e.Between (tree.to (span_of x) (span_of z)) not at x y z)
  between_held x y z at not h h' h'' q =
      let s = tree.to (span_of x) (span_of z) in
      subst (HoldsExpr script) (rolls-Between s not at x y z)
      (every_made-Expr (HoldsNode script) (Expr-F.Between s not at x y z) (Expr-F.Between s not at (x, h) (y, h') (z, h'')) refl
      (joined_place (length script) (span_of x) (span_of z) (expr_placed x h) (expr_placed z h''), q))

  pub cast_held : (s at : Span) (x : Expr) (t : WrittenType) → IsPlaced (length script) s → IsPart (length script) at → HoldsExpr script x → HoldsType script t → HoldsExpr script (e.Cast s at x t)
  cast_held s at x t p q h r =
      subst (HoldsExpr script) (rolls-Cast s at x t) (every_made-Expr (HoldsNode script) (Expr-F.Cast s at x t) (Expr-F.Cast s at (x, h) t) refl (p, q, r))

  -- ---- names

  pub column_held : (t : Token) → Stands script t → names t.kind ≡ true → HoldsExpr script (tree.column script t)
  column_held t p h =
      let n = tree.name_at script t.span in
      subst (HoldsExpr script) (rolls-Column t.span None n)
      (every_made-Expr (HoldsNode script) (Expr-F.Column t.span None n) (Expr-F.Column t.span None n) refl (placed (length script) t.span p.part, tt, name_held t p h))

  pub qualified_held : (dot t name : Token) → Stands script t → names t.kind ≡ true → Stands script name → names name.kind ≡ true → HoldsExpr script (tree.qualified script (dot, t) name)
  qualified_held dot t name p h p' h' =
      let s = tree.to name.span t.span in
      let q = tree.name_at script name.span in
      let n = tree.name_at script t.span in
      subst (HoldsExpr script) (rolls-Column s (Some q) n)
      (every_made-Expr (HoldsNode script) (Expr-F.Column s (Some q) n) (Expr-F.Column s (Some q) n) refl
      (joined_place (length script) name.span t.span (placed (length script) name.span p'.part) (placed (length script) t.span p.part), name_held name p' h', name_held t p h))

  pub call_held : (name close : Token) (xs : List Expr) → Stands script name → names name.kind ≡ true → Stands script close → AllByRecursion (HoldsExpr script) xs
      → HoldsExpr script (e.Call (tree.to name.span close.span) (tree.name_at script name.span) xs)
  call_held name close xs p h q hs =
      let s = tree.to name.span close.span in
      let n = tree.name_at script name.span in
      subst (HoldsExpr script) (rolls-Call s n xs)
      (every_made-Expr (HoldsNode script) (Expr-F.Call s n xs) (Expr-F.Call s n (held_all xs hs)) (ap (λ ys. Expr-F.Call s n ys) (held_back xs hs))
      (joined_place (length script) name.span close.span (placed (length script) name.span p.part) (placed (length script) close.span q.part), name_held name p h))

  date_means : (kind : Kind) (text : Token) → Stands script text → is_text text.kind ≡ true → HoldsLiteral script (tree.to text.span text.span) (tree.date_of script kind text.span)
  date_means k.Date text p h = text_held text p h
  date_means _ text p h = text_held text p h

  date_apart : (kind : Kind) (a b text : Span) → HoldsLiteral script a (tree.date_of script kind text) → HoldsLiteral script b (tree.date_of script kind text)
  date_apart k.Date a b text h = h
  date_apart _ a b text h = h

  pub dated_held : (text word : Token) → Stands script text → is_text text.kind ≡ true → Stands script word → HoldsExpr script (tree.dated script text word)
  dated_held text word p h q =
      let s = tree.to word.span text.span in
      let v = tree.date_of script word.kind text.span in
      subst (HoldsExpr script) (rolls-Literal s v)
      (every_made-Expr (HoldsNode script) (Expr-F.Literal s v) (Expr-F.Literal s v) refl (
        joined_place (length script) word.span text.span (placed (length script) word.span q.part) (placed (length script) text.span p.part),
        date_apart word.kind (tree.to text.span text.span) s text.span (date_means word.kind text p h),
      ))
