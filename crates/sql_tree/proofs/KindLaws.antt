-- What a test of every kind shows of all tokens.
use Rattle.std.proofs.Common.{◌≡◌, ℕ, zero, suc, Bool, true, false, List, [], ◌∷◌, refl}
use Rattle.std.specs.Prelude.{◌&&◌, ◌||◌, not}
use Rattle.sql_tree.specs.declared.token.Kind.{Kind}
use Rattle.sql_tree.specs.declared.token.Kind.TheVariants.{Bad, Name, Whole, LargeWhole, Decimal, Text, TableText, Bytes, Table, TableChanges, Semicolon, Open, Close, Comma, Dot, Equal, NotEqual, Less, LessOrEqual, Greater, GreaterOrEqual, SameAs, Concat, Plus, Minus, Star, Percent, Alter, And, As, Between, By, Case, Cast, Check, Constraint, Create, Delete, Div, Else, End, False, From, In, Insert, Into, Is, Matched, Merge, Not, Null, On, Or, Select, Set, Show, TableWord, Then, To, True, Update, Using, Values, Verify, When, Where, Files, Identities, Rows, Feed, Version, Of, Partitioned, TblProperties, Generated, Always, Default, Identity, Start, With, Increment, Target, Source, Boolean, TinyInt, SmallInt, Int, BigInt, String, Binary, Date, Timestamp, DecimalWord, Enable, Row, Tracking, Add, Column, Rename, Drop, Optimize, Restore, Stats}
use Rattle.sql_tree.specs.declared.token.Token.{Token}
use Rattle.sql_tree.specs.declared.token.Span.{Span}

-- every kind
abbrev pub kinds : List Kind
kinds = Bad ∷ Name ∷ Whole ∷ LargeWhole ∷ Decimal ∷ Text ∷ TableText ∷ Bytes ∷ Table ∷ TableChanges ∷ Semicolon ∷ Open ∷ Close ∷ Comma ∷ Dot ∷ Equal ∷ NotEqual ∷ Less ∷ LessOrEqual ∷ Greater ∷ GreaterOrEqual ∷ SameAs ∷ Concat ∷ Plus ∷ Minus ∷ Star ∷ Percent ∷ Alter ∷ And ∷ As ∷ Between ∷ By ∷ Case ∷ Cast ∷ Check ∷ Constraint ∷ Create ∷ Delete ∷ Div ∷ Else ∷ End ∷ False ∷ From ∷ In ∷ Insert ∷ Into ∷ Is ∷ Matched ∷ Merge ∷ Not ∷ Null ∷ On ∷ Or ∷ Select ∷ Set ∷ Show ∷ TableWord ∷ Then ∷ To ∷ True ∷ Update ∷ Using ∷ Values ∷ Verify ∷ When ∷ Where ∷ Files ∷ Identities ∷ Rows ∷ Feed ∷ Version ∷ Of ∷ Partitioned ∷ TblProperties ∷ Generated ∷ Always ∷ Default ∷ Identity ∷ Start ∷ With ∷ Increment ∷ Target ∷ Source ∷ Boolean ∷ TinyInt ∷ SmallInt ∷ Int ∷ BigInt ∷ String ∷ Binary ∷ Date ∷ Timestamp ∷ DecimalWord ∷ Enable ∷ Row ∷ Tracking ∷ Add ∷ Column ∷ Rename ∷ Drop ∷ Optimize ∷ Restore ∷ Stats ∷ []

-- each of these kinds passes a test
abbrev pub every : List Kind → (Kind → Bool) → Bool
every [] p = true
every (k ∷ ks) p = p k && every ks p

abbrev nth : ℕ → List Kind → Kind
nth n [] = Bad
nth zero (k ∷ ks) = k
nth (suc n) (k ∷ ks) = nth n ks

both_true : (p q : Bool) → (p && q) ≡ true → (p ≡ true) × (q ≡ true)
both_true true q h = (refl, h)
both_true false q h = absurd (cc)

past : (k : Kind) (ks : List Kind) (p : Kind → Bool) → every (k ∷ ks) p ≡ true → every ks p ≡ true
past k ks p h = (both_true (p k) (every ks p) h).1

-- the fact at the place n, or at the first kind where the list is shorter
reach : (n : ℕ) (ks : List Kind) (p : Kind → Bool) → p Bad ≡ true → every ks p ≡ true → p (nth n ks) ≡ true
reach n [] p b h = b
reach zero (k ∷ ks) p b h = (both_true (p k) (every ks p) h).0
reach (suc n) (k ∷ ks) p b h = reach n ks p b (past k ks p h)

first_of_all : (p : Kind → Bool) → every kinds p ≡ true → p Bad ≡ true
first_of_all p h = (both_true (p Bad) _ h).0

-- a test that each kind of the list passes is passed by every kind
pub at_each : (p : Kind → Bool) → every kinds p ≡ true → (k : Kind) → p k ≡ true
at_each p h Bad = reach 0 kinds p (first_of_all p h) h
at_each p h Name = reach 1 kinds p (first_of_all p h) h
at_each p h Whole = reach 2 kinds p (first_of_all p h) h
at_each p h LargeWhole = reach 3 kinds p (first_of_all p h) h
at_each p h Decimal = reach 4 kinds p (first_of_all p h) h
at_each p h Text = reach 5 kinds p (first_of_all p h) h
at_each p h TableText = reach 6 kinds p (first_of_all p h) h
at_each p h Bytes = reach 7 kinds p (first_of_all p h) h
at_each p h Table = reach 8 kinds p (first_of_all p h) h
at_each p h TableChanges = reach 9 kinds p (first_of_all p h) h
at_each p h Semicolon = reach 10 kinds p (first_of_all p h) h
at_each p h Open = reach 11 kinds p (first_of_all p h) h
at_each p h Close = reach 12 kinds p (first_of_all p h) h
at_each p h Comma = reach 13 kinds p (first_of_all p h) h
at_each p h Dot = reach 14 kinds p (first_of_all p h) h
at_each p h Equal = reach 15 kinds p (first_of_all p h) h
at_each p h NotEqual = reach 16 kinds p (first_of_all p h) h
at_each p h Less = reach 17 kinds p (first_of_all p h) h
at_each p h LessOrEqual = reach 18 kinds p (first_of_all p h) h
at_each p h Greater = reach 19 kinds p (first_of_all p h) h
at_each p h GreaterOrEqual = reach 20 kinds p (first_of_all p h) h
at_each p h SameAs = reach 21 kinds p (first_of_all p h) h
at_each p h Concat = reach 22 kinds p (first_of_all p h) h
at_each p h Plus = reach 23 kinds p (first_of_all p h) h
at_each p h Minus = reach 24 kinds p (first_of_all p h) h
at_each p h Star = reach 25 kinds p (first_of_all p h) h
at_each p h Percent = reach 26 kinds p (first_of_all p h) h
at_each p h Alter = reach 27 kinds p (first_of_all p h) h
at_each p h And = reach 28 kinds p (first_of_all p h) h
at_each p h As = reach 29 kinds p (first_of_all p h) h
at_each p h Between = reach 30 kinds p (first_of_all p h) h
at_each p h By = reach 31 kinds p (first_of_all p h) h
at_each p h Case = reach 32 kinds p (first_of_all p h) h
at_each p h Cast = reach 33 kinds p (first_of_all p h) h
at_each p h Check = reach 34 kinds p (first_of_all p h) h
at_each p h Constraint = reach 35 kinds p (first_of_all p h) h
at_each p h Create = reach 36 kinds p (first_of_all p h) h
at_each p h Delete = reach 37 kinds p (first_of_all p h) h
at_each p h Div = reach 38 kinds p (first_of_all p h) h
at_each p h Else = reach 39 kinds p (first_of_all p h) h
at_each p h End = reach 40 kinds p (first_of_all p h) h
at_each p h False = reach 41 kinds p (first_of_all p h) h
at_each p h From = reach 42 kinds p (first_of_all p h) h
at_each p h In = reach 43 kinds p (first_of_all p h) h
at_each p h Insert = reach 44 kinds p (first_of_all p h) h
at_each p h Into = reach 45 kinds p (first_of_all p h) h
at_each p h Is = reach 46 kinds p (first_of_all p h) h
at_each p h Matched = reach 47 kinds p (first_of_all p h) h
at_each p h Merge = reach 48 kinds p (first_of_all p h) h
at_each p h Not = reach 49 kinds p (first_of_all p h) h
at_each p h Null = reach 50 kinds p (first_of_all p h) h
at_each p h On = reach 51 kinds p (first_of_all p h) h
at_each p h Or = reach 52 kinds p (first_of_all p h) h
at_each p h Select = reach 53 kinds p (first_of_all p h) h
at_each p h Set = reach 54 kinds p (first_of_all p h) h
at_each p h Show = reach 55 kinds p (first_of_all p h) h
at_each p h TableWord = reach 56 kinds p (first_of_all p h) h
at_each p h Then = reach 57 kinds p (first_of_all p h) h
at_each p h To = reach 58 kinds p (first_of_all p h) h
at_each p h True = reach 59 kinds p (first_of_all p h) h
at_each p h Update = reach 60 kinds p (first_of_all p h) h
at_each p h Using = reach 61 kinds p (first_of_all p h) h
at_each p h Values = reach 62 kinds p (first_of_all p h) h
at_each p h Verify = reach 63 kinds p (first_of_all p h) h
at_each p h When = reach 64 kinds p (first_of_all p h) h
at_each p h Where = reach 65 kinds p (first_of_all p h) h
at_each p h Files = reach 66 kinds p (first_of_all p h) h
at_each p h Identities = reach 67 kinds p (first_of_all p h) h
at_each p h Rows = reach 68 kinds p (first_of_all p h) h
at_each p h Feed = reach 69 kinds p (first_of_all p h) h
at_each p h Version = reach 70 kinds p (first_of_all p h) h
at_each p h Of = reach 71 kinds p (first_of_all p h) h
at_each p h Partitioned = reach 72 kinds p (first_of_all p h) h
at_each p h TblProperties = reach 73 kinds p (first_of_all p h) h
at_each p h Generated = reach 74 kinds p (first_of_all p h) h
at_each p h Always = reach 75 kinds p (first_of_all p h) h
at_each p h Default = reach 76 kinds p (first_of_all p h) h
at_each p h Identity = reach 77 kinds p (first_of_all p h) h
at_each p h Start = reach 78 kinds p (first_of_all p h) h
at_each p h With = reach 79 kinds p (first_of_all p h) h
at_each p h Increment = reach 80 kinds p (first_of_all p h) h
at_each p h Target = reach 81 kinds p (first_of_all p h) h
at_each p h Source = reach 82 kinds p (first_of_all p h) h
at_each p h Boolean = reach 83 kinds p (first_of_all p h) h
at_each p h TinyInt = reach 84 kinds p (first_of_all p h) h
at_each p h SmallInt = reach 85 kinds p (first_of_all p h) h
at_each p h Int = reach 86 kinds p (first_of_all p h) h
at_each p h BigInt = reach 87 kinds p (first_of_all p h) h
at_each p h String = reach 88 kinds p (first_of_all p h) h
at_each p h Binary = reach 89 kinds p (first_of_all p h) h
at_each p h Date = reach 90 kinds p (first_of_all p h) h
at_each p h Timestamp = reach 91 kinds p (first_of_all p h) h
at_each p h DecimalWord = reach 92 kinds p (first_of_all p h) h
at_each p h Enable = reach 93 kinds p (first_of_all p h) h
at_each p h Row = reach 94 kinds p (first_of_all p h) h
at_each p h Tracking = reach 95 kinds p (first_of_all p h) h
at_each p h Add = reach 96 kinds p (first_of_all p h) h
at_each p h Column = reach 97 kinds p (first_of_all p h) h
at_each p h Rename = reach 98 kinds p (first_of_all p h) h
at_each p h Drop = reach 99 kinds p (first_of_all p h) h
at_each p h Optimize = reach 100 kinds p (first_of_all p h) h
at_each p h Restore = reach 101 kinds p (first_of_all p h) h
at_each p h Stats = reach 102 kinds p (first_of_all p h) h

implied : (p q : Bool) → (not (p && q)) ≡ true → p ≡ true → q ≡ false
implied true true h e = absurd (cc)
implied true false h e = refl
implied false q h e = absurd (cc)

-- no token is in both sets, by a test of each kind
pub apart : (p q : Token → Bool) → ((s : Span) → every kinds (λ k. not (p (record { kind = k; span = s }) && q (record { kind = k; span = s }))) ≡ true) → (t : Token) → p t ≡ true → q t ≡ false
apart p q h t = implied (p t) (q t) (at_each (λ k. not (p (record { kind = k; span = t.span }) && q (record { kind = k; span = t.span }))) (h t.span) t.kind)

held : (p q : Bool) → (not p || q) ≡ true → q ≡ false → p ≡ false
held true q h e = absurd (cc)
held false q h e = refl

-- each token of the first set is in the second, by a test of each kind
pub among : (p q : Token → Bool) → ((s : Span) → every kinds (λ k. not (p (record { kind = k; span = s })) || q (record { kind = k; span = s })) ≡ true) → (t : Token) → q t ≡ false → p t ≡ false
among p q h t = held (p t) (q t) (at_each (λ k. not (p (record { kind = k; span = t.span })) || q (record { kind = k; span = t.span })) (h t.span) t.kind)
