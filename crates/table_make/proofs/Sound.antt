-- What a definition without faults gives.
use Rattle.std.proofs.Common.{◌≡◌, ℕ, zero, suc, ◌<◌, ◌≤◌, min, List, [], ◌∷◌, ◌++◌, map, drop, take, length, Bool, true, false, not, ◌&&◌, ◌||◌, codes, Option, Some, None, Ok, refl, ap, sym, ◌∙◌, subst, arith, append_assoc}
use Rattle.std.specs.Prelude.{IfSome, is_some}
use Rattle.std.specs.List.{AllByRecursion, IsDistinct, cons_option, filter_map, list_all, list_any, reduce}
use Rattle.std.specs.Str.{bytes_eq, str_eq_ignore_ascii_case, str_to_ascii_lowercase}
use Rattle.std.proofs.lemmas.Bool.Decides.{same_from_decides}
use Rattle.std.proofs.lemmas.List.Elements.{recursion_from_All, All-from_recursion}
use Rattle.std.proofs.lemmas.List.{map-append}
use Rattle.std.proofs.lemmas.List.Folds.{list_any-append}
use Rattle.std.proofs.lemmas.Slice.Eq.{bytes_eq-Decides}
use Rattle.delta_schema.specs.Columns.{is_binary as is_binary_type, is_long as is_long_type}
use Rattle.delta_schema.specs.Metadata.{is_zero}
use Rattle.delta_schema.specs.Names.{has_twins}
use Rattle.delta_schema.specs.Writable.{IsColumnType}
use Rattle.delta_schema.specs.declared.columns.TheConstants.{MAX_COLUMNS}
use Rattle.dm_types.specs.declared.value.DataType.TheVariants as d
use Rattle.sql_tree.specs.declared.tree.WrittenKind.{WrittenKind}
use Rattle.sql_tree.specs.declared.tree.WrittenKind.TheVariants as written
use Rattle.sql_statements.specs.declared.Made.{Made}
use Rattle.sql_statements.specs.declared.Made.TheVariants as made
use Rattle.sql_tree.specs.declared.tree.Name.{Name}
use Rattle.sql_statements.specs.declared.ColumnElement.{ColumnElement}
use Rattle.sql_statements.specs.declared.CreateStmt.{CreateStmt}
use Rattle.sql_statements.specs.declared.Element.{Element}
use Rattle.table_make.specs.Elements.{check_name, checks, column_name, columns, each_behind, is_among, is_same, place_of, told, with_before}
use Rattle.sql_statements.specs.declared.Property.{Property}
use Rattle.std.specs.Map as entries
use Rattle.table_features.specs.Properties.{text_under}
use Rattle.table_make.specs.Good.{HasGoodColumns, HasGoodProperties, IsGoodColumn, IsWritten, is_mode_text}
use Rattle.table_make.specs.Making.{sound, unless_faulty}
use Rattle.table_make.specs.NewProperties.{given}
use Rattle.table_make.specs.Seen.{is_bad_decimal, type_of}
use Rattle.table_make.specs.Faults.{at_if, bad_identity, beyond, column_faults, columnless, double, faults, first_fault, improper, is_mapped, misnamed, name_place, rule_faults, unidentified, untyped, has_key, has_name, is_allowed, is_bad_property, is_binary, is_bad_partition, is_binary_column, is_long, is_mode, is_named_by, is_one_of, mode_key, unparted}
use Rattle.table_make.specs.NewColumns.{column_elements, identity_of, is_named}

-- ---- names

bytes_flip : (a b : List ℕ) → bytes_eq a b ≡ bytes_eq b a
bytes_flip a b = same_from_decides (bytes_eq a b) (bytes_eq b a) (bytes_eq-Decides a b) (λ e. sym ((bytes_eq-Decides b a).0 e), λ e. (bytes_eq-Decides b a).1 (sym e))

pub case_flip : (a b : List ℕ) → str_eq_ignore_ascii_case a b ≡ str_eq_ignore_ascii_case b a
case_flip a b = bytes_flip (str_to_ascii_lowercase a) (str_to_ascii_lowercase b)

-- ---- faults that aren't there

no_least : (places : List ℕ) → reduce min places ≡ None → places ≡ []
no_least [] e = refl
no_least (place ∷ places) e = absurd cc

left_none : {A : Type 0} (xs ys : List A) → xs ++ ys ≡ [] → xs ≡ []
left_none [] ys e = refl
left_none (x ∷ xs) ys e = absurd cc

right_none : {A : Type 0} (xs ys : List A) → xs ++ ys ≡ [] → ys ≡ []
right_none [] ys e = e
right_none (x ∷ xs) ys e = absurd cc

cons_none : {A : Type 0} (o : Option A) (xs : List A) → cons_option o xs ≡ [] → (o ≡ None) × (xs ≡ [])
cons_none None xs e = (refl, e)
cons_none (Some x) xs e = absurd cc

-- nothing is found among them
each_none : {A B : Type 0} (h : A → Option B) (xs : List A) → filter_map h xs ≡ [] → AllByRecursion (λ x. h x ≡ None) xs
each_none h [] e = tt
each_none h (x ∷ xs) e = let (here, rest) = cons_none (h x) (filter_map h xs) e in (here, each_none h xs rest)

both : {A : Type 0} {P Q R : A → Type 0} (xs : List A) → ((x : A) → P x → Q x → R x) → AllByRecursion P xs → AllByRecursion Q xs → AllByRecursion R xs
both [] f ps qs = tt
both (x ∷ xs) f ps qs = (f x ps.0 qs.0, both xs f ps.1 qs.1)

-- ---- columns, without what is told of them

abbrev firsts : {A : Type 0} → List (A × Bool) → List A
firsts ps = map (λ p. p.0) ps

on_firsts : {A : Type 0} (P : A → Type 0) (ps : List (A × Bool)) → AllByRecursion (λ p. P p.0) ps → AllByRecursion P (firsts ps)
on_firsts P [] all = tt
on_firsts P (p ∷ ps) all = (all.0, on_firsts P ps all.1)

as_long : {A : Type 0} (ps : List (A × Bool)) → length (firsts ps) ≡ length ps
as_long [] = refl
as_long (p ∷ ps) = ap suc (as_long ps)

told_of : {A : Type 0} (name_of : A → Name) (before xs : List A) → firsts (map (told name_of) (each_behind before xs)) ≡ xs
told_of name_of before [] = refl
told_of name_of before (x ∷ xs) = ap (λ ys. x ∷ ys) (told_of name_of (before ++ x ∷ []) xs)

-- ---- no name twice

or_none : (a b : Bool) → (a || b) ≡ false → (a ≡ false) × (b ≡ false)
or_none true b e = absurd cc
or_none false b e = (refl, e)

at_none : (wrong : Bool) (place : ℕ) → at_if wrong place ≡ None → wrong ≡ false
at_none true place e = absurd cc
at_none false place e = refl

-- none of them has the name of one before it, and so not that of this one
apart : (name_of : ColumnElement → Name) (pre post : List ColumnElement) (b : ColumnElement) (xs : List ColumnElement)
    → filter_map (double name_of) (map (told name_of) (each_behind (pre ++ b ∷ post) xs)) ≡ []
    → AllByRecursion (λ x. is_same (name_of x) (name_of b) ≡ false) xs
apart name_of pre post b [] e = tt
apart name_of pre post b (x ∷ xs) e =
    let (here, rest) = cons_none (double name_of (told name_of (pre ++ b ∷ post, x))) (filter_map (double name_of) (map (told name_of) (each_behind ((pre ++ b ∷ post) ++ x ∷ []) xs))) e in
    let among : list_any (is_same (name_of x)) (map name_of (pre ++ b ∷ post)) ≡ false = at_none _ (name_of x).span.start here in
    let split : list_any (is_same (name_of x)) (map name_of pre ++ map name_of (b ∷ post)) ≡ false = subst (λ ns. list_any (is_same (name_of x)) ns ≡ false) (map-append name_of pre (b ∷ post)) among in
    let parted = or_none (list_any (is_same (name_of x)) (map name_of pre)) (list_any (is_same (name_of x)) (map name_of (b ∷ post))) (sym (list_any-append (is_same (name_of x)) (map name_of pre) (map name_of (b ∷ post))) ∙ split) in
    let own = or_none (is_same (name_of x) (name_of b)) (list_any (is_same (name_of x)) (map name_of post)) parted.1 in
    let later : filter_map (double name_of) (map (told name_of) (each_behind (pre ++ b ∷ (post ++ x ∷ [])) xs)) ≡ [] = subst (λ before. filter_map (double name_of) (map (told name_of) (each_behind before xs)) ≡ []) (append_assoc pre (b ∷ post) (x ∷ [])) rest in
    (own.0, apart name_of pre (post ++ x ∷ []) b xs later)

no_other : (text : List ℕ) (xs : List ColumnElement) → AllByRecursion (λ x. str_eq_ignore_ascii_case x.name.text text ≡ false) xs → list_any (str_eq_ignore_ascii_case text) (map (λ x. x.name.text) xs) ≡ false
no_other text [] all = refl
no_other text (x ∷ xs) all = rw (case_flip text x.name.text ∙ all.0) (no_other text xs all.1)

pub no_twins : (before xs : List ColumnElement) → filter_map (double column_name) (map (told column_name) (each_behind before xs)) ≡ [] → has_twins (map (λ x. x.name.text) xs) ≡ false
no_twins before [] e = refl
no_twins before (x ∷ xs) e =
    let (here, rest) = cons_none (double column_name (told column_name (before, x))) (filter_map (double column_name) (map (told column_name) (each_behind (before ++ x ∷ []) xs))) e in
    rw (no_other x.name.text xs (apart column_name before [] x xs rest)) (no_twins (before ++ x ∷ []) xs rest)

-- ---- not too many

within : {A : Type 0} (limit : ℕ) (xs : List A) → drop limit xs ≡ [] → length xs ≤ limit
within zero [] e = omega arith
within zero (x ∷ xs) e = absurd cc
within (suc limit) [] e = omega arith
within (suc limit) (x ∷ xs) e = let rest = within limit xs e in omega arith

map_none : {A B : Type 0} (f : A → B) (xs : List A) → map f xs ≡ [] → xs ≡ []
map_none f [] e = refl
map_none f (x ∷ xs) e = absurd cc

-- ---- types, and how values are made

and_not : (a b : Bool) → a ≡ false → (a && b) ≡ false
and_not a b e = rw e refl

-- an identity that is of type BIGINT and doesn't stand still
Moves : ColumnElement → Type 0
Moves column = IfSome (identity_of column.made) (λ rule. is_zero rule.step ≡ false) × ((is_some (identity_of column.made) && not (is_long_type (Some (type_of column.kind.kind)))) ≡ false)

long_same : (kind : WrittenKind) → is_long kind ≡ is_long_type (Some (type_of kind))
long_same (written.Type d.Void) = refl
long_same (written.Type d.Boolean) = refl
long_same (written.Type d.Byte) = refl
long_same (written.Type d.Short) = refl
long_same (written.Type d.Integer) = refl
long_same (written.Type d.Long) = refl
long_same (written.Type (d.Decimal p s)) = refl
long_same (written.Type d.Str) = refl
long_same (written.Type d.Binary) = refl
long_same (written.Type d.Date) = refl
long_same (written.Type d.Timestamp) = refl
long_same (written.BadDecimal p s) = refl

binary_same : (kind : WrittenKind) → is_binary kind ≡ is_binary_type (Some (type_of kind))
binary_same (written.Type d.Void) = refl
binary_same (written.Type d.Boolean) = refl
binary_same (written.Type d.Byte) = refl
binary_same (written.Type d.Short) = refl
binary_same (written.Type d.Integer) = refl
binary_same (written.Type d.Long) = refl
binary_same (written.Type (d.Decimal p s)) = refl
binary_same (written.Type d.Str) = refl
binary_same (written.Type d.Binary) = refl
binary_same (written.Type d.Date) = refl
binary_same (written.Type d.Timestamp) = refl
binary_same (written.BadDecimal p s) = refl

moves : (kind : WrittenKind) (how : Option Made) → bad_identity kind how ≡ None
    → IfSome (identity_of how) (λ rule. is_zero rule.step ≡ false) × ((is_some (identity_of how) && not (is_long_type (Some (type_of kind)))) ≡ false)
moves kind None e = (tt, refl)
moves kind (Some (made.Generated rule)) e = (tt, refl)
moves kind (Some (made.Identity identity)) e =
    let (long, step) = or_none (not (is_long kind)) (is_zero identity.step) (at_none _ identity.place.start e) in
    (step, subst (λ b. not b ≡ false) (long_same kind) long)

-- ---- partition columns

-- no column of this name is BINARY
unbinary : (name : Name) (ps : List (ColumnElement × Bool)) → list_any (is_binary_column name) ps ≡ false → AllByRecursion (λ p. (is_same name p.0.name && is_binary p.0.kind.kind) ≡ false) ps
unbinary name [] e = tt
unbinary name (p ∷ ps) e = let (here, rest) = or_none (is_same name p.0.name && is_binary p.0.kind.kind) (list_any (is_binary_column name) ps) e in (here, unbinary name ps rest)

either_not : (a b c : Bool) → (a && c) ≡ false → (b && c) ≡ false → ((a || b) && c) ≡ false
either_not true b c x y = x
either_not false b c x y = y

-- a test fails for each
Fails : (Name → Bool) → List Name → Type 0
Fails test names = AllByRecursion (λ name. test name ≡ false) names

no_binary : (ps : List (ColumnElement × Bool)) (names : List Name) → AllByRecursion (λ name. list_any (is_binary_column name) ps ≡ false) names
    → AllByRecursion (λ p. (is_named names p.0.name.text && is_binary p.0.kind.kind) ≡ false) ps
no_binary ps [] all = nothing ps
  where
    nothing : (qs : List (ColumnElement × Bool)) → AllByRecursion (λ p. (is_named [] p.0.name.text && is_binary p.0.kind.kind) ≡ false) qs
    nothing [] = tt
    nothing (q ∷ qs) = (refl, nothing qs)
no_binary ps (name ∷ names) all =
    both ps (λ p here rest. either_not (is_same name p.0.name) (is_named names p.0.name.text) (is_binary p.0.kind.kind) here rest) (unbinary name ps all.0) (no_binary ps names all.1)

last_two : (a b c d : Bool) → (a || b || c || d) ≡ false → (c ≡ false) × (d ≡ false)
last_two false false false false e = (refl, refl)
last_two false false false true e = absurd cc
last_two false false true d e = absurd cc
last_two false true c d e = absurd cc
last_two true b c d e = absurd cc

-- what is asked of each name with those before it
parts : (ps : List (ColumnElement × Bool)) (before : List Name) (name : Name) → unparted ps (before, name) ≡ None → (list_any (is_binary_column name) ps ≡ false) × (list_all (is_named_by (before ++ name ∷ [])) ps ≡ false)
parts ps before name e =
    last_two (not (list_any (has_name name) ps)) (is_among before name) (list_any (is_binary_column name) ps) (list_all (is_named_by (before ++ name ∷ [])) ps) (at_none (is_bad_partition ps before name) name.span.start e)

unparted_parts : (ps : List (ColumnElement × Bool)) (before names : List Name) → AllByRecursion (λ p. unparted ps p ≡ None) (each_behind before names) → AllByRecursion (λ name. list_any (is_binary_column name) ps ≡ false) names
unparted_parts ps before [] all = tt
unparted_parts ps before (name ∷ names) all = ((parts ps before name all.0).0, unparted_parts ps (before ++ name ∷ []) names all.1)

-- behind the last name some column is left
left : (ps : List (ColumnElement × Bool)) (before : List Name) (name : Name) (names : List Name) → AllByRecursion (λ p. unparted ps p ≡ None) (each_behind before (name ∷ names)) → list_all (is_named_by (before ++ name ∷ names)) ps ≡ false
left ps before name [] all = (parts ps before name all.0).1
left ps before name (next ∷ names) all = subst (λ ns. list_all (is_named_by ns) ps ≡ false) (append_assoc before (name ∷ []) (next ∷ names)) (left ps (before ++ name ∷ []) next names all.1)

named_same : (names : List Name) (column : ColumnElement) → is_among names column.name ≡ is_named names column.name.text
named_same [] column = refl
named_same (name ∷ names) column = rw (case_flip column.name.text name.text, named_same names column) refl

all_same : (names : List Name) (ps : List (ColumnElement × Bool)) → list_all (is_named_by names) ps ≡ list_all (is_named names) (map (λ c. c.name.text) (firsts ps))
all_same names [] = refl
all_same names (p ∷ ps) = rw (named_same names p.0, all_same names ps) refl

-- ---- all of it

take_none : {A B : Type 0} (f : A → B) (xs : List A) → 0 < length xs → map f (take 1 xs) ≡ [] → ⊥
take_none f [] some e = omega (arith, some)
take_none f (x ∷ xs) some e = absurd cc

-- some column is there
some_column : (elements : List Element) (ps : List (ColumnElement × Bool)) → 0 < length elements → columnless ps elements ≡ [] → (p : ColumnElement × Bool) × (rest : List (ColumnElement × Bool)) × (ps ≡ p ∷ rest)
some_column elements [] some e = absurd (take_none place_of elements some e)
some_column elements (p ∷ ps) some e = (p, ps, refl)

-- some column is no partition column
some_left : (names : List Name) (ps : List (ColumnElement × Bool)) (p : ColumnElement × Bool) (rest : List (ColumnElement × Bool)) → ps ≡ p ∷ rest → AllByRecursion (λ q. unparted ps q ≡ None) (each_behind [] names)
    → list_all (is_named names) (map (λ c. c.name.text) (firsts ps)) ≡ false
some_left [] ps p rest is all = rw is refl
some_left (name ∷ names) ps p rest is all = sym (all_same (name ∷ names) ps) ∙ left ps [] name names all

-- what is known of one column
good_column : (stmt : CreateStmt) (column : ColumnElement) → IsColumnType (type_of column.kind.kind) → Moves column → (is_named stmt.partitions column.name.text && is_binary column.kind.kind) ≡ false → IsGoodColumn stmt column
unfolding Moves
good_column stmt column type (moves, long) plain = record {
  type = type;
  moves = moves;
  placed = rw (subst (λ b. (is_named stmt.partitions column.name.text && b) ≡ false) (binary_same column.kind.kind) plain, long) refl;
}

-- what each part of a list without elements is
pub record Six (A : Type 0) (a b c d e f : List A) : Type 0 where
  pub no_a : a ≡ []
  pub no_b : b ≡ []
  pub no_c : c ≡ []
  pub no_d : d ≡ []
  pub no_e : e ≡ []
  pub no_f : f ≡ []

six_none : {A : Type 0} (a b c d e f : List A) → (a ++ b ++ c ++ d ++ e ++ f) ≡ [] → Six A a b c d e f
six_none [] [] [] [] [] [] is = record { no_a = refl; no_b = refl; no_c = refl; no_d = refl; no_e = refl; no_f = refl }
six_none [] [] [] [] [] (x ∷ xs) is = absurd cc
six_none [] [] [] [] (x ∷ xs) f is = absurd cc
six_none [] [] [] (x ∷ xs) e f is = absurd cc
six_none [] [] (x ∷ xs) d e f is = absurd cc
six_none [] (x ∷ xs) c d e f is = absurd cc
six_none (x ∷ xs) b c d e f is = absurd cc

pub record Five (A : Type 0) (a b c d e : List A) : Type 0 where
  pub no_a : a ≡ []
  pub no_b : b ≡ []
  pub no_c : c ≡ []
  pub no_d : d ≡ []
  pub no_e : e ≡ []

five_none : {A : Type 0} (a b c d e : List A) → (a ++ b ++ c ++ d ++ e) ≡ [] → Five A a b c d e
five_none [] [] [] [] [] is = record { no_a = refl; no_b = refl; no_c = refl; no_d = refl; no_e = refl }
five_none [] [] [] [] (x ∷ xs) is = absurd cc
five_none [] [] [] (x ∷ xs) e is = absurd cc
five_none [] [] (x ∷ xs) d e is = absurd cc
five_none [] (x ∷ xs) c d e is = absurd cc
five_none (x ∷ xs) b c d e is = absurd cc

-- the faults of a definition, kind by kind
pub parts_of : (stmt : CreateStmt) → faults stmt ≡ []
    → Six ℕ (column_faults (is_mapped stmt.properties) (columns stmt.elements)) (columnless (columns stmt.elements) stmt.elements) (filter_map (double check_name) (checks stmt.elements)) (rule_faults (columns stmt.elements) (checks stmt.elements))
    (filter_map (unparted (columns stmt.elements)) (with_before stmt.partitions)) (filter_map improper (with_before stmt.properties))
unfolding faults
parts_of stmt is =
    six_none (column_faults (is_mapped stmt.properties) (columns stmt.elements)) (columnless (columns stmt.elements) stmt.elements) (filter_map (double check_name) (checks stmt.elements)) (rule_faults (columns stmt.elements) (checks stmt.elements))
    (filter_map (unparted (columns stmt.elements)) (with_before stmt.partitions)) (filter_map improper (with_before stmt.properties)) is

pub good_columns : (stmt : CreateStmt) → faults stmt ≡ [] → IsWritten stmt → HasGoodColumns stmt
unfolding Moves
good_columns stmt e written =
    let all = columns stmt.elements in
    let cs = column_elements stmt.elements in
    let mapped = is_mapped stmt.properties in
    let same : firsts all ≡ cs = told_of column_name [] cs in
    let part = parts_of stmt e in
    let column = five_none (filter_map (double column_name) all) (filter_map (misnamed mapped) all) (beyond all) (filter_map untyped all) (filter_map unidentified all) part.no_a in
    let of_table = part.no_b in
    let of_partitions = part.no_e in
    let doubles = column.no_a in
    let many = column.no_c in
    let types = column.no_d in
    let identities = column.no_e in
    let few : length all ≤ MAX_COLUMNS = within MAX_COLUMNS all (map_none name_place (drop MAX_COLUMNS all) many) in
    let parted = each_none (unparted all) (with_before stmt.partitions) of_partitions in
    let (first, rest, there) = some_column stmt.elements all written.some of_table in
    let typed : AllByRecursion (λ c. is_bad_decimal c.kind.kind ≡ false) cs = subst (λ xs. AllByRecursion (λ c. is_bad_decimal c.kind.kind ≡ false) xs) same (on_firsts (λ c. is_bad_decimal c.kind.kind ≡ false) all (both all (λ p here other. at_none (is_bad_decimal p.0.kind.kind) p.0.kind.span.start here) (each_none untyped all types) (each_none untyped all types))) in
    let moving : AllByRecursion Moves cs = subst (λ xs. AllByRecursion Moves xs) same (on_firsts Moves all (both all (λ p here other. moves p.0.kind.kind p.0.made here) (each_none unidentified all identities) (each_none unidentified all identities))) in
    let plain : AllByRecursion (λ c. (is_named stmt.partitions c.name.text && is_binary c.kind.kind) ≡ false) cs = subst (λ xs. AllByRecursion (λ c. (is_named stmt.partitions c.name.text && is_binary c.kind.kind) ≡ false) xs) same
    (on_firsts (λ c. (is_named stmt.partitions c.name.text && is_binary c.kind.kind) ≡ false) all (no_binary all stmt.partitions (unparted_parts all [] stmt.partitions parted))) in
    let kinds : AllByRecursion (λ c. is_bad_decimal c.kind.kind ≡ false → IsColumnType (type_of c.kind.kind)) cs = recursion_from_All (λ c. is_bad_decimal c.kind.kind ≡ false → IsColumnType (type_of c.kind.kind)) cs written.types in
    let column_types : AllByRecursion (λ c. IsColumnType (type_of c.kind.kind)) cs = both cs (λ c good if_good. if_good good) typed kinds in
    let pairs : AllByRecursion (λ c. Moves c × ((is_named stmt.partitions c.name.text && is_binary c.kind.kind) ≡ false)) cs = both cs (λ c a b. (a, b)) moving plain in
    record {
      few = subst (λ (xs : List ColumnElement). length xs ≤ MAX_COLUMNS) same (subst (λ n. n ≤ MAX_COLUMNS) (sym (as_long all)) few);
      named = written.named;
      distinct = no_twins [] cs doubles;
      kept = subst (λ (xs : List ColumnElement). list_all (is_named stmt.partitions) (map (λ c. c.name.text) xs) ≡ false) same (some_left stmt.partitions all first rest there parted);
      ranges = written.ranges;
      each = All-from_recursion (IsGoodColumn stmt) cs (both cs (λ c type pair. good_column stmt c type pair.0 pair.1) column_types pairs);
    }

-- ---- properties

key : Property → List ℕ
key property = property.key

key_apart : (pre post : List Property) (b : Property) (xs : List Property) → AllByRecursion (λ p. improper p ≡ None) (each_behind (pre ++ b ∷ post) xs) → AllByRecursion (λ k. bytes_eq b.key k ≡ false) (entries.keys_of (given xs))
key_apart pre post b [] all = tt
key_apart pre post b (x ∷ xs) all =
    let bad = or_none (not (is_allowed x)) (list_any (has_key x.key) (pre ++ b ∷ post)) (at_none (is_bad_property (pre ++ b ∷ post) x) x.place.start all.0) in
    let parted = or_none (list_any (has_key x.key) pre) (list_any (has_key x.key) (b ∷ post)) (sym (list_any-append (has_key x.key) pre (b ∷ post)) ∙ bad.1) in
    let own = or_none (bytes_eq x.key b.key) (list_any (has_key x.key) post) parted.1 in
    let later : AllByRecursion (λ p. improper p ≡ None) (each_behind (pre ++ b ∷ (post ++ x ∷ [])) xs) = subst (λ before. AllByRecursion (λ p. improper p ≡ None) (each_behind before xs)) (append_assoc pre (b ∷ post) (x ∷ [])) all.1 in
    (bytes_flip b.key x.key ∙ own.0, key_apart pre (post ++ x ∷ []) b xs later)

keys_differ : (before xs : List Property) → AllByRecursion (λ p. improper p ≡ None) (each_behind before xs) → IsDistinct bytes_eq (entries.keys_of (given xs))
unfolding IsDistinct
keys_differ before [] all = tt
keys_differ before (x ∷ xs) all = (key_apart before [] x xs all.1, keys_differ (before ++ x ∷ []) xs all.1)

true_of_not : (b : Bool) → not b ≡ false → b ≡ true
true_of_not true e = refl
true_of_not false e = absurd cc

-- a property with the mode's key names a mode
mode_named : (keyed toggled valued named : Bool) → ((toggled && valued) || (keyed && named)) ≡ true → keyed ≡ true → toggled ≡ false → named ≡ true
mode_named keyed toggled valued true e is off = refl
mode_named true false valued false e is off = absurd cc
mode_named false toggled valued false e is off = absurd cc
mode_named true true valued false e is off = absurd cc

no_switch : (k : List ℕ) → bytes_eq k mode_key ≡ true → is_one_of (codes "delta.enableChangeDataFeed" ∷ codes "delta.appendOnly" ∷ []) k ≡ false
no_switch k e = let same : k ≡ mode_key = (bytes_eq-Decides k mode_key).0 e in rw same refl

mode_is : (before xs : List Property) → AllByRecursion (λ p. improper p ≡ None) (each_behind before xs) → is_mode_text (text_under (given xs) mode_key) ≡ true
mode_is before [] all = refl
mode_is before (x ∷ xs) all = by (bytes_eq x.key mode_key) refl (mode_is (before ++ x ∷ []) xs all.1)
  where
    bad : (not (is_allowed x) ≡ false) × (list_any (has_key x.key) before ≡ false)
    bad = or_none (not (is_allowed x)) (list_any (has_key x.key) before) (at_none (is_bad_property before x) x.place.start all.0)

    by : (b : Bool) → bytes_eq x.key mode_key ≡ b → is_mode_text (text_under (given xs) mode_key) ≡ true → is_mode_text (text_under (given (x ∷ xs)) mode_key) ≡ true
    by true e rest = rw e (mode_named (is_mode x) (is_one_of (codes "delta.enableChangeDataFeed" ∷ codes "delta.appendOnly" ∷ []) x.key) (is_one_of (codes "true" ∷ codes "false" ∷ []) x.value) (is_one_of (codes "none" ∷ codes "name" ∷ codes "id" ∷ []) x.value) (true_of_not (is_allowed x) bad.0) e (no_switch x.key e))
    by false e rest = rw e rest

pub good_properties : (stmt : CreateStmt) → faults stmt ≡ [] → HasGoodProperties stmt
good_properties stmt e =
    let all = each_none improper (with_before stmt.properties) (parts_of stmt e).no_f in
    record { distinct = keys_differ [] stmt.properties all; mode = mode_is [] stmt.properties all }

-- ---- a definition that is sound

none_found : (at : Option ℕ) → unless_faulty at ≡ Ok tt → at ≡ None
none_found None e = refl
none_found (Some at) e = absurd cc

pub faultless : (stmt : CreateStmt) → sound stmt ≡ Ok tt → faults stmt ≡ []
unfolding first_fault
faultless stmt e = no_least (faults stmt) (none_found (first_fault stmt) e)
