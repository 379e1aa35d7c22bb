-- Ordered sets of names.
use Rattle.std.proofs.Common.{◌≡◌, ℕ, ◌+◌, ◌<◌, length, drop, get_or, add-one, List, [], ◌∷◌, Bool, true, false, ◌||◌, not, refl, sym, ap, ◌∙◌}
use Rattle.std.specs.BTreeSet.{insert_key}
use Rattle.std.specs.Cmp.Lexicographic.{slice_cmp}
use Rattle.std.specs.List.{list_any}
use Rattle.std.specs.Ordering.{is_eq, nat_cmp, match_ordering}
use Rattle.std.specs.Str.{bytes_eq, str_to_ascii_lowercase, str_eq_ignore_ascii_case}
use Rattle.std.specs.declared.cmp.Ordering.{Ordering}
use Rattle.std.specs.declared.cmp.Ordering.TheVariants.{Less, Equal, Greater}
use Rattle.std.proofs.lemmas.Map.Text.{is_eq-slice_cmp}
use Rattle.std.proofs.lemmas.Slice.Eq.{bytes_eq-Decides}
use Rattle.std.proofs.Math.Seq.{drop-cons}
use Rattle.delta_schema.specs.Names.{is_among, has_twins}
use Rattle.delta_schema.specs.StepsReading.{is_held}

-- ---- truth values

or_turned : (a b : Bool) → (a || b) ≡ (b || a)
or_turned true true = refl
or_turned true false = refl
or_turned false true = refl
or_turned false false = refl

or_moved : (a b c : Bool) → ((a || b) || c) ≡ (a || (b || c))
or_moved true b c = refl
or_moved false b c = refl

or_crossed : (a b c d : Bool) → ((a || b) || (c || d)) ≡ ((a || c) || (b || d))
or_crossed true b c d = refl
or_crossed false true true d = refl
or_crossed false true false d = refl
or_crossed false false true d = refl
or_crossed false false false d = refl

or_again : (a b : Bool) → (a || b) ≡ ((a || b) || a)
or_again true b = refl
or_again false true = refl
or_again false false = refl

turned : (a b : Bool) → (a ≡ true → b ≡ true) → (b ≡ true → a ≡ true) → a ≡ b
turned true b there back = sym (there refl)
turned false true there back = back refl
turned false false there back = refl

bytes_turned : (a b : List ℕ) → bytes_eq a b ≡ bytes_eq b a
bytes_turned a b =
    turned (bytes_eq a b) (bytes_eq b a)
    (λ is. (bytes_eq-Decides b a).1 (sym ((bytes_eq-Decides a b).0 is)))
    (λ is. (bytes_eq-Decides a b).1 (sym ((bytes_eq-Decides b a).0 is)))

-- ---- what a set has after one more key, by a test on the keys' bytes

by_order : {K : Type 0} (cmp : K → K → Ordering) (bytes : K → List ℕ) (t : List ℕ → Bool) (x k : K) (xs : List K) (o : Ordering)
    → (is_eq o ≡ true → bytes x ≡ bytes k)
    → list_any (λ key. t (bytes key)) (insert_key cmp xs k) ≡ (list_any (λ key. t (bytes key)) xs || t (bytes k))
    → list_any (λ key. t (bytes key)) (match_ordering o (k ∷ x ∷ xs) (x ∷ xs) (x ∷ insert_key cmp xs k))
    ≡ ((t (bytes x) || list_any (λ key. t (bytes key)) xs) || t (bytes k))
by_order cmp bytes t x k xs Less same more = or_turned (t (bytes k)) (t (bytes x) || list_any (λ key. t (bytes key)) xs)
by_order cmp bytes t x k xs Equal same more =
    or_again (t (bytes x)) (list_any (λ key. t (bytes key)) xs)
    ∙ ap (λ name. (t (bytes x) || list_any (λ key. t (bytes key)) xs) || t name) (same refl)
by_order cmp bytes t x k xs Greater same more =
    ap (λ found. t (bytes x) || found) more ∙ sym (or_moved (t (bytes x)) (list_any (λ key. t (bytes key)) xs) (t (bytes k)))

same_bytes : (a b : List ℕ) → is_eq (slice_cmp nat_cmp a b) ≡ true → b ≡ a
same_bytes a b is = sym ((bytes_eq-Decides a b).0 (sym (is_eq-slice_cmp a b) ∙ is))

pub inserted : {K : Type 0} (bytes : K → List ℕ) (t : List ℕ → Bool) (ks : List K) (k : K)
    → list_any (λ key. t (bytes key)) (insert_key (λ a b. slice_cmp nat_cmp (bytes a) (bytes b)) ks k) ≡ (list_any (λ key. t (bytes key)) ks || t (bytes k))
inserted bytes t [] k = or_turned (t (bytes k)) false
inserted bytes t (x ∷ xs) k =
    by_order (λ a b. slice_cmp nat_cmp (bytes a) (bytes b)) bytes t x k xs (slice_cmp nat_cmp (bytes k) (bytes x))
    (same_bytes (bytes k) (bytes x)) (inserted bytes t xs k)

-- ---- the names of a list

drop_here : {A : Type 0} (xs : List A) (a : A) (i : ℕ) → i < length xs → a ≡ get_or xs i a → drop i xs ≡ a ∷ drop (i + 1) xs
drop_here xs a i within is = drop-cons xs i a within ∙ rw (add-one i, ← is) refl

pub held_step : (old now names : List (List ℕ)) (k name : List ℕ) (i : ℕ) → now ≡ insert_key (slice_cmp nat_cmp) old k → i < length names → k ≡ get_or names i k
    → (is_held old name || is_among (drop i names) name) ≡ is_among names name → (is_held now name || is_among (drop (i + 1) names) name) ≡ is_among names name
held_step old now names k name i is within here before =
    ap (λ keys. is_held keys name || is_among (drop (i + 1) names) name) is
    ∙ ap (λ found. found || is_among (drop (i + 1) names) name) (inserted (λ (key : List ℕ). key) (λ key. is_eq (slice_cmp nat_cmp name key)) old k)
    ∙ or_moved (is_held old name) (is_eq (slice_cmp nat_cmp name k)) (is_among (drop (i + 1) names) name)
    ∙ ap (λ (same : Bool). is_held old name || (same || is_among (drop (i + 1) names) name)) (is_eq-slice_cmp name k)
    ∙ ap (λ (rest : List (List ℕ)). is_held old name || is_among rest name) (sym (drop_here names k i within here))
    ∙ before

pub held_end : (keys : List (List ℕ)) (name : List ℕ) (found : Bool) → (is_held keys name || false) ≡ found → is_held keys name ≡ found
held_end keys name found before = or_turned false (is_held keys name) ∙ before

-- ---- names in lower case

-- a name is in a set of names in lower case
abbrev pub is_seen : {K : Type 0} → (K → List ℕ) → List K → List ℕ → Bool
is_seen bytes keys name = list_any (λ key. is_eq (slice_cmp nat_cmp (str_to_ascii_lowercase name) (bytes key))) keys

-- one of the names was seen, or two of them are equal up to case
abbrev pub clashes : {K : Type 0} → (K → List ℕ) → List K → List (List ℕ) → Bool
clashes bytes keys names = list_any (is_seen bytes keys) names || has_twins names

any_either : (p q r : List ℕ → Bool) (names : List (List ℕ)) → ((name : List ℕ) → r name ≡ (p name || q name)) → list_any r names ≡ (list_any p names || list_any q names)
any_either p q r [] each = refl
any_either p q r (name ∷ names) each =
    rw (each name, any_either p q r names each) (or_crossed (p name) (q name) (list_any p names) (list_any q names))

twins_here : (here a b c : Bool) → here ≡ false → ((here || a) || (b || c)) ≡ ((a || b) || c)
twins_here here a b c new = rw new (sym (or_moved a b c))

pub seen_step : {K : Type 0} (bytes : K → List ℕ) (old now : List K) (k : K) (names : List (List ℕ)) (name : List ℕ) (i : ℕ) (total : Bool)
    → now ≡ insert_key (λ a b. slice_cmp nat_cmp (bytes a) (bytes b)) old k → i < length names → name ≡ get_or names i name → bytes k ≡ str_to_ascii_lowercase name → is_seen bytes old name ≡ false
    → total ≡ clashes bytes old (drop i names) → total ≡ clashes bytes now (drop (i + 1) names)
seen_step bytes old now k names name i total is within here lower new before =
    let rest = drop (i + 1) names in
    let one : (other : List ℕ) → is_seen bytes now other ≡ (is_seen bytes old other || str_eq_ignore_ascii_case name other) =
    λ other. ap (λ keys. is_seen bytes keys other) is
    ∙ inserted bytes (λ key. is_eq (slice_cmp nat_cmp (str_to_ascii_lowercase other) key)) old k
    ∙ ap (λ (same : Bool). is_seen bytes old other || same)
    (ap (λ key. is_eq (slice_cmp nat_cmp (str_to_ascii_lowercase other) key)) lower
    ∙ is_eq-slice_cmp (str_to_ascii_lowercase other) (str_to_ascii_lowercase name)
    ∙ bytes_turned (str_to_ascii_lowercase other) (str_to_ascii_lowercase name)) in
    before
    ∙ ap (clashes bytes old) (drop_here names name i within here)
    ∙ twins_here (is_seen bytes old name) (list_any (is_seen bytes old) rest) (list_any (str_eq_ignore_ascii_case name) rest) (has_twins rest) new
    ∙ ap (λ (found : Bool). found || has_twins rest) (sym (any_either (is_seen bytes old) (str_eq_ignore_ascii_case name) (is_seen bytes now) rest one))

either_true : (here a b : Bool) → here ≡ true → ((here || a) || b) ≡ true
either_true here a b is = rw is refl

pub seen_twice : {K : Type 0} (bytes : K → List ℕ) (keys : List K) (names : List (List ℕ)) (name : List ℕ) (i : ℕ) (total : Bool)
    → i < length names → name ≡ get_or names i name → is_seen bytes keys name ≡ true → total ≡ clashes bytes keys (drop i names) → total ≡ true
seen_twice bytes keys names name i total within here seen before =
    before
    ∙ ap (clashes bytes keys) (drop_here names name i within here)
    ∙ either_true (is_seen bytes keys name) (list_any (is_seen bytes keys) (drop (i + 1) names)) (has_twins (name ∷ drop (i + 1) names)) seen

none_seen : {K : Type 0} (bytes : K → List ℕ) (names : List (List ℕ)) → list_any (is_seen bytes []) names ≡ false
none_seen bytes [] = refl
none_seen bytes (name ∷ names) = none_seen bytes names

pub seen_begin : {K : Type 0} (bytes : K → List ℕ) (keys : List K) (names : List (List ℕ)) → keys ≡ [] → has_twins names ≡ clashes bytes keys names
seen_begin bytes keys names none = rw (none, none_seen bytes names) refl

not_true : (found : Bool) → not found ≡ true → found ≡ false
not_true true is = absurd cc
not_true false is = refl

-- a key that was taken is new
pub is_new : {K : Type 0} (bytes : K → List ℕ) (keys : List K) (k : K) (name : List ℕ) (added : Bool) → bytes k ≡ str_to_ascii_lowercase name
    → added ≡ not (list_any (λ key. is_eq (slice_cmp nat_cmp (bytes k) (bytes key))) keys) → added ≡ true → is_seen bytes keys name ≡ false
is_new bytes keys k name added lower is taken =
    ap (λ text. list_any (λ key. is_eq (slice_cmp nat_cmp text (bytes key))) keys) (sym lower)
    ∙ not_true (list_any (λ key. is_eq (slice_cmp nat_cmp (bytes k) (bytes key))) keys) (sym is ∙ taken)
