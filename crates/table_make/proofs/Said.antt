-- The properties that a statement gives are those of its table.
use Rattle.std.proofs.Common.{◌≡◌, ℕ, List, [], ◌∷◌, ◌++◌, codes, length, Bool, true, false, cond, ◌||◌, Option, Some, None, option_map, refl, sym, ap, ◌∙◌, find}
use Rattle.std.specs.BTreeMap.{insert_entry}
use Rattle.std.specs.Cmp.Lexicographic.{slice_cmp}
use Rattle.std.specs.List.{AllByRecursion, IsDistinct}
use Rattle.std.specs.Map.{keys_of}
use Rattle.std.specs.Ordering.{is_eq, nat_cmp, match_ordering}
use Rattle.std.specs.Str.{bytes_eq}
use Rattle.std.specs.declared.cmp.Ordering.{Ordering}
use Rattle.std.specs.declared.cmp.Ordering.TheVariants.{Less, Equal, Greater}
use Rattle.std.proofs.lemmas.Map.Text.{is_eq-slice_cmp}
use Rattle.std.proofs.lemmas.Slice.Eq.{bytes_eq-Decides}
use Rattle.sql_statements.specs.declared.CreateStmt.{CreateStmt}
use Rattle.sql_statements.specs.declared.Element.{Element}
use Rattle.sql_statements.specs.declared.Element.TheVariants as element
use Rattle.table_features.specs.Properties.{text_under}
use Rattle.table_make.specs.Created.{maps_columns, new_columns, new_configuration}
use Rattle.table_make.specs.Good.{is_property}
use Rattle.table_make.specs.NewProperties.{Pairs, checks_of, configuration_of, given, mapping_of, tracking_of, with_pairs}

abbrev compare : List ℕ → List ℕ → Ordering
compare = slice_cmp nat_cmp

same : (a b : List ℕ) → bytes_eq a b ≡ true → a ≡ b
same a b is = (bytes_eq-Decides a b).0 is

tied : (a b : List ℕ) → compare a b ≡ Equal → a ≡ b
tied a b is = same a b (sym (is_eq-slice_cmp a b) ∙ ap is_eq is)

untied : (a b : List ℕ) → compare a b ≡ Greater → a ≡ b → ⊥
untied a b is e =
    let tie : is_eq (compare a b) ≡ true = is_eq-slice_cmp a b ∙ (bytes_eq-Decides a b).1 e in
    let z = sym tie ∙ ap is_eq is in absurd cc

-- ---- one pair more

after : List ℕ → List ℕ → List ℕ → Option (List ℕ) → Option (List ℕ)
after name text wanted before = cond (bytes_eq name wanted) (Some text) before

abbrev here : List ℕ × List ℕ → List ℕ → Option (List ℕ) → Option (List ℕ)
here pair wanted rest = option_map (λ (it : List ℕ × List ℕ). it.1) (cond (bytes_eq pair.0 wanted) (Some pair) None)

under_cons : (pair : List ℕ × List ℕ) (pairs : Pairs) (wanted : List ℕ) → text_under (pair ∷ pairs) wanted ≡ cond (bytes_eq pair.0 wanted) (Some pair.1) (text_under pairs wanted)
under_cons pair pairs wanted = by (bytes_eq pair.0 wanted)
  where
    by : (b : Bool) → option_map (λ it. it.1) (cond b (Some pair) (find (λ it. bytes_eq it.0 wanted) pairs)) ≡ cond b (Some pair.1) (text_under pairs wanted)
    by true = refl
    by false = refl

-- two names that differ aren't both the one that is wanted
crossed : (name other : List ℕ) (wanted : List ℕ) (x y rest : Option (List ℕ)) → (name ≡ other → ⊥) → cond (bytes_eq other wanted) y (cond (bytes_eq name wanted) x rest) ≡ cond (bytes_eq name wanted) x (cond (bytes_eq other wanted) y rest)
crossed name other wanted x y rest apart = by (bytes_eq name wanted) (bytes_eq other wanted) refl refl
  where
    by : (a b : Bool) → bytes_eq name wanted ≡ a → bytes_eq other wanted ≡ b → cond b y (cond a x rest) ≡ cond a x (cond b y rest)
    by true true one two = absurd (apart (same name wanted one ∙ sym (same other wanted two)))
    by true false one two = refl
    by false b one two = refl

inserted : (name text : List ℕ) (pairs : Pairs) (wanted : List ℕ)
    → text_under (insert_entry compare pairs name text) wanted ≡ cond (bytes_eq name wanted) (Some text) (text_under pairs wanted)
inserted name text [] wanted = under_cons (name, text) [] wanted
inserted name text (pair ∷ pairs) wanted = placed (compare name pair.0) refl (inserted name text pairs wanted)
  where
    twice : (b : Bool) (rest : Option (List ℕ)) → cond b (Some text) rest ≡ cond b (Some text) (cond b (Some pair.1) rest)
    twice true rest = refl
    twice false rest = refl

    placed : (o : Ordering) → compare name pair.0 ≡ o → text_under (insert_entry compare pairs name text) wanted ≡ cond (bytes_eq name wanted) (Some text) (text_under pairs wanted)
        → text_under (match_ordering o ((name, text) ∷ pair ∷ pairs) ((pair.0, text) ∷ pairs) (pair ∷ insert_entry compare pairs name text)) wanted
        ≡ cond (bytes_eq name wanted) (Some text) (text_under (pair ∷ pairs) wanted)
    placed Less is rest = under_cons (name, text) (pair ∷ pairs) wanted
    placed Equal is rest =
        let e : name ≡ pair.0 = tied name pair.0 is in
        under_cons (pair.0, text) pairs wanted
        ∙ twice (bytes_eq pair.0 wanted) (text_under pairs wanted)
        ∙ ap (λ (k : List ℕ). cond (bytes_eq k wanted) (Some text) (cond (bytes_eq pair.0 wanted) (Some pair.1) (text_under pairs wanted))) (sym e)
        ∙ ap (cond (bytes_eq name wanted) (Some text)) (sym (under_cons pair pairs wanted))
    placed Greater is rest =
        under_cons pair (insert_entry compare pairs name text) wanted
        ∙ ap (cond (bytes_eq pair.0 wanted) (Some pair.1)) rest
        ∙ crossed name pair.0 wanted (Some text) (Some pair.1) (text_under pairs wanted) (untied name pair.0 is)
        ∙ ap (cond (bytes_eq name wanted) (Some text)) (sym (under_cons pair pairs wanted))

-- ---- several pairs more

-- the names are all others
abbrev Lacks : List ℕ → Pairs → Type 0
Lacks wanted pairs = AllByRecursion (λ pair. bytes_eq pair.0 wanted ≡ false) pairs

passed : (found pairs : Pairs) (wanted : List ℕ) → Lacks wanted pairs → text_under (with_pairs found pairs) wanted ≡ text_under found wanted
unfolding with_pairs
passed found [] wanted lacks = refl
passed found (pair ∷ pairs) wanted lacks =
    passed (insert_entry compare found pair.0 pair.1) pairs wanted lacks.1 ∙ inserted pair.0 pair.1 found wanted ∙ rw lacks.0 refl

joined : (found xs ys : Pairs) → with_pairs found (xs ++ ys) ≡ with_pairs (with_pairs found xs) ys
unfolding with_pairs
joined found [] ys = refl
joined found (x ∷ xs) ys = joined (insert_entry compare found x.0 x.1) xs ys

none_left : (pairs : Pairs) (name wanted : List ℕ) → name ≡ wanted → AllByRecursion (λ other. bytes_eq name other ≡ false) (keys_of pairs) → Lacks wanted pairs
none_left [] name wanted e others = tt
none_left (pair ∷ pairs) name wanted e others = (turned (bytes_eq pair.0 wanted) refl, none_left pairs name wanted e others.1)
  where
    turned : (b : Bool) → bytes_eq pair.0 wanted ≡ b → b ≡ false
    turned false is = refl
    turned true is =
        let f : name ≡ pair.0 = e ∙ sym (same pair.0 wanted is) in
        let z = sym others.0 ∙ (bytes_eq-Decides name pair.0).1 f in absurd cc

-- pairs with names that differ say what they say
alone : (found pairs : Pairs) (wanted : List ℕ) → IsDistinct bytes_eq (keys_of pairs) → text_under found wanted ≡ None
    → text_under (with_pairs found pairs) wanted ≡ text_under pairs wanted
unfolding with_pairs IsDistinct
alone found [] wanted distinct none = none
alone found (pair ∷ pairs) wanted distinct none = by (bytes_eq pair.0 wanted) refl (alone (insert_entry compare found pair.0 pair.1) pairs wanted distinct.1)
  where
    by : (b : Bool) → bytes_eq pair.0 wanted ≡ b
        → (text_under (insert_entry compare found pair.0 pair.1) wanted ≡ None → text_under (with_pairs (insert_entry compare found pair.0 pair.1) pairs) wanted ≡ text_under pairs wanted)
        → text_under (with_pairs (insert_entry compare found pair.0 pair.1) pairs) wanted ≡ text_under (pair ∷ pairs) wanted
    by true is rest =
        passed (insert_entry compare found pair.0 pair.1) pairs wanted (none_left pairs pair.0 wanted (same pair.0 wanted is) distinct.0)
        ∙ inserted pair.0 pair.1 found wanted
        ∙ ap (λ (b : Bool). cond b (Some pair.1) (text_under found wanted)) is
        ∙ ap (λ (b : Bool). cond b (Some pair.1) (text_under pairs wanted)) (sym is)
        ∙ sym (under_cons pair pairs wanted)
    by false is rest =
        rest (inserted pair.0 pair.1 found wanted ∙ ap (λ (b : Bool). cond b (Some pair.1) (text_under found wanted)) is ∙ none)
        ∙ ap (λ (b : Bool). cond b (Some pair.1) (text_under pairs wanted)) (sym is)
        ∙ sym (under_cons pair pairs wanted)

-- ---- what a statement gives

-- no constraint, and nothing that each table has, is a property that a statement may give
record IsApart (name : List ℕ) : Type 0 where
  checks : (rest : List ℕ) → bytes_eq (codes "delta.constraints." ++ rest) name ≡ false
  tracking : (id : List ℕ) → Lacks name (tracking_of id)
  mapping : (mapped : Bool) (count : ℕ) → Lacks name (mapping_of mapped count)

without_mapping : (name : List ℕ) → bytes_eq (codes "delta.columnMapping.maxColumnId") name ≡ false → (mapped : Bool) (count : ℕ) → Lacks name (mapping_of mapped count)
without_mapping name other true count = (other, tt)
without_mapping name other false count = tt

feed : IsApart (codes "delta.enableChangeDataFeed")
feed = record { checks = λ rest. refl; tracking = λ id. (refl, (refl, (refl, tt {0}))); mapping = without_mapping (codes "delta.enableChangeDataFeed") refl }

append : IsApart (codes "delta.appendOnly")
append = record { checks = λ rest. refl; tracking = λ id. (refl, (refl, (refl, tt {0}))); mapping = without_mapping (codes "delta.appendOnly") refl }

mode : IsApart (codes "delta.columnMapping.mode")
mode = record { checks = λ rest. refl; tracking = λ id. (refl, (refl, (refl, tt {0}))); mapping = without_mapping (codes "delta.columnMapping.mode") refl }

allowed : (name : List ℕ) → is_property name ≡ true → IsApart name
allowed name is = first (bytes_eq name (codes "delta.enableChangeDataFeed")) (bytes_eq name (codes "delta.appendOnly")) (bytes_eq name (codes "delta.columnMapping.mode")) refl refl refl is
  where
    first : (a b c : Bool) → bytes_eq name (codes "delta.enableChangeDataFeed") ≡ a → bytes_eq name (codes "delta.appendOnly") ≡ b → bytes_eq name (codes "delta.columnMapping.mode") ≡ c
        → (a || (b || (c || false))) ≡ true → IsApart name
    first true b c x y z some = rw (same name (codes "delta.enableChangeDataFeed") x) feed
    first false true c x y z some = rw (same name (codes "delta.appendOnly") y) append
    first false false true x y z some = rw (same name (codes "delta.columnMapping.mode") z) mode
    first false false false x y z some = absurd cc

no_check : (elements : List Element) (name : List ℕ) → ((rest : List ℕ) → bytes_eq (codes "delta.constraints." ++ rest) name ≡ false) → Lacks name (checks_of elements)
no_check [] name other = tt
no_check (element.Column column ∷ elements) name other = no_check elements name other
no_check (element.Check check ∷ elements) name other = (other check.name.text, no_check elements name other)

pub said : (stmt : CreateStmt) (id name : List ℕ) → IsDistinct bytes_eq (keys_of (given stmt.properties)) → is_property name ≡ true
    → text_under (new_configuration stmt id) name ≡ text_under (given stmt.properties) name
unfolding configuration_of
said stmt id name distinct is =
    let apart = allowed name is in
    let properties = given stmt.properties in
    let checks = checks_of stmt.elements in
    let tracking = tracking_of id in
    let mapping = mapping_of (maps_columns stmt) (length (new_columns stmt id)) in
    ap (λ (pairs : Pairs). text_under pairs name) (joined [] (properties ++ checks ++ tracking) mapping)
    ∙ passed (with_pairs [] (properties ++ checks ++ tracking)) mapping name (apart.mapping (maps_columns stmt) (length (new_columns stmt id)))
    ∙ ap (λ (pairs : Pairs). text_under pairs name) (joined [] (properties ++ checks) tracking)
    ∙ passed (with_pairs [] (properties ++ checks)) tracking name (apart.tracking id)
    ∙ ap (λ (pairs : Pairs). text_under pairs name) (joined [] properties checks)
    ∙ passed (with_pairs [] properties) checks name (no_check stmt.elements name apart.checks)
    ∙ alone [] properties name distinct refl
