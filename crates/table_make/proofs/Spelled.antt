-- The partition columns by the names of their elements are those that PARTITIONED BY names.
use Rattle.std.proofs.Common.{◌≡◌, ◌<◌, ℕ, zero, suc, List, [], ◌∷◌, length, get_or, Bool, true, false, cond, ◌||◌, Option, Some, None, option_map, refl, sym, ap, ◌∙◌, find, arith}
use Rattle.std.specs.List.{All, cons_option, filter_map, list_all, list_any}
use Rattle.std.specs.Str.{bytes_eq, str_eq_ignore_ascii_case, str_to_ascii_lowercase}
use Rattle.std.proofs.lemmas.Slice.Eq.{bytes_eq-Decides}
use Rattle.delta_schema.specs.Names.{has_twins, is_among}
use Rattle.delta_schema.specs.Writable.{ArePartitions, column_names}
use Rattle.delta_schema.specs.declared.schema.ColumnDef.{ColumnDef}
use Rattle.sql_tree.specs.declared.tree.Name.{Name}
use Rattle.table_make.specs.NewColumns.{has_name, is_named, partitions_of, spelled}

-- ---- names that are equal up to the case of ASCII letters

abbrev low : List ℕ → List ℕ
low = str_to_ascii_lowercase

same : (a b : List ℕ) → str_eq_ignore_ascii_case a b ≡ true → low a ≡ low b
same a b is = (bytes_eq-Decides (low a) (low b)).0 is

told : (a b : List ℕ) → low a ≡ low b → str_eq_ignore_ascii_case a b ≡ true
told a b is = (bytes_eq-Decides (low a) (low b)).1 is

byte_same : (a : List ℕ) → bytes_eq a a ≡ true
byte_same a = (bytes_eq-Decides a a).1 refl

false_of : (b : Bool) → (b ≡ true → ⊥) → b ≡ false
false_of true not_so = absurd (not_so refl)
false_of false not_so = refl

apart : {b : Bool} → b ≡ true → b ≡ false → ⊥
apart is not = let z = sym is ∙ not in absurd cc

left_false : (a b : Bool) → (a || b) ≡ false → a ≡ false
left_false true b is = is
left_false false b is = refl

right_false : (a b : Bool) → (a || b) ≡ false → b ≡ false
right_false true b is = absurd cc
right_false false b is = is

either : (a b : Bool) → b ≡ true → (a || b) ≡ true
either true b is = refl
either false b is = is

-- ---- the column of a name

twin_at : (name : List ℕ) (columns : List ColumnDef) (i : ℕ) (d : ColumnDef) → i < length columns
    → str_eq_ignore_ascii_case name (get_or columns i d).name ≡ true → list_any (str_eq_ignore_ascii_case name) (column_names columns) ≡ true
twin_at name [] i d within is = absurd (omega arith)
twin_at name (c ∷ columns) zero d within is = rw is refl
twin_at name (c ∷ columns) (suc i) d within is = either (str_eq_ignore_ascii_case name c.name) _ (twin_at name columns i d (omega arith) is)

-- among columns without twins a name finds the column that has it
pub finds : (text : List ℕ) (columns : List ColumnDef) (i : ℕ) (d : ColumnDef) → has_twins (column_names columns) ≡ false → i < length columns
    → has_name text (get_or columns i d) ≡ true → find (has_name text) columns ≡ Some (get_or columns i d)
finds text [] i d alone within is = absurd (omega arith)
finds text (c ∷ columns) zero d alone within is = rw is refl
finds text (c ∷ columns) (suc i) d alone within is = by (has_name text c) refl (finds text columns i d rest_alone (omega arith) is)
  where
    rest_alone : has_twins (column_names columns) ≡ false
    rest_alone = right_false (list_any (str_eq_ignore_ascii_case c.name) (column_names columns)) _ alone

    no_twin : list_any (str_eq_ignore_ascii_case c.name) (column_names columns) ≡ false
    no_twin = left_false _ (has_twins (column_names columns)) alone

    by : (b : Bool) → has_name text c ≡ b → find (has_name text) columns ≡ Some (get_or columns i d) → cond b (Some c) (find (has_name text) columns) ≡ Some (get_or columns i d)
    by false here rest = rest
    by true here rest =
        let both : low c.name ≡ low (get_or columns i d).name = same c.name text here ∙ sym (same (get_or columns i d).name text is) in
        absurd (apart (twin_at c.name columns i d (omega arith) (told c.name (get_or columns i d).name both)) no_twin)

found_has : (text : List ℕ) (columns : List ColumnDef) (c : ColumnDef) → find (has_name text) columns ≡ Some c → has_name text c ≡ true
found_has text [] c is = absurd cc
found_has text (x ∷ columns) c is = by (has_name text x) refl is (found_has text columns c)
  where
    by : (b : Bool) → has_name text x ≡ b → cond b (Some x) (find (has_name text) columns) ≡ Some c → (find (has_name text) columns ≡ Some c → has_name text c ≡ true) → has_name text c ≡ true
    by true here found rest = let e : x ≡ c = cc in rw (← e) here
    by false here found rest = rest found

found_among : (text : List ℕ) (columns : List ColumnDef) (c : ColumnDef) → find (has_name text) columns ≡ Some c → is_among (column_names columns) c.name ≡ true
found_among text [] c is = absurd cc
found_among text (x ∷ columns) c is = by (has_name text x) is (found_among text columns c)
  where
    by : (b : Bool) → cond b (Some x) (find (has_name text) columns) ≡ Some c → (find (has_name text) columns ≡ Some c → is_among (column_names columns) c.name ≡ true)
        → is_among (column_names (x ∷ columns)) c.name ≡ true
    by true found rest = let e : x ≡ c = cc in rw (e, byte_same c.name) refl
    by false found rest = either (bytes_eq c.name x.name) _ (rest found)

-- ---- the partition columns

there : (columns : List ColumnDef) (names : List Name) → list_all (is_among (column_names columns)) (filter_map (spelled columns) names) ≡ true
there columns [] = refl
there columns (name ∷ names) = by (find (has_name name.text) columns) refl (there columns names)
  where
    by : (found : Option ColumnDef) → find (has_name name.text) columns ≡ found → list_all (is_among (column_names columns)) (filter_map (spelled columns) names) ≡ true
        → list_all (is_among (column_names columns)) (cons_option (option_map (λ column. column.name) found) (filter_map (spelled columns) names)) ≡ true
    by None is rest = rest
    by (Some c) is rest = rw (found_among name.text columns c is) rest

-- a column is among them exactly where it is named
flagged : (columns : List ColumnDef) (names : List Name) (i : ℕ) (d : ColumnDef) → has_twins (column_names columns) ≡ false → i < length columns
    → is_among (filter_map (spelled columns) names) (get_or columns i d).name ≡ is_named names (get_or columns i d).name
flagged columns [] i d alone within = refl
flagged columns (name ∷ names) i d alone within = by (find (has_name name.text) columns) refl (flagged columns names i d alone within)
  where
    column : ColumnDef
    column = get_or columns i d

    turned : str_eq_ignore_ascii_case name.text column.name ≡ true → has_name name.text column ≡ true
    turned is = told column.name name.text (sym (same name.text column.name is))

    by : (found : Option ColumnDef) → find (has_name name.text) columns ≡ found → is_among (filter_map (spelled columns) names) column.name ≡ is_named names column.name
        → is_among (cons_option (option_map (λ column. column.name) found) (filter_map (spelled columns) names)) column.name ≡ is_named (name ∷ names) column.name
    by None is rest =
        let other : str_eq_ignore_ascii_case name.text column.name ≡ false =
        false_of _ (λ here. let z = sym is ∙ finds name.text columns i d alone within (turned here) in absurd cc) in
        rw other rest
    by (Some c) is rest = one (str_eq_ignore_ascii_case name.text column.name) refl
      where
        one : (b : Bool) → str_eq_ignore_ascii_case name.text column.name ≡ b
            → (bytes_eq column.name c.name || is_among (filter_map (spelled columns) names) column.name) ≡ (b || is_named names column.name)
        one true here =
            let e : c ≡ column = let z = sym is ∙ finds name.text columns i d alone within (turned here) in cc in
            rw (e, byte_same column.name) refl
        one false here =
            let other : bytes_eq column.name c.name ≡ false = false_of _ (λ equal.
            let e : column.name ≡ c.name = (bytes_eq-Decides column.name c.name).0 equal in
            let f = same c.name name.text (found_has name.text columns c is) in
            apart (told name.text column.name (sym (ap low e ∙ f))) here) in
            rw other rest

-- the names of the partition columns go with columns that say whether they are named
pub partitioned : (columns : List ColumnDef) (names : List Name) → has_twins (column_names columns) ≡ false
    → All (λ column. column.partition ≡ is_named names column.name) columns → ArePartitions (partitions_of columns names) columns
unfolding partitions_of
partitioned columns names alone flags = record {
  flags = λ i d within. flagged columns names i d alone within ∙ sym (flags i d within);
  there = there columns names;
}
