-- The columns of a new table are told apart by their ids and by their physical names.
use Rattle.std.proofs.Common.{◌≡◌, ◌<◌, ◌≤◌, ◌^◌, ℕ, zero, suc, ◌+◌, List, [], ◌∷◌, ◌++◌, codes, length, length-take, map, take, Bool, true, false, Option, Some, None, option_map, refl, ap, ◌∙◌, find, arith}
use Rattle.std.specs.Fmt.{decimal}
use Rattle.std.specs.List.{enumerate_from, list_any, range_with_len, slice_get}
use Rattle.std.specs.Option.{option_map_or}
use Rattle.std.specs.Ordering.{int_eq}
use Rattle.std.specs.Str.{bytes_eq}
use Rattle.std.proofs.lemmas.Bool.Decides.{nat_tests}
use Rattle.std.proofs.lemmas.Fmt.{decimal_injective}
use Rattle.std.proofs.lemmas.List.{append_cancel_left, append_cancel_right, length-map}
use Rattle.std.proofs.lemmas.List.FromFn.{length-enumerate_from}
use Rattle.std.proofs.lemmas.Slice.Eq.{bytes_eq-Decides}
use Rattle.column_mapping.specs.Mapping.{breaks_at, clashes, first_broken, is_unmarked}
use Rattle.column_mapping.specs.declared.mode.Mode.{Mode}
use Rattle.column_mapping.specs.declared.mode.Mode.TheVariants as mode
use Rattle.delta_schema.specs.declared.schema.ColumnDef.{ColumnDef}
use Rattle.sql_tree.specs.declared.tree.Name.{Name}
use Rattle.sql_statements.specs.declared.ColumnElement.{ColumnElement}
use Rattle.sql_statements.specs.declared.CreateStmt.{CreateStmt}
use Rattle.table_make.specs.Created.{maps_columns, new_columns}
use Rattle.table_make.specs.Good.{GoesWith}
use Rattle.table_make.specs.NewColumns.{column_elements, column_of, columns_of, id_of, physical_of}

-- ---- numbers

false_of : (b : Bool) → (b ≡ true → ⊥) → b ≡ false
false_of true not_so = absurd (not_so refl)
false_of false not_so = refl

same_number : (m n : ℕ) (id : List ℕ) → m < 2 ^ 64 → n < 2 ^ 64 → physical_of m id ≡ physical_of n id → m ≡ n
same_number m n id low high is =
    let ends = append_cancel_right (codes "col-" ++ decimal m ++ codes "-") (codes "col-" ++ decimal n ++ codes "-") id is in
    let dashes = append_cancel_right (codes "col-" ++ decimal m) (codes "col-" ++ decimal n) (codes "-") ends in
    decimal_injective m n low high (append_cancel_left (codes "col-") (decimal m) (decimal n) dashes)

other_name : (m n : ℕ) (id : List ℕ) → n < m → m ≤ 501 → bytes_eq (physical_of m id) (physical_of n id) ≡ false
other_name m n id less small = false_of _ (λ same.
    let e : m ≡ n = same_number m n id (omega arith) (omega arith) ((bytes_eq-Decides (physical_of m id) (physical_of n id)).0 same) in
    absurd (omega arith))

other_id : (m n : ℕ) → n < m → m ≤ 501 → int_eq (id_of m) (id_of n) ≡ false
other_id m n less small = grind (arith, nat_tests)

-- ---- columns

module _ (partitions : List Name) (id : List ℕ) where
  abbrev numbered : ℕ → List ColumnElement → List ColumnDef
  numbered number elements = map (column_of partitions (Some id)) (enumerate_from number elements)

  count : (number : ℕ) (elements : List ColumnElement) → length (numbered number elements) ≡ length elements
  count number elements = length-map (enumerate_from number elements) (column_of partitions (Some id)) ∙ length-enumerate_from number elements

  -- no earlier column clashes with one of a greater number
  no_clash : (m : ℕ) (element : ColumnElement) (n : ℕ) (earlier : List ColumnElement) → n + length earlier ≤ m → m ≤ 501
      → list_any (clashes (column_of partitions (Some id) (m, element))) (numbered n earlier) ≡ false
  no_clash m element n [] below small = refl
  no_clash m element n (other ∷ earlier) below small =
      rw (other_id m n (omega arith) small, other_name m n id (omega arith) small) (no_clash m element (n + 1) earlier (omega arith) small)

  taken : (at n : ℕ) (elements : List ColumnElement) → take at (numbered n elements) ≡ numbered n (take at elements)
  taken zero n elements = refl
  taken (suc at) n [] = refl
  taken (suc at) n (element ∷ elements) = ap (λ (rest : List ColumnDef). column_of partitions (Some id) (n, element) ∷ rest) (taken at (n + 1) elements)

  got : (at n : ℕ) (elements : List ColumnElement)
      → slice_get (numbered n elements) at ≡ option_map (λ element. column_of partitions (Some id) (n + at, element)) (slice_get elements at)
  got at n [] = refl
  got zero n (element ∷ elements) =
      let here : n ≡ n + 0 = omega arith in
      ap (λ (k : ℕ). Some (column_of partitions (Some id) (k, element))) here
  got (suc at) n (element ∷ elements) =
      let there : n + 1 + at ≡ n + suc at = omega arith in
      got at (n + 1) elements ∙ ap (λ (k : ℕ). option_map (λ other. column_of partitions (Some id) (k, other)) (slice_get elements at)) there

  unclashed : (at n : ℕ) (elements : List ColumnElement) (here : Option ColumnElement) → n + at ≤ 501
      → option_map_or (is_unmarked (numbered n (take at elements))) (option_map (λ element. column_of partitions (Some id) (n + at, element)) here) false ≡ false
  unclashed at n elements None small = refl
  unclashed at n elements (Some element) small =
      no_clash (n + at) element n (take at elements) (let most = length-take at elements in omega arith) small

  -- the column at a place isn't broken
  unbroken : (at : ℕ) (elements : List ColumnElement) → at ≤ 500
      → option_map_or (is_unmarked (take at (numbered 1 elements))) (slice_get (numbered 1 elements) at) false ≡ false
  unbroken at elements small = rw (taken at 1 elements, got at 1 elements) (unclashed at 1 elements (slice_get elements at) (omega arith))

-- ---- the mapping

find_none : (test : ℕ → Bool) (a n : ℕ) → ((k : ℕ) → k < a + n → test k ≡ false) → find test (range_with_len a n) ≡ None
find_none test a zero none = refl
find_none test a (suc n) none = rw (none a (omega arith)) (find_none test (a + 1) n (λ k within. none k (omega arith)))

-- in mode none nothing is asked
plain : (found : Option ColumnDef) → option_map_or (λ (_ : ColumnDef). false) found false ≡ false
plain None = refl
plain (Some column) = refl

-- columns that are told apart are mapped in each mode
in_each : (m : Mode) (columns : List ColumnDef) → ((at : ℕ) → at < length columns → option_map_or (is_unmarked (take at columns)) (slice_get columns at) false ≡ false)
    → first_broken m columns ≡ None
unfolding first_broken
in_each mode.Plain columns each = find_none (breaks_at mode.Plain columns) 0 (length columns) (λ at within. plain (slice_get columns at))
in_each mode.ByName columns each = find_none (breaks_at mode.ByName columns) 0 (length columns) (λ at within. each at (omega arith))
in_each mode.ById columns each = find_none (breaks_at mode.ById columns) 0 (length columns) (λ at within. each at (omega arith))

unasked : (columns : List ColumnDef) → first_broken mode.Plain columns ≡ None
unfolding first_broken
unasked columns = find_none (breaks_at mode.Plain columns) 0 (length columns) (λ at within. plain (slice_get columns at))

mapped_columns : (stmt : CreateStmt) (id : List ℕ) (m : Mode) → length (column_elements stmt.elements) ≤ 500 → maps_columns stmt ≡ true
    → first_broken m (new_columns stmt id) ≡ None
unfolding columns_of
mapped_columns stmt id m few mapped =
    rw mapped (in_each m (numbered stmt.partitions id 1 (column_elements stmt.elements)) (λ at within.
    unbroken stmt.partitions id at (column_elements stmt.elements) (omega (arith, count stmt.partitions id 1 (column_elements stmt.elements)))))

pub good_mapping : (stmt : CreateStmt) (id : List ℕ) (m : Mode) → length (column_elements stmt.elements) ≤ 500 → GoesWith (maps_columns stmt) m
    → first_broken m (new_columns stmt id) ≡ None
good_mapping stmt id mode.Plain few mapped = unasked (new_columns stmt id)
good_mapping stmt id mode.ByName few mapped = mapped_columns stmt id mode.ByName few mapped
good_mapping stmt id mode.ById few mapped = mapped_columns stmt id mode.ById few mapped
