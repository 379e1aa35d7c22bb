-- The schema of a new table is one that is read back.
use Rattle.std.proofs.Common.{◌≡◌, ◌+◌, ℕ, List, [], ◌∷◌, length, map, Bool, false, ◌&&◌, Option, Some, None, option_map, IfSome, is_some, refl, ap, ◌∙◌, arith}
use Rattle.std.specs.List.{All, enumerate_from, list_all}
use Rattle.std.proofs.lemmas.List.{length-map}
use Rattle.std.proofs.lemmas.List.Elements.{All-cons, All-head, All-nil, All-tail}
use Rattle.std.proofs.lemmas.List.FromFn.{length-enumerate_from}
use Rattle.delta_schema.specs.Metadata.{is_zero}
use Rattle.delta_schema.specs.Writable.{ArePartitions, IsOfBits, IsOther, IsRule, IsWritable, IsWritableColumn, column_names}
use Rattle.delta_schema.specs.declared.schema.ColumnDef.{ColumnDef}
use Rattle.delta_schema.specs.declared.schema.IdentityRule.{IdentityRule}
use Rattle.sql_tree.specs.declared.tree.Name.{Name}
use Rattle.sql_statements.specs.declared.ColumnElement.{ColumnElement}
use Rattle.sql_statements.specs.declared.CreateStmt.{CreateStmt}
use Rattle.sql_statements.specs.declared.Made.{Made}
use Rattle.sql_statements.specs.declared.Made.TheVariants as made
use Rattle.table_make.specs.Created.{mapping, maps_columns, new_columns}
use Rattle.table_make.specs.Good.{HasGoodColumns, IsGoodColumn, IsInRange}
use Rattle.table_make.specs.NewColumns.{column_elements, column_of, columns_of, id_of, identity_of, is_named, partitions_of}
use Rattle.table_make.proofs.Ordered.{none_ordered}
use Rattle.table_make.proofs.Spelled.{partitioned}

-- ---- a column

module _ (partitions : List Name) (mapping : Option (List ℕ)) where
  abbrev numbered : ℕ → List ColumnElement → List ColumnDef
  numbered number elements = map (column_of partitions mapping) (enumerate_from number elements)

  names : (number : ℕ) (elements : List ColumnElement) → column_names (numbered number elements) ≡ map (λ element. element.name.text) elements
  names number [] = refl
  names number (element ∷ elements) = ap (λ (rest : List (List ℕ)). element.name.text ∷ rest) (names (number + 1) elements)

  abbrev IsFlagged : ColumnDef → Type 0
  IsFlagged column = column.partition ≡ is_named partitions column.name

  flags : (number : ℕ) (elements : List ColumnElement) → All IsFlagged (numbered number elements)
  flags number [] = All-nil IsFlagged
  flags number (element ∷ elements) = All-cons IsFlagged (column_of partitions mapping (number, element)) (numbered (number + 1) elements) refl (flags (number + 1) elements)

  kept : (number : ℕ) (elements : List ColumnElement)
      → list_all (λ column. column.partition) (numbered number elements) ≡ list_all (is_named partitions) (map (λ element. element.name.text) elements)
  kept number [] = refl
  kept number (element ∷ elements) = ap (λ (rest : Bool). is_named partitions element.name.text && rest) (kept (number + 1) elements)

  count : (number : ℕ) (elements : List ColumnElement) → length (numbered number elements) ≡ length elements
  count number elements = length-map (enumerate_from number elements) (column_of partitions mapping) ∙ length-enumerate_from number elements

id_fits : (number : ℕ) (mapping : Option (List ℕ)) → IfSome (option_map (λ _. id_of number) mapping) (IsOfBits 32)
id_fits number None = tt
id_fits number (Some id) = omega arith

rule_good : (rule : Option IdentityRule) → IfSome rule (λ r. r.mark ≡ None) → IfSome rule (λ r. is_zero r.step ≡ false) → IfSome rule (λ r. IsOfBits 64 r.start × IsOfBits 64 r.step) → IfSome rule IsRule
rule_good None none moves ranges = tt
rule_good (Some rule) none moves ranges = record { start = ranges.0; step = ranges.1; moves = moves; mark = rw none (tt {0}) }

no_mark : (made : Option Made) → IfSome (identity_of made) (λ r. r.mark ≡ None)
no_mark None = tt
no_mark (Some (made.Generated rule)) = tt
no_mark (Some (made.Identity identity)) = refl

column_good : (stmt : CreateStmt) (mapping : Option (List ℕ)) (number : ℕ) (element : ColumnElement) → IsGoodColumn stmt element → IsInRange element
    → IsWritableColumn (column_of stmt.partitions mapping (number, element))
column_good stmt mapping number element good ranges = record {
  type = good.type;
  placed = good.placed;
  id = id_fits number mapping;
  rule = rule_good (identity_of element.made) (no_mark element.made) good.moves ranges;
  no_rule = λ none. refl;
  no_invariant = refl;
  ordered = none_ordered;
  others = All-nil (IsOther (is_some (identity_of element.made)));
}

columns_good : (stmt : CreateStmt) (mapping : Option (List ℕ)) (number : ℕ) (elements : List ColumnElement) → All (IsGoodColumn stmt) elements → All IsInRange elements
    → All IsWritableColumn (numbered stmt.partitions mapping number elements)
columns_good stmt mapping number [] good ranges = All-nil IsWritableColumn
columns_good stmt mapping number (element ∷ elements) good ranges =
    All-cons IsWritableColumn (column_of stmt.partitions mapping (number, element)) (numbered stmt.partitions mapping (number + 1) elements)
    (column_good stmt mapping number element (All-head (IsGoodColumn stmt) element elements good) (All-head IsInRange element elements ranges))
    (columns_good stmt mapping (number + 1) elements (All-tail (IsGoodColumn stmt) element elements good) (All-tail IsInRange element elements ranges))

-- ---- the schema

module _ (stmt : CreateStmt) (id : List ℕ) (good : HasGoodColumns stmt) where
  pub writable_schema : IsWritable (new_columns stmt id)
  unfolding columns_of
  writable_schema =
      let elements = column_elements stmt.elements in
      let map = mapping (maps_columns stmt) id in
      record {
        few = rw (count stmt.partitions map 1 elements) good.few;
        named = rw (names stmt.partitions map 1 elements) good.named;
        distinct = rw (names stmt.partitions map 1 elements) good.distinct;
        kept = kept stmt.partitions map 1 elements ∙ good.kept;
        each = columns_good stmt map 1 elements good.each good.ranges;
      }

  pub partitions_good : ArePartitions (partitions_of (new_columns stmt id) stmt.partitions) (new_columns stmt id)
  unfolding columns_of
  partitions_good =
      let elements = column_elements stmt.elements in
      let map = mapping (maps_columns stmt) id in
      partitioned (new_columns stmt id) stmt.partitions (rw (names stmt.partitions map 1 elements) good.distinct) (flags stmt.partitions map 1 elements)
