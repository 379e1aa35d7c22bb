-- What is written for leaves is read as those leaves.
use Rattle.std.proofs.Common.{◌≡◌, ℕ, zero, suc, ◌≤◌, List, [], ◌∷◌, length, map, Bool, true, false, cond, Option, Some, None, option_map, option_and_then, refl, sym, ap, ◌∙◌, arith, le-leb, ℤ, pos, codes}
use Rattle.std.specs.Prelude.{IfSome, FitsSigned, ◌&&◌, unwrap_or, ◌==◌, nat_le}
use Rattle.std.specs.Int.{w32}
use Rattle.std.specs.Ordering.{int_eq}
use Rattle.std.specs.List.{AllByRecursion}
use Rattle.std.proofs.lemmas.Bool.Decides.{Decides-int_eq}
use Rattle.thrift_compact.specs.declared.tree.Node.{Node}
use Rattle.thrift_compact.specs.declared.tree.Node.TheVariants as n
use Rattle.thrift_compact.specs.declared.tree.Field.{Field}
use Rattle.parquet_meta.specs.declared.metadata.Logical.{Logical}
use Rattle.parquet_meta.specs.declared.metadata.Logical.TheVariants as logical
use Rattle.parquet_meta.specs.declared.metadata.LeafSchema.{LeafSchema}
use Rattle.parquet_meta.specs.declared.elements.Element.{Element}
use Rattle.parquet_meta.specs.Forms.{needed, optional, maybe, i32, binary, struct}
use Rattle.parquet_meta.specs.Logicals.{logical_of}
use Rattle.parquet_meta.specs.Elements.{element_of}
use Rattle.parquet_meta.specs.Leaves.{count_of, leaf_of, leaves_of, schema_leaves}
use Rattle.parquet_meta.specs.Writable.{IsWritableLogical, IsWritableLeaf}
use Rattle.parquet_meta.specs.Steps.{LogicalFits, LeafFits}
use Rattle.parquet_meta.specs.Written as w
use Rattle.parquet_meta.proofs.Tables.{pick, needed-table, optional-table, i32_back, binary_back, struct_back, maybe_back}

-- ---- logical types

abbrev told_logical : Logical → Option Logical
told_logical logical.Absent = None
told_logical logical.Str = Some logical.Str
told_logical (logical.Decimal scale) = Some (logical.Decimal scale)
told_logical logical.Date = Some logical.Date
told_logical (logical.Timestamp unit) = Some (logical.Timestamp unit)
told_logical logical.Other = Some logical.Other

told-back : (l : Logical) → unwrap_or (told_logical l) logical.Absent ≡ l
told-back logical.Absent = refl
told-back logical.Str = refl
told-back (logical.Decimal scale) = refl
told-back logical.Date = refl
told-back (logical.Timestamp unit) = refl
told-back logical.Other = refl

abbrev decimal_fields : ℤ → List Field
decimal_fields scale = w.fields_of ((pos 1, Some (w.whole_32 scale)) ∷ [])

abbrev unit_fields : ℕ → List Field
unit_fields unit = w.fields_of ((pos 2, w.unit_content unit) ∷ [])

abbrev member_fields : ℕ → List Field
member_fields unit = w.fields_of ((pos unit, Some (w.struct [])) ∷ [])

timestamp_back : (unit : ℕ) → unit ≤ 3 → logical_of (w.fields_of ((pos 8, Some (w.struct ((pos 2, w.unit_content unit) ∷ []))) ∷ [])) ≡ Some (logical.Timestamp unit)
timestamp_back zero h = rw (n.outs-Struct (unit_fields 0)) refl
timestamp_back (suc zero) h = rw (n.outs-Struct (unit_fields 1), n.outs-Struct (member_fields 1), n.outs-Struct []) refl
timestamp_back (suc (suc zero)) h = rw (n.outs-Struct (unit_fields 2), n.outs-Struct (member_fields 2), n.outs-Struct []) refl
timestamp_back (suc (suc (suc zero))) h = rw (n.outs-Struct (unit_fields 3), n.outs-Struct (member_fields 3), n.outs-Struct []) refl
timestamp_back (suc (suc (suc (suc k)))) h = absurd (omega arith)

abbrev logical_read : Option (ℕ × Node) → Option (Option Logical)
logical_read o = maybe (struct logical_of) (pick true (pos 10) o None)

-- a union that says this
told_by : (fields : List Field) (l : Logical) → logical_of fields ≡ Some l → logical_read (Some (0, n.Struct fields)) ≡ Some (Some l)
told_by fields l is = ap (λ (o : Option Logical). option_map Some o) (struct_back logical_of fields ∙ is)

logical_back : (l : Logical) → LogicalFits l → IsWritableLogical l → logical_read (w.logical_content l) ≡ Some (told_logical l)
logical_back logical.Absent f h = refl
logical_back logical.Str f h = told_by (w.fields_of ((pos 1, Some (w.struct [])) ∷ [])) logical.Str (rw (n.outs-Struct []) refl)
logical_back (logical.Decimal scale) f h =
    told_by (w.fields_of ((pos 5, Some (w.struct ((pos 1, Some (w.whole_32 scale)) ∷ []))) ∷ [])) (logical.Decimal scale) (rw (n.outs-Struct (decimal_fields scale), i32_back scale f) refl)
logical_back logical.Date f h = told_by (w.fields_of ((pos 6, Some (w.struct [])) ∷ [])) logical.Date (rw (n.outs-Struct []) refl)
logical_back (logical.Timestamp unit) f h = told_by (w.fields_of ((pos 8, Some (w.struct ((pos 2, w.unit_content unit) ∷ []))) ∷ [])) (logical.Timestamp unit) (timestamp_back unit h)
logical_back logical.Other f h = absurd h

-- ---- elements

abbrev pub leaf_element : LeafSchema → Element
leaf_element leaf = record { physical = Some (pos leaf.physical); length = w.told_length leaf.length; repetition = Some (pos (w.repetition_by leaf.optional leaf.repeated)); name = leaf.name; children = None; field_id = leaf.field_id; annotation = leaf.annotation }

maybe_i32_back : (id : ℤ) (o : Option ℤ) → IfSome o (FitsSigned w32) → maybe i32 (pick true id (option_map w.whole_32 o) None) ≡ Some o
maybe_i32_back id o h = maybe_back i32 id w.whole_32 (FitsSigned w32) i32_back o h

module _ (leaf : LeafSchema) (fits : LeafFits leaf) (writable : IsWritableLeaf leaf) where
  pub element_back : element_of (w.fields_of (w.leaf_table leaf)) ≡ Some (leaf_element leaf)
  element_back =
      let t = w.leaf_table leaf in
      let physical : optional i32 (pos 1) (w.fields_of t) ≡ Some (Some (pos leaf.physical)) = optional-table i32 (pos 1) t ∙ ap (option_map Some) (i32_back (pos leaf.physical) fits.physical) in
      let length : optional i32 (pos 2) (w.fields_of t) ≡ Some (w.told_length leaf.length) = optional-table i32 (pos 2) t ∙ maybe_i32_back (pos 2) (w.told_length leaf.length) fits.length in
      let repetition : optional i32 (pos 3) (w.fields_of t) ≡ Some (Some (pos (w.repetition_by leaf.optional leaf.repeated))) =
      optional-table i32 (pos 3) t ∙ ap (option_map Some) (i32_back (pos (w.repetition_by leaf.optional leaf.repeated)) fits.repetition) in
      let name : needed binary (pos 4) (w.fields_of t) ≡ Some leaf.name = needed-table binary (pos 4) t ∙ binary_back leaf.name in
      let children : optional i32 (pos 5) (w.fields_of t) ≡ Some None = optional-table i32 (pos 5) t in
      let converted : optional i32 (pos 6) (w.fields_of t) ≡ Some leaf.annotation.converted = optional-table i32 (pos 6) t ∙ maybe_i32_back (pos 6) leaf.annotation.converted fits.converted in
      let scale : optional i32 (pos 7) (w.fields_of t) ≡ Some leaf.annotation.scale = optional-table i32 (pos 7) t ∙ maybe_i32_back (pos 7) leaf.annotation.scale fits.scale in
      let precision : optional i32 (pos 8) (w.fields_of t) ≡ Some leaf.annotation.precision = optional-table i32 (pos 8) t ∙ maybe_i32_back (pos 8) leaf.annotation.precision fits.precision in
      let field_id : optional i32 (pos 9) (w.fields_of t) ≡ Some leaf.field_id = optional-table i32 (pos 9) t ∙ maybe_i32_back (pos 9) leaf.field_id fits.field_id in
      let logical : optional (struct logical_of) (pos 10) (w.fields_of t) ≡ Some (told_logical leaf.annotation.logical) =
      optional-table (struct logical_of) (pos 10) t ∙ logical_back leaf.annotation.logical fits.logical writable.logical in
      rw (physical, length, repetition, name, children, converted, scale, precision, field_id, logical, told-back leaf.annotation.logical) refl

pub root_back : (count : ℕ) → FitsSigned w32 (pos count)
    → element_of (w.fields_of (w.root_table count)) ≡ Some (record {
      physical = None;
      length = None;
      repetition = None;
      name = codes "schema";
      children = Some (pos count);
      field_id = None;
      annotation = record { converted = None; scale = None; precision = None; logical = logical.Absent };
    })
root_back count fits = rw (n.outs-Binary (codes "schema"), i32_back (pos count) fits) refl

-- ---- leaves

told_length-back : (z : ℤ) → unwrap_or (w.told_length z) (pos 0) ≡ z
told_length-back z = by_test (int_eq z (pos 0)) refl
  where
    by_test : (b : Bool) → int_eq z (pos 0) ≡ b → unwrap_or (cond b None (Some z)) (pos 0) ≡ z
    by_test true is = sym ((Decides-int_eq z (pos 0)).0 is)
    by_test false is = refl

repetition_small : (o r : Bool) → nat_le (w.repetition_by o r) 2 ≡ true
repetition_small true true = refl
repetition_small true false = refl
repetition_small false true = refl
repetition_small false false = refl

optional-back : (o r : Bool) → (o && r) ≡ false → (w.repetition_by o r == 1) ≡ o
optional-back true true h = absurd cc
optional-back true false h = refl
optional-back false true h = refl
optional-back false false h = refl

repeated-back : (o r : Bool) → (w.repetition_by o r == 2) ≡ r
repeated-back true true = refl
repeated-back true false = refl
repeated-back false true = refl
repeated-back false false = refl

leaf_back : (leaf : LeafSchema) → IsWritableLeaf leaf → leaf_of true (leaf_element leaf) (leaf_element leaf) ≡ Some leaf
leaf_back leaf is =
    rw (repetition_small leaf.optional leaf.repeated, le-leb leaf.physical 7 is.physical, told_length-back leaf.length, is.length, optional-back leaf.optional leaf.repeated is.single, repeated-back leaf.optional leaf.repeated)
    (ap (λ (b : Bool). Some (record leaf { top = b })) (sym is.top))

leaves_back : (owner : Element) (leaves : List LeafSchema) → AllByRecursion IsWritableLeaf leaves → leaves_of owner 0 (length leaves) (map leaf_element leaves) ≡ Some leaves
leaves_back owner [] h = refl
leaves_back owner (leaf ∷ leaves) h = rw (leaf_back leaf h.0, leaves_back (leaf_element leaf) leaves h.1) refl

pub schema_back : (root : Element) (leaves : List LeafSchema) → root.children ≡ Some (pos (length leaves)) → AllByRecursion IsWritableLeaf leaves
    → schema_leaves (root ∷ map leaf_element leaves) ≡ Some leaves
schema_back root leaves is h = ap (λ (o : Option ℤ). option_and_then (λ count. leaves_of root 0 count (map leaf_element leaves)) (count_of o)) is ∙ leaves_back root leaves h
