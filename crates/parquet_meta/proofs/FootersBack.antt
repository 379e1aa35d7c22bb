-- What is written for a footer is read as that footer.
use Rattle.std.proofs.Common.{◌≡◌, ℕ, ◌<◌, ◌^◌, List, [], ◌∷◌, length, map, Bool, false, Option, Some, None, option_map, option_and_then, Ok, refl, sym, ap, ◌∙◌, arith, eq-eqb, ℤ, pos, codes}
use Rattle.std.specs.Prelude.{FitsSigned}
use Rattle.std.specs.Int.{w32, w64}
use Rattle.std.specs.List.{AllByRecursion}
use Rattle.thrift_compact.specs.Reading.{read}
use Rattle.thrift_compact.specs.declared.tree.Node.TheVariants as n
use Rattle.thrift_compact.specs.declared.tree.Field.{Field}
use Rattle.parquet_meta.specs.declared.forms.Shape.TheVariants as shape
use Rattle.parquet_meta.specs.declared.metadata.Logical.TheVariants as logical
use Rattle.parquet_meta.specs.declared.metadata.ChunkMeta.{ChunkMeta}
use Rattle.parquet_meta.specs.declared.metadata.RowGroup.{RowGroup}
use Rattle.parquet_meta.specs.declared.metadata.Footer.{Footer}
use Rattle.parquet_meta.specs.declared.elements.Element.{Element}
use Rattle.parquet_meta.specs.Forms.{needed, optional, checked, maybe_checked, i32, i64, binary, struct, list, each}
use Rattle.parquet_meta.specs.Elements.{element_of}
use Rattle.parquet_meta.specs.Chunks.{column_of, chunk_of, group_of}
use Rattle.parquet_meta.specs.Meaning.{footer_of, whole_footer, footer_in}
use Rattle.parquet_meta.specs.Writable.{IsWritableLeaf, IsWritableChunk, IsWritableFooter}
use Rattle.parquet_meta.specs.Steps.{LeafFits, ChunkFits, GroupFits, FooterFits}
use Rattle.parquet_meta.specs.Written as w
use Rattle.parquet_meta.proofs.Tables.{needed-table, optional-table, checked-table, i32_back, i64_back, binary_back, struct_back, list_back, each_back, maybe_back}
use Rattle.parquet_meta.proofs.LeavesBack.{leaf_element, element_back, root_back, schema_back}

pub both : {A : Type 0} (P Q : A → Type 0) (xs : List A) → AllByRecursion P xs → AllByRecursion Q xs → AllByRecursion (λ x. P x × Q x) xs
both P Q [] h k = tt
both P Q (x ∷ xs) h k = ((h.0, k.0), both P Q xs h.1 k.1)

all_of : {A : Type 0} (P : A → Type 0) (xs : List A) → ((x : A) → P x) → AllByRecursion P xs
all_of P [] h = tt
all_of P (x ∷ xs) h = (h x, all_of P xs h)

map_same : {A : Type 0} (xs : List A) → map (λ x. x) xs ≡ xs
map_same [] = refl
map_same (x ∷ xs) = ap (λ ys. x ∷ ys) (map_same xs)

encodings_back : (zs : List ℤ) → AllByRecursion (FitsSigned w32) zs → list i32 (w.whole_width zs) (n.List (map n.Whole zs)) ≡ Some zs
encodings_back [] h = list_back i32 0 []
encodings_back (z ∷ zs) h = list_back i32 32 (map n.Whole (z ∷ zs)) ∙ each_back (i32 32) n.Whole (λ y. y) (FitsSigned w32) i32_back (z ∷ zs) h ∙ ap Some (map_same (z ∷ zs))

module _ (c : ChunkMeta) (fits : ChunkFits c) (is : IsWritableChunk c) where
  column_back : column_of false (w.fields_of (w.column_table c)) ≡ Some (record c { external = false })
  column_back =
      let t = w.column_table c in
      let physical : needed i32 (pos 1) (w.fields_of t) ≡ Some c.physical = needed-table i32 (pos 1) t ∙ i32_back c.physical fits.physical in
      let encodings : needed (list i32) (pos 2) (w.fields_of t) ≡ Some c.encodings = needed-table (list i32) (pos 2) t ∙ encodings_back c.encodings is.encodings in
      let path : needed (list binary) (pos 3) (w.fields_of t) ≡ Some c.path =
      needed-table (list binary) (pos 3) t ∙ list_back binary 0 (map n.Binary c.path) ∙ each_back (binary 0) n.Binary (λ b. b) (λ b. Unit {0}) (λ b u. binary_back b) c.path (all_of (λ b. Unit {0}) c.path (λ b. tt)) ∙ ap Some (map_same c.path) in
      let codec : needed i32 (pos 4) (w.fields_of t) ≡ Some c.codec = needed-table i32 (pos 4) t ∙ i32_back c.codec fits.codec in
      let values : needed i64 (pos 5) (w.fields_of t) ≡ Some c.values = needed-table i64 (pos 5) t ∙ i64_back c.values in
      let unpacked : needed i64 (pos 6) (w.fields_of t) ≡ Some c.unpacked = needed-table i64 (pos 6) t ∙ i64_back c.unpacked in
      let packed : needed i64 (pos 7) (w.fields_of t) ≡ Some c.packed = needed-table i64 (pos 7) t ∙ i64_back c.packed in
      let pairs : checked shape.Structs (pos 8) (w.fields_of t) ≡ Some tt = checked-table shape.Structs (pos 8) t in
      let page_at : needed i64 (pos 9) (w.fields_of t) ≡ Some c.page_at = needed-table i64 (pos 9) t ∙ i64_back c.page_at in
      let index : checked shape.I64 (pos 10) (w.fields_of t) ≡ Some tt = checked-table shape.I64 (pos 10) t in
      let dictionary_at : optional i64 (pos 11) (w.fields_of t) ≡ Some c.dictionary_at = optional-table i64 (pos 11) t ∙ maybe_back i64 (pos 11) w.whole_64 (FitsSigned w64) (λ z f. i64_back z) c.dictionary_at fits.dictionary_at in
      let statistics : checked shape.Struct (pos 12) (w.fields_of t) ≡ Some tt = checked-table shape.Struct (pos 12) t in
      rw (physical, encodings, path, codec, values, unpacked, packed, pairs, page_at, index, dictionary_at, statistics) refl

  chunk_back : struct chunk_of 0 (w.inner (w.chunk_table c)) ≡ Some c
  chunk_back =
      struct_back chunk_of (w.fields_of (w.chunk_table c))
      ∙ rw (i64_back (pos 0)) (struct_back (column_of false) (w.fields_of (w.column_table c)) ∙ column_back ∙ ap (λ (b : Bool). Some (record c { external = b })) (sym is.inside))

group_back : (g : RowGroup) → GroupFits g × AllByRecursion IsWritableChunk g.chunks → struct group_of 0 (w.inner (w.group_table g)) ≡ Some g
group_back g h =
    let chunks : list (struct chunk_of) 0 (n.List (map (λ c. w.inner (w.chunk_table c)) g.chunks)) ≡ Some g.chunks =
    list_back (struct chunk_of) 0 (map (λ c. w.inner (w.chunk_table c)) g.chunks)
    ∙ each_back (struct chunk_of 0) (λ c. w.inner (w.chunk_table c)) (λ c. c) (λ c. ChunkFits c × IsWritableChunk c) (λ c k. chunk_back c k.0 k.1) g.chunks (both ChunkFits IsWritableChunk g.chunks h.0.chunks h.1) ∙ ap Some (map_same g.chunks) in
    let t = w.group_table g in
    let columns : needed (list (struct chunk_of)) (pos 1) (w.fields_of t) ≡ Some g.chunks = needed-table (list (struct chunk_of)) (pos 1) t ∙ chunks in
    let bytes : needed i64 (pos 2) (w.fields_of t) ≡ Some g.bytes = needed-table i64 (pos 2) t ∙ i64_back g.bytes in
    let rows : needed i64 (pos 3) (w.fields_of t) ≡ Some g.rows = needed-table i64 (pos 3) t ∙ i64_back g.rows in
    struct_back group_of (w.fields_of t) ∙ by_parts (w.fields_of t) columns bytes rows
  where
    by_parts : (t : List Field) → needed (list (struct chunk_of)) (pos 1) t ≡ Some g.chunks → needed i64 (pos 2) t ≡ Some g.bytes → needed i64 (pos 3) t ≡ Some g.rows → group_of t ≡ Some g
    by_parts t columns bytes rows = rw (columns, bytes, rows) refl

abbrev root_element : ℕ → Element
root_element count = record {
  physical = None;
  length = None;
  repetition = None;
  name = codes "schema";
  children = Some (pos count);
  field_id = None;
  annotation = record { converted = None; scale = None; precision = None; logical = logical.Absent };
}

footer_by_parts : (f : Footer) (t : List Field) (root : Element) (version : ℤ) → needed i32 (pos 1) t ≡ Some version
    → needed (list (struct element_of)) (pos 2) t ≡ Some (root ∷ map leaf_element f.leaves)
    → needed i64 (pos 3) t ≡ Some f.rows → needed (list (struct group_of)) (pos 4) t ≡ Some f.groups
    → checked shape.Structs (pos 5) t ≡ Some tt → checked shape.Binary (pos 6) t ≡ Some tt → checked shape.Structs (pos 7) t ≡ Some tt
    → root.children ≡ Some (pos (length f.leaves)) → IsWritableFooter f → footer_of t ≡ Some f
footer_by_parts f t root version a b c d e g h many is = rw (a, b, c, d, e, g, h, schema_back root f.leaves many is.leaves, is.groups) refl

pub footer_back : (f : Footer) → FooterFits f → IsWritableFooter f → footer_of (w.footer_fields f) ≡ Some f
unfolding w.footer_fields
footer_back f fits is =
    let t = w.footer_table f in
    let count = length f.leaves in
    let few : length f.leaves < 2 ^ 31 = is.few in
    let count_fits : FitsSigned w32 (pos (length f.leaves)) = omega arith in
    let elements : list (struct element_of) 0 (n.List (w.inner (w.root_table count) ∷ map (λ leaf. w.inner (w.leaf_table leaf)) f.leaves)) ≡ Some (root_element count ∷ map leaf_element f.leaves) =
    list_back (struct element_of) 0 (w.inner (w.root_table count) ∷ map (λ leaf. w.inner (w.leaf_table leaf)) f.leaves)
    ∙ with_root (struct element_of 0 (w.inner (w.root_table count))) (root_element count) (each (struct element_of 0) (map (λ leaf. w.inner (w.leaf_table leaf)) f.leaves)) (map leaf_element f.leaves)
    (struct_back element_of (w.fields_of (w.root_table count)) ∙ root_back count count_fits)
    (each_back (struct element_of 0) (λ leaf. w.inner (w.leaf_table leaf)) leaf_element (λ leaf. LeafFits leaf × IsWritableLeaf leaf)
    (λ leaf k. struct_back element_of (w.fields_of (w.leaf_table leaf)) ∙ element_back leaf k.0 k.1) f.leaves (both LeafFits IsWritableLeaf f.leaves fits.leaves is.leaves)) in
    let groups : list (struct group_of) 0 (n.List (map (λ g. w.inner (w.group_table g)) f.groups)) ≡ Some f.groups =
    list_back (struct group_of) 0 (map (λ g. w.inner (w.group_table g)) f.groups)
    ∙ each_back (struct group_of 0) (λ g. w.inner (w.group_table g)) (λ g. g) (λ g. GroupFits g × AllByRecursion IsWritableChunk g.chunks) group_back f.groups
    (both GroupFits (λ g. AllByRecursion IsWritableChunk g.chunks) f.groups fits.groups is.chunks) ∙ ap Some (map_same f.groups) in
    footer_by_parts f (w.fields_of t) (root_element count) (pos 1)
    (needed-table i32 (pos 1) t ∙ i32_back (pos 1) one_fits)
    (needed-table (list (struct element_of)) (pos 2) t ∙ elements)
    (needed-table i64 (pos 3) t ∙ i64_back f.rows)
    (needed-table (list (struct group_of)) (pos 4) t ∙ groups)
    (checked-table shape.Structs (pos 5) t)
    (checked-table shape.Binary (pos 6) t ∙ created_back)
    (checked-table shape.Structs (pos 7) t)
    refl is
  where
    one_fits : FitsSigned w32 (pos 1)
    one_fits = omega arith

    with_root : {A : Type 0} (o : Option A) (a : A) (more : Option (List A)) (as' : List A) → o ≡ Some a → more ≡ Some as' → option_and_then (λ x. option_map (λ xs. x ∷ xs) more) o ≡ Some (a ∷ as')
    with_root o a more as' h k = rw (h, k) refl

    created_back : maybe_checked shape.Binary (Some (record { id = pos 6; width = 0; node = n.Binary (codes "deltamerge") })) ≡ Some tt
    created_back = rw (n.outs-Binary (codes "deltamerge")) refl

pub whole_back : (f : Footer) (bytes : List ℕ) → FooterFits f → IsWritableFooter f → read bytes ≡ Ok (w.footer_fields f, length bytes) → footer_in bytes ≡ Some f
unfolding footer_in
whole_back f bytes fits is known = ap (whole_footer (length bytes)) known ∙ rw (eq-eqb (length bytes) (length bytes) refl) (footer_back f fits is)
