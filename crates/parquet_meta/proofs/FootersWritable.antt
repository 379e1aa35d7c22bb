-- The tree of a footer is writable.
use Rattle.std.proofs.Common.{ℕ, ◌+◌, ◌<◌, ◌≤◌, ◌^◌, List, [], ◌∷◌, length, map, Bool, true, false, cond, eqb, Option, Some, None, refl, arith, ℤ, pos, codes, lit<}
use Rattle.std.specs.Prelude.{IfSome, FitsSigned}
use Rattle.std.specs.Int.{w32, w64}
use Rattle.std.specs.List.{AllByRecursion}
use Rattle.thrift_compact.specs.Writable.{IsWritable, IsWritableValue, IsElement, AreElements}
use Rattle.thrift_compact.specs.Written.{form_of, whole_kind}
use Rattle.thrift_compact.specs.declared.tree.Node.{Node}
use Rattle.thrift_compact.specs.declared.tree.Node.TheVariants as n
use Rattle.parquet_meta.specs.declared.metadata.Logical.{Logical}
use Rattle.parquet_meta.specs.declared.metadata.Logical.TheVariants as logical
use Rattle.parquet_meta.specs.declared.metadata.LeafSchema.{LeafSchema}
use Rattle.parquet_meta.specs.declared.metadata.ChunkMeta.{ChunkMeta}
use Rattle.parquet_meta.specs.declared.metadata.RowGroup.{RowGroup}
use Rattle.parquet_meta.specs.declared.metadata.Footer.{Footer}
use Rattle.parquet_meta.specs.Writable.{IsWritableLogical, IsWritableLeaf, IsWritableChunk, IsWritableFooter}
use Rattle.parquet_meta.specs.Steps.{LogicalFits, LeafFits, ChunkFits, GroupFits, FooterFits}
use Rattle.parquet_meta.specs.Written as w
use Rattle.parquet_meta.proofs.WritableTables.{WritableValues, IsEntry, is_32, id_fits, table_writable, inner_writable, entry_32, entry_maybe_32, entry_64, entry_maybe_64, entry_bytes}
use Rattle.parquet_meta.proofs.FootersBack.{both}

all_map : {A B : Type 0} (P : A → Type 0) (Q : B → Type 0) (f : A → B) (xs : List A) → ((x : A) → P x → Q (f x)) → AllByRecursion P xs → AllByRecursion Q (map f xs)
all_map P Q f [] k h = tt
all_map P Q f (x ∷ xs) k h = (k x h.0, all_map P Q f xs k h.1)

all_any : {A B : Type 0} (Q : B → Type 0) (f : A → B) (xs : List A) → ((x : A) → Q (f x)) → AllByRecursion Q (map f xs)
all_any Q f [] k = tt
all_any Q f (x ∷ xs) k = (k x, all_any Q f xs k)

-- elements of the type of `sample`
elements_are : (inner : ℕ → Node → Type 0) (sample : Node) (nodes : List Node) → AllByRecursion (IsElement inner 0 (form_of sample 0).kind) nodes → AreElements inner 0 nodes
elements_are inner sample [] h = refl
elements_are inner sample (node ∷ nodes) h = ((form_of sample 0).kind, h)

module _ (law : WritableValues) where
  -- a list of structs made of tables
  structs_writable : {A : Type 0} (left : ℕ) (P : A → Type 0) (table : A → List (ℤ × Option (ℕ × Node))) → ((a : A) → P a → AllByRecursion (IsEntry left) (table a)) → (xs : List A) → AllByRecursion P xs
      → AllByRecursion (IsElement (IsWritableValue (left + 1)) 0 (form_of (n.Struct []) 0).kind) (map (λ a. w.inner (table a)) xs)
  structs_writable left P table k xs h = all_map P _ (λ a. w.inner (table a)) xs (λ a p. law.struct_element left (w.fields_of (table a)) (table_writable left (table a) (k a p))) h

  wholes_are : (left : ℕ) (zs : List ℤ) → AllByRecursion (FitsSigned w32) zs → AreElements (IsWritableValue left) (w.whole_width zs) (map n.Whole zs)
  wholes_are left [] h = refl
  wholes_are left (z ∷ zs) h = (whole_kind 32, all_map (FitsSigned w32) (IsElement (IsWritableValue left) 32 (whole_kind 32)) n.Whole (z ∷ zs) (λ y f. law.whole_element left 32 y (is_32 y f)) h)

  -- ---- leaves

  unit_writable : (unit : ℕ) → unit ≤ 3 → IfSome (w.unit_content unit) (λ v. IsWritableValue 59 v.0 v.1)
  unit_writable unit small = by_test (eqb unit 0)
    where
      by_test : (b : Bool) → IfSome (cond b None (Some (w.struct ((pos unit, Some (w.struct [])) ∷ [])))) (λ v. IsWritableValue 59 v.0 v.1)
      by_test true = tt
      by_test false = inner_writable law 58 ((pos unit, Some (w.struct [])) ∷ []) (record { id = id_fits unit (omega arith); value = inner_writable law 57 [] tt }, tt)

  logical_writable : (l : Logical) → LogicalFits l → IsWritableLogical l → IfSome (w.logical_content l) (λ v. IsWritableValue 61 v.0 v.1)
  logical_writable logical.Absent f h = tt
  logical_writable logical.Str f h = inner_writable law 60 ((pos 1, Some (w.struct [])) ∷ []) (record { id = id_fits 1 (lit< tt); value = inner_writable law 59 [] tt }, tt)
  logical_writable (logical.Decimal scale) f h =
      inner_writable law 60 ((pos 5, Some (w.struct ((pos 1, Some (w.whole_32 scale)) ∷ []))) ∷ [])
      (record { id = id_fits 5 (lit< tt); value = inner_writable law 59 ((pos 1, Some (w.whole_32 scale)) ∷ []) (entry_32 law 59 1 scale (lit< tt) f, tt) }, tt)
  logical_writable logical.Date f h = inner_writable law 60 ((pos 6, Some (w.struct [])) ∷ []) (record { id = id_fits 6 (lit< tt); value = inner_writable law 59 [] tt }, tt)
  logical_writable (logical.Timestamp unit) f h =
      inner_writable law 60 ((pos 8, Some (w.struct ((pos 2, w.unit_content unit) ∷ []))) ∷ [])
      (record { id = id_fits 8 (lit< tt); value = inner_writable law 59 ((pos 2, w.unit_content unit) ∷ []) (record { id = id_fits 2 (lit< tt); value = unit_writable unit h }, tt) }, tt)
  logical_writable logical.Other f h = absurd h

  leaf_writable : (leaf : LeafSchema) → LeafFits leaf × IsWritableLeaf leaf → AllByRecursion (IsEntry 61) (w.leaf_table leaf)
  leaf_writable leaf h = (
    entry_32 law 61 1 (pos leaf.physical) (lit< tt) h.0.physical,
    (
      entry_maybe_32 law 61 2 (w.told_length leaf.length) (lit< tt) h.0.length,
      (
        entry_32 law 61 3 (pos (w.repetition_by leaf.optional leaf.repeated)) (lit< tt) h.0.repetition,
        (
          entry_bytes law 61 4 leaf.name (lit< tt),
          (
            entry_maybe_32 law 61 6 leaf.annotation.converted (lit< tt) h.0.converted,
            (
              entry_maybe_32 law 61 7 leaf.annotation.scale (lit< tt) h.0.scale,
              (
                entry_maybe_32 law 61 8 leaf.annotation.precision (lit< tt) h.0.precision,
                (
                  entry_maybe_32 law 61 9 leaf.field_id (lit< tt) h.0.field_id,
                  (record { id = id_fits 10 (lit< tt); value = logical_writable leaf.annotation.logical h.0.logical h.1.logical }, tt),
                ),
              ),
            ),
          ),
        ),
      ),
    ),
  )

  -- ---- chunks

  column_writable : (c : ChunkMeta) → ChunkFits c × IsWritableChunk c → AllByRecursion (IsEntry 58) (w.column_table c)
  column_writable c h = (
    entry_32 law 58 1 c.physical (lit< tt) h.0.physical,
    (
      record { id = id_fits 2 (lit< tt); value = law.lists 57 (w.whole_width c.encodings) (map n.Whole c.encodings) (wholes_are 57 c.encodings h.1.encodings) },
      (
        record { id = id_fits 3 (lit< tt); value = law.lists 57 0 (map n.Binary c.path) (elements_are (IsWritableValue 57) (n.Binary []) (map n.Binary c.path) (all_any _ n.Binary c.path (law.binary_element 57))) },
        (
          entry_32 law 58 4 c.codec (lit< tt) h.0.codec,
          (
            entry_64 law 58 5 c.values (lit< tt) h.0.values,
            (
              entry_64 law 58 6 c.unpacked (lit< tt) h.0.unpacked,
              (
                entry_64 law 58 7 c.packed (lit< tt) h.0.packed,
                (
                  entry_64 law 58 9 c.page_at (lit< tt) h.0.page_at,
                  (entry_maybe_64 law 58 11 c.dictionary_at (lit< tt) h.0.dictionary_at, tt),
                ),
              ),
            ),
          ),
        ),
      ),
    ),
  )

  chunk_writable : (c : ChunkMeta) → ChunkFits c × IsWritableChunk c → AllByRecursion (IsEntry 59) (w.chunk_table c)
  chunk_writable c h = (entry_64 law 59 2 (pos 0) (lit< tt) zero_fits, (record { id = id_fits 3 (lit< tt); value = inner_writable law 58 (w.column_table c) (column_writable c h) }, tt))
    where
      zero_fits : FitsSigned w64 (pos 0)
      zero_fits = omega arith

  group_writable : (g : RowGroup) → GroupFits g × AllByRecursion IsWritableChunk g.chunks → AllByRecursion (IsEntry 61) (w.group_table g)
  group_writable g h = (
    record {
      id = id_fits 1 (lit< tt);
      value = law.lists 60 0 (map (λ c. w.inner (w.chunk_table c)) g.chunks) (elements_are (IsWritableValue 60) (n.Struct []) _
          (structs_writable 59 (λ c. ChunkFits c × IsWritableChunk c) w.chunk_table chunk_writable g.chunks (both ChunkFits IsWritableChunk g.chunks h.0.chunks h.1)));
    },
    (entry_64 law 61 2 g.bytes (lit< tt) h.0.bytes, (entry_64 law 61 3 g.rows (lit< tt) h.0.rows, tt)),
  )

  -- ---- footers

  root_writable : (count : ℕ) → count < 2 ^ 31 → AllByRecursion (IsEntry 61) (w.root_table count)
  root_writable count few = (entry_bytes law 61 4 (codes "schema") (lit< tt), (entry_32 law 61 5 (pos count) (lit< tt) (omega arith), tt))

  pub footer_writable : (f : Footer) → FooterFits f → IsWritableFooter f → IsWritable (w.footer_fields f)
  unfolding w.footer_fields
  footer_writable f fits is = table_writable 63 (w.footer_table f) (
    entry_32 law 63 1 (pos 1) (lit< tt) one_fits,
    (
      record {
        id = id_fits 2 (lit< tt);
        value = law.lists 62 0 (w.inner (w.root_table (length f.leaves)) ∷ map (λ leaf. w.inner (w.leaf_table leaf)) f.leaves) (
          (form_of (n.Struct []) 0).kind,
          (
            law.struct_element 61 (w.fields_of (w.root_table (length f.leaves))) (table_writable 61 (w.root_table (length f.leaves)) (root_writable (length f.leaves) is.few)),
            structs_writable 61 (λ leaf. LeafFits leaf × IsWritableLeaf leaf) w.leaf_table leaf_writable f.leaves (both LeafFits IsWritableLeaf f.leaves fits.leaves is.leaves),
          ),
        );
      },
      (
        entry_64 law 63 3 f.rows (lit< tt) fits.rows,
        (
          record {
            id = id_fits 4 (lit< tt);
            value = law.lists 62 0 (map (λ g. w.inner (w.group_table g)) f.groups) (elements_are (IsWritableValue 62) (n.Struct []) _
                (structs_writable 61 (λ g. GroupFits g × AllByRecursion IsWritableChunk g.chunks) w.group_table group_writable f.groups (both GroupFits (λ g. AllByRecursion IsWritableChunk g.chunks) f.groups fits.groups is.chunks)));
          },
          (entry_bytes law 63 6 (codes "deltamerge") (lit< tt), tt),
        ),
      ),
    ),
  )
    where
      one_fits : FitsSigned w32 (pos 1)
      one_fits = omega arith
