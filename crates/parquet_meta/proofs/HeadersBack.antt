-- What is written for a page header is read as that header.
use Rattle.std.proofs.Common.{◌≡◌, ℕ, List, Some, option_and_then, Ok, refl, ap, ◌∙◌, pos, lit<}
use Rattle.thrift_compact.specs.Reading.{read}
use Rattle.thrift_compact.specs.Writable.{IsWritable, IsWritableValue}
use Rattle.parquet_meta.specs.declared.forms.Shape.TheVariants as shape
use Rattle.parquet_meta.specs.declared.headers.PageHeader.{PageHeader}
use Rattle.parquet_meta.specs.declared.headers.PageV1.{PageV1}
use Rattle.parquet_meta.specs.declared.headers.DictionaryPage.{DictionaryPage}
use Rattle.parquet_meta.specs.declared.headers.PageV2.{PageV2}
use Rattle.parquet_meta.specs.Forms.{needed, optional, checked, i32, struct}
use Rattle.parquet_meta.specs.Headers.{page_of, dictionary_of, page_v2_of, header_of}
use Rattle.parquet_meta.specs.Meaning.{front_header, page_header_in}
use Rattle.parquet_meta.specs.Steps.{PageFits, DictionaryFits, PageV2Fits, HeaderFits}
use Rattle.parquet_meta.specs.Written as w
use Rattle.parquet_meta.proofs.Tables.{needed-table, optional-table, checked-table, i32_back, struct_back, maybe_back}
use Rattle.parquet_meta.proofs.WritableTables.{WritableValues, if_map, table_writable, inner_writable, entry_32, id_fits}

pub page_back : (p : PageV1) → PageFits p → page_of (w.fields_of (w.page_table p)) ≡ Some p
page_back p fits = rw (i32_back p.values fits.values, i32_back p.encoding fits.encoding, i32_back p.definition fits.definition, i32_back p.repetition fits.repetition) refl

pub dictionary_back : (p : DictionaryPage) → DictionaryFits p → dictionary_of (w.fields_of (w.dictionary_table p)) ≡ Some p
dictionary_back p fits = rw (i32_back p.values fits.values, i32_back p.encoding fits.encoding) refl

pub page_v2_back : (p : PageV2) → PageV2Fits p → page_v2_of (w.fields_of (w.page_v2_table p)) ≡ Some p
page_v2_back p fits =
    rw (i32_back p.values fits.values, i32_back p.nulls fits.nulls, i32_back p.rows fits.rows, i32_back p.encoding fits.encoding, i32_back p.definition_bytes fits.definition, i32_back p.repetition_bytes fits.repetition) refl

pub header_back : (h : PageHeader) → HeaderFits h → header_of (w.header_fields h) ≡ Some h
unfolding w.header_fields
header_back h fits =
    let t = w.header_table h in
    let kind : needed i32 (pos 1) (w.fields_of t) ≡ Some h.kind = needed-table i32 (pos 1) t ∙ i32_back h.kind fits.kind in
    let unpacked : needed i32 (pos 2) (w.fields_of t) ≡ Some h.unpacked = needed-table i32 (pos 2) t ∙ i32_back h.unpacked fits.unpacked in
    let packed : needed i32 (pos 3) (w.fields_of t) ≡ Some h.packed = needed-table i32 (pos 3) t ∙ i32_back h.packed fits.packed in
    let crc : checked shape.I32 (pos 4) (w.fields_of t) ≡ Some tt = checked-table shape.I32 (pos 4) t in
    let page : optional (struct page_of) (pos 5) (w.fields_of t) ≡ Some h.page =
    optional-table (struct page_of) (pos 5) t ∙ maybe_back (struct page_of) (pos 5) (λ p. w.struct (w.page_table p)) PageFits (λ p f. struct_back page_of (w.fields_of (w.page_table p)) ∙ page_back p f) h.page fits.page in
    let index : checked shape.Struct (pos 6) (w.fields_of t) ≡ Some tt = checked-table shape.Struct (pos 6) t in
    let dictionary : optional (struct dictionary_of) (pos 7) (w.fields_of t) ≡ Some h.dictionary =
    optional-table (struct dictionary_of) (pos 7) t
    ∙ maybe_back (struct dictionary_of) (pos 7) (λ p. w.struct (w.dictionary_table p)) DictionaryFits (λ p f. struct_back dictionary_of (w.fields_of (w.dictionary_table p)) ∙ dictionary_back p f) h.dictionary fits.dictionary in
    let page_v2 : optional (struct page_v2_of) (pos 8) (w.fields_of t) ≡ Some h.page_v2 =
    optional-table (struct page_v2_of) (pos 8) t
    ∙ maybe_back (struct page_v2_of) (pos 8) (λ p. w.struct (w.page_v2_table p)) PageV2Fits (λ p f. struct_back page_v2_of (w.fields_of (w.page_v2_table p)) ∙ page_v2_back p f) h.page_v2 fits.page_v2 in
    rw (kind, unpacked, packed, crc, page, index, dictionary, page_v2) refl

pub front_back : (h : PageHeader) (bytes : List ℕ) (size : ℕ) → HeaderFits h → read bytes ≡ Ok (w.header_fields h, size) → page_header_in bytes ≡ Some (h, size)
unfolding page_header_in
front_back h bytes size fits is = ap front_header is ∙ ap (option_and_then (λ header. Some (header, size))) (header_back h fits)

module _ (law : WritableValues) where
  page_writable : (p : PageV1) → PageFits p → IsWritableValue 63 0 (w.inner (w.page_table p))
  page_writable p fits = inner_writable law 62 (w.page_table p)
      (entry_32 law 62 1 p.values (lit< tt) fits.values, (entry_32 law 62 2 p.encoding (lit< tt) fits.encoding, (entry_32 law 62 3 p.definition (lit< tt) fits.definition, (entry_32 law 62 4 p.repetition (lit< tt) fits.repetition, tt))))

  dictionary_writable : (p : DictionaryPage) → DictionaryFits p → IsWritableValue 63 0 (w.inner (w.dictionary_table p))
  dictionary_writable p fits = inner_writable law 62 (w.dictionary_table p) (entry_32 law 62 1 p.values (lit< tt) fits.values, (entry_32 law 62 2 p.encoding (lit< tt) fits.encoding, tt))

  page_v2_writable : (p : PageV2) → PageV2Fits p → IsWritableValue 63 0 (w.inner (w.page_v2_table p))
  page_v2_writable p fits = inner_writable law 62 (w.page_v2_table p) (
    entry_32 law 62 1 p.values (lit< tt) fits.values,
    (
      entry_32 law 62 2 p.nulls (lit< tt) fits.nulls,
      (
        entry_32 law 62 3 p.rows (lit< tt) fits.rows,
        (entry_32 law 62 4 p.encoding (lit< tt) fits.encoding, (entry_32 law 62 5 p.definition_bytes (lit< tt) fits.definition, (entry_32 law 62 6 p.repetition_bytes (lit< tt) fits.repetition, tt))),
      ),
    ),
  )

  pub header_writable : (h : PageHeader) → HeaderFits h → IsWritable (w.header_fields h)
  unfolding w.header_fields
  header_writable h fits = table_writable 63 (w.header_table h) (
    entry_32 law 63 1 h.kind (lit< tt) fits.kind,
    (
      entry_32 law 63 2 h.unpacked (lit< tt) fits.unpacked,
      (
        entry_32 law 63 3 h.packed (lit< tt) fits.packed,
        (
          record { id = id_fits 5 (lit< tt); value = if_map PageFits (λ v. IsWritableValue 63 v.0 v.1) (λ p. w.struct (w.page_table p)) h.page page_writable fits.page },
          (
            record { id = id_fits 7 (lit< tt); value = if_map DictionaryFits (λ v. IsWritableValue 63 v.0 v.1) (λ p. w.struct (w.dictionary_table p)) h.dictionary dictionary_writable fits.dictionary },
            (record { id = id_fits 8 (lit< tt); value = if_map PageV2Fits (λ v. IsWritableValue 63 v.0 v.1) (λ p. w.struct (w.page_v2_table p)) h.page_v2 page_v2_writable fits.page_v2 }, tt),
          ),
        ),
      ),
    ),
  )
